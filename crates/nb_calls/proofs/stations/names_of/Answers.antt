use Rattle.nb_calls.proofs.Common.{sym, ◌∙◌}
use Rattle.std.proofs.lemmas.Result.{err_from_is_err_and}
use Rattle.nb_calls.proofs.StationNameLemmas.{no_text, texts_between, naming_more, naming_done, fails_inside, fails_last}
use Rattle.nb_calls.proofs.stations.names_of.Goals as goal

pub returns-then-is_empty : goal.returns-then-is_empty
returns-then-is_empty c = rw c.new-names.ensures (no_text c.args.texts.now (sym c.is_empty.ensures ∙ c.if-is_empty.true))

pub returns-in_err-add : goal.returns-in_err-add
returns-in_err-add c =
    let p = err_from_is_err_and c.from_residual.result c.from_residual.ensures.1 in
    rw (texts_between c.args.texts.now (sym c.is_empty.ensures ∙ c.if-is_empty.false), p.1, p.2)
    (fails_inside _ _ _ _ _ _ _ _ c.in-Some.ensures.0 c.in-Some.ensures.1 c.in_err-add.ensures c.loop-text.invariant)

pub loop-text-preserved : goal.loop-text-preserved
loop-text-preserved c =
    naming_more _ _ _ _ _ _ _ c.in-Some.ensures.0 c.in-Some.ensures.1 c.in_ok-add.ensures c.loop-text.invariant

pub returns-in_err-add-2 : goal.returns-in_err-add-2
returns-in_err-add-2 c =
    let p = err_from_is_err_and c.from_residual-in_err-add-2.result c.from_residual-in_err-add-2.ensures.1 in
    rw (texts_between c.args.texts.now (sym c.is_empty.ensures ∙ c.if-is_empty.false), p.1, p.2)
    (fails_last _ _ _ _ _ _ c.in_default.ensures c.in_err-add-2.ensures c.loop-text.invariant)

pub returns : goal.returns
returns c =
    rw (texts_between c.args.texts.now (sym c.is_empty.ensures ∙ c.if-is_empty.false))
    (naming_done _ _ _ _ _ c.in_default.ensures c.in_ok-add-2.ensures c.loop-text.invariant)
