use Rattle.nb_building.proofs.Common.{arith, refl, queries}
use Rattle.nb_building.proofs.ArgumentLemmas.{two_words}
use Rattle.nb_building.proofs.BuiltLemmas.{datagrams_named}
use Rattle.nb_building.proofs.TakenLemmas.{memory_passed_on, other_count, query_form, refused_at, text_refused_at}
use Rattle.nb_building.proofs.datagram.query.Goals.{in_default-via-then-words-lt2, in_default-via-else-words-lt2+else-words-lt3}
use Rattle.nb_building.proofs.datagram.query.Goals as goal

pub returns-clause-built : goal.returns-clause-built
returns-clause-built c =
    datagrams_named _ _ _ _ _ _ refl
    (two_words (λ w. w.now) _ c.args.words.now c.in-len2.len_at_least c.in-len2.len_below)
    (queries c.args.kind _ _ _ _ c.in_ok-key.ensures c.in_ok-destination.ensures.found) c.in_ok-alone.ensures

pub returns-in_err-key-clause-refused : goal.returns-in_err-key-clause-refused
returns-in_err-key-clause-refused c =
    refused_at _ _ _ _ _ _ 0 _ c.from_residual.result (query_form c.args.kind) (two_words (λ w. w.now) _ c.args.words.now c.in-len2.len_at_least c.in-len2.len_below)
    c.from_residual.ensures.1 c.in_err-key.ensures
    (λ none. none)

pub returns-in_err-destination-clause-refused : goal.returns-in_err-destination-clause-refused
returns-in_err-destination-clause-refused c =
    text_refused_at _ _ _ _ _ 1 _ c.from_residual-in_err-destination.result (query_form c.args.kind) (two_words (λ w. w.now) _ c.args.words.now c.in-len2.len_at_least c.in-len2.len_below)
    c.from_residual-in_err-destination.ensures.1 c.in_err-destination.ensures.refused
    (λ none. ((_, c.in_ok-key.ensures), none))

pub returns-in_default-clause-refused : goal.returns-in_default-clause-refused
returns-in_default-clause-refused c = other_count _ (λ w. w.now) _ c.args.words.now _ (query_form c.args.kind) (λ is.
    elim c.in_default.branch [ in_default-via-then-words-lt2 w ↦ grind (arith, is) | in_default-via-else-words-lt2+else-words-lt3 w ↦ grind (arith, is) ])

pub returns-in_err-alone-clause-refused : goal.returns-in_err-alone-clause-refused
returns-in_err-alone-clause-refused c = memory_passed_on _ _ _ c.from_residual-in_err-alone.result c.from_residual-in_err-alone.ensures.1
