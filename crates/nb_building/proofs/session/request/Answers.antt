use Rattle.nb_building.proofs.Common.{arith, refl, request}
use Rattle.nb_building.proofs.ArgumentLemmas.{two_words}
use Rattle.nb_building.proofs.BuiltLemmas.{session_built}
use Rattle.nb_building.proofs.TakenLemmas.{other_count, only_memory, text_refused_at}
use Rattle.nb_building.proofs.session.request.Goals.{in_default-via-then-words-lt2, in_default-via-else-words-lt2+else-words-lt3}
use Rattle.nb_building.proofs.session.request.Goals as goal

pub returns-clause-built : goal.returns-clause-built
returns-clause-built c =
    session_built _ _ _ _ _ c.encoded.result refl
    (two_words (λ w. w.now) _ c.args.words.now c.in-len2.len_at_least c.in-len2.len_below)
    (request _ _ _ _ c.in_ok-called.ensures.found c.in_ok-calling.ensures.found)
    c.encoded.ensures.built

pub returns-in_err-called-clause-refused : goal.returns-in_err-called-clause-refused
returns-in_err-called-clause-refused c =
    text_refused_at _ _ _ _ _ 0 _ c.from_residual.result refl (two_words (λ w. w.now) _ c.args.words.now c.in-len2.len_at_least c.in-len2.len_below)
    c.from_residual.ensures.1 c.in_err-called.ensures.refused
    (λ none. none)

pub returns-in_err-calling-clause-refused : goal.returns-in_err-calling-clause-refused
returns-in_err-calling-clause-refused c =
    text_refused_at _ _ _ _ _ 1 _ c.from_residual-in_err-calling.result refl (two_words (λ w. w.now) _ c.args.words.now c.in-len2.len_at_least c.in-len2.len_below)
    c.from_residual-in_err-calling.ensures.1 c.in_err-calling.ensures.refused
    (λ none. ((_, c.in_ok-called.ensures.found), none))

pub returns-clause-refused : goal.returns-clause-refused
returns-clause-refused c = only_memory _ _ _ c.encoded.result c.encoded.ensures.memory

pub returns-in_default-clause-refused : goal.returns-in_default-clause-refused
returns-in_default-clause-refused c = other_count _ (λ w. w.now) _ c.args.words.now _ refl (λ is.
    elim c.in_default.branch [ in_default-via-then-words-lt2 w ↦ grind (arith, is) | in_default-via-else-words-lt2+else-words-lt3 w ↦ grind (arith, is) ])
