use Rattle.nb_building.proofs.Common.{inr, arith, refl, release}
use Rattle.nb_building.proofs.ArgumentLemmas.{four_words}
use Rattle.nb_building.proofs.BuiltLemmas.{service_built}
use Rattle.nb_building.proofs.TakenLemmas.{other_count, only_memory, refused_at, text_refused_at}
use Rattle.nb_building.proofs.service.withdrawal.Goals.{in_default-via-then-words-lt4, in_default-via-else-words-lt4+else-words-lt5}
use Rattle.nb_building.proofs.service.withdrawal.Goals as goal

pub returns-clause-built : goal.returns-clause-built
returns-clause-built c =
    service_built _ _ _ _ _ c.release.result _ c.encoded.result refl
    (four_words (λ w. w.now) _ c.args.words.now c.in-len4.len_at_least c.in-len4.len_below)
    (release c.in_ok-id.id c.in_ok-name.name _ _ _ _ _ c.in_ok-id.ensures c.in_ok-name.ensures.found (c.in_ok-flags.ensures, c.in_ok-address.ensures))
    (rw c.to_bytes-entry.ensures at c.release.ensures) c.encoded.ensures.built

pub returns-in_err-id-clause-refused : goal.returns-in_err-id-clause-refused
returns-in_err-id-clause-refused c =
    refused_at _ _ _ _ _ _ 0 _ c.from_residual.result refl (four_words (λ w. w.now) _ c.args.words.now c.in-len4.len_at_least c.in-len4.len_below)
    c.from_residual.ensures.1 c.in_err-id.ensures
    (λ none. none)

pub returns-in_err-name-clause-refused : goal.returns-in_err-name-clause-refused
returns-in_err-name-clause-refused c =
    text_refused_at _ _ _ _ _ 1 _ c.from_residual-in_err-name.result refl (four_words (λ w. w.now) _ c.args.words.now c.in-len4.len_at_least c.in-len4.len_below)
    c.from_residual-in_err-name.ensures.1 c.in_err-name.ensures.refused
    (λ none. ((_, c.in_ok-id.ensures), none))

pub returns-in_err-flags-clause-refused : goal.returns-in_err-flags-clause-refused
returns-in_err-flags-clause-refused c =
    refused_at _ _ _ _ _ _ 2 _ c.from_residual-in_err-flags.result refl (four_words (λ w. w.now) _ c.args.words.now c.in-len4.len_at_least c.in-len4.len_below)
    c.from_residual-in_err-flags.ensures.1 c.in_err-flags.ensures
    (λ none. ((_, c.in_ok-id.ensures), ((_, c.in_ok-name.ensures.found), none)))

pub returns-in_err-address-clause-refused : goal.returns-in_err-address-clause-refused
returns-in_err-address-clause-refused c =
    refused_at _ _ _ _ _ _ 3 _ c.from_residual-in_err-address.result refl (four_words (λ w. w.now) _ c.args.words.now c.in-len4.len_at_least c.in-len4.len_below)
    c.from_residual-in_err-address.ensures.1 (inr c.in_err-address.ensures)
    (λ none. ((_, c.in_ok-id.ensures), ((_, c.in_ok-name.ensures.found), ((_, c.in_ok-flags.ensures), none))))

pub returns-clause-refused : goal.returns-clause-refused
returns-clause-refused c = only_memory _ _ _ c.encoded.result c.encoded.ensures.memory

pub returns-in_default-clause-refused : goal.returns-in_default-clause-refused
returns-in_default-clause-refused c = other_count _ (λ w. w.now) _ c.args.words.now _ refl (λ is.
    elim c.in_default.branch [ in_default-via-then-words-lt4 w ↦ grind (arith, is) | in_default-via-else-words-lt4+else-words-lt5 w ↦ grind (arith, is) ])
