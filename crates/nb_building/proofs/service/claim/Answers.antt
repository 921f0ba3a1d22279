use Rattle.nb_building.proofs.Common.{inr, arith, registration, refresh}
use Rattle.nb_building.proofs.ArgumentLemmas.{five_words}
use Rattle.nb_building.proofs.BuiltLemmas.{service_built}
use Rattle.nb_building.proofs.TakenLemmas.{claim_form, other_count, only_memory, refused_at, text_refused_at}
use Rattle.nb_building.proofs.service.claim.Goals.{in_default-via-then-words-lt5, in_default-via-else-words-lt5+else-words-lt6}
use Rattle.nb_building.proofs.service.claim.Goals as goal

pub returns-in-registration-clause-built : goal.returns-in-registration-clause-built
returns-in-registration-clause-built c =
    service_built _ _ _ _ _ c.registration.result _ c.encoded.result c.in-registration.is
    (five_words (λ w. w.now) _ c.args.words.now c.in-len5.len_at_least c.in-len5.len_below)
    (registration c.in_ok-id.id _ c.in_ok-name.name _ _ _ _ _ _ c.in_ok-id.ensures c.in_ok-name.ensures.found
    c.in_ok-ttl.ensures (c.in_ok-flags.ensures, c.in_ok-address.ensures))
    (rw c.to_bytes-entry.ensures at c.registration.ensures) c.encoded.ensures.built

pub returns-in-refresh-clause-built : goal.returns-in-refresh-clause-built
returns-in-refresh-clause-built c =
    service_built _ _ _ _ _ c.refresh.result _ c.encoded-in-refresh.result c.in-refresh.is
    (five_words (λ w. w.now) _ c.args.words.now c.in-len5.len_at_least c.in-len5.len_below)
    (refresh c.in_ok-id.id _ c.in_ok-name.name _ _ _ _ _ _ c.in_ok-id.ensures c.in_ok-name.ensures.found
    c.in_ok-ttl.ensures (c.in_ok-flags.ensures, c.in_ok-address.ensures))
    (rw c.to_bytes-entry.ensures at c.refresh.ensures) c.encoded-in-refresh.ensures.built

pub returns-in_err-id-clause-refused : goal.returns-in_err-id-clause-refused
returns-in_err-id-clause-refused c =
    refused_at _ _ _ _ _ _ 0 _ c.from_residual.result (claim_form _ c.requires) (five_words (λ w. w.now) _ c.args.words.now c.in-len5.len_at_least c.in-len5.len_below)
    c.from_residual.ensures.1 c.in_err-id.ensures
    (λ none. none)

pub returns-in_err-name-clause-refused : goal.returns-in_err-name-clause-refused
returns-in_err-name-clause-refused c =
    text_refused_at _ _ _ _ _ 1 _ c.from_residual-in_err-name.result (claim_form _ c.requires) (five_words (λ w. w.now) _ c.args.words.now c.in-len5.len_at_least c.in-len5.len_below)
    c.from_residual-in_err-name.ensures.1 c.in_err-name.ensures.refused
    (λ none. ((_, c.in_ok-id.ensures), none))

pub returns-in_err-ttl-clause-refused : goal.returns-in_err-ttl-clause-refused
returns-in_err-ttl-clause-refused c =
    refused_at _ _ _ _ _ _ 2 _ c.from_residual-in_err-ttl.result (claim_form _ c.requires) (five_words (λ w. w.now) _ c.args.words.now c.in-len5.len_at_least c.in-len5.len_below)
    c.from_residual-in_err-ttl.ensures.1 (inr c.in_err-ttl.ensures)
    (λ none. ((_, c.in_ok-id.ensures), ((_, c.in_ok-name.ensures.found), none)))

pub returns-in_err-flags-clause-refused : goal.returns-in_err-flags-clause-refused
returns-in_err-flags-clause-refused c =
    refused_at _ _ _ _ _ _ 3 _ c.from_residual-in_err-flags.result (claim_form _ c.requires) (five_words (λ w. w.now) _ c.args.words.now c.in-len5.len_at_least c.in-len5.len_below)
    c.from_residual-in_err-flags.ensures.1 c.in_err-flags.ensures
    (λ none. ((_, c.in_ok-id.ensures), ((_, c.in_ok-name.ensures.found), ((_, c.in_ok-ttl.ensures), none))))

pub returns-in_err-address-clause-refused : goal.returns-in_err-address-clause-refused
returns-in_err-address-clause-refused c =
    refused_at _ _ _ _ _ _ 4 _ c.from_residual-in_err-address.result (claim_form _ c.requires) (five_words (λ w. w.now) _ c.args.words.now c.in-len5.len_at_least c.in-len5.len_below)
    c.from_residual-in_err-address.ensures.1 (inr c.in_err-address.ensures)
    (λ none. ((_, c.in_ok-id.ensures), ((_, c.in_ok-name.ensures.found), ((_, c.in_ok-ttl.ensures), ((_, c.in_ok-flags.ensures), none)))))

pub returns-in-registration-clause-refused : goal.returns-in-registration-clause-refused
returns-in-registration-clause-refused c = only_memory _ _ _ c.encoded.result c.encoded.ensures.memory

pub returns-in-refresh-clause-refused : goal.returns-in-refresh-clause-refused
returns-in-refresh-clause-refused c = only_memory _ _ _ c.encoded-in-refresh.result c.encoded-in-refresh.ensures.memory

pub returns-in_default-clause-refused : goal.returns-in_default-clause-refused
returns-in_default-clause-refused c = other_count _ (λ w. w.now) _ c.args.words.now _ (claim_form _ c.requires) (λ is.
    elim c.in_default.branch [ in_default-via-then-words-lt5 w ↦ grind (arith, is) | in_default-via-else-words-lt5+else-words-lt6 w ↦ grind (arith, is) ])
