use Rattle.nb_building.proofs.Common.{inr, arith, refl}
use Rattle.nb_building.proofs.ArgumentLemmas.{six_words}
use Rattle.nb_building.proofs.BuiltLemmas.{response_built}
use Rattle.nb_building.proofs.ServiceWordLemmas.{response_explained}
use Rattle.nb_building.proofs.TakenLemmas.{other_count, refused_at, text_refused_at}
use Rattle.nb_building.proofs.response.build.Goals.{in_default-via-then-words-lt6, in_default-via-else-words-lt6+else-words-lt7}
use Rattle.nb_building.proofs.response.build.Goals as goal

pub returns-clause-built : goal.returns-clause-built
returns-clause-built c =
    response_built _ _ c.in_ok-id.id c.in_ok-flags.flags _ _ c.in_ok-name.name _ _ _ _ _ _ _ c.answer.result c.answered.result
    (six_words (λ w. w.now) _ c.args.words.now c.in-len6.len_at_least c.in-len6.len_below)
    c.in_ok-id.ensures c.in_ok-flags.ensures c.in_ok-name.ensures.found c.in_ok-kind.ensures c.in_ok-ttl.ensures c.in_ok-rdata.ensures
    (rw c.as_slice.ensures at c.answer.ensures.made) c.answered.ensures.built

pub returns-in_err-id-clause-refused : goal.returns-in_err-id-clause-refused
returns-in_err-id-clause-refused c =
    refused_at _ _ _ _ _ _ 0 _ c.from_residual.result refl (six_words (λ w. w.now) _ c.args.words.now c.in-len6.len_at_least c.in-len6.len_below)
    c.from_residual.ensures.1 c.in_err-id.ensures
    (λ none. none)

pub returns-in_err-flags-clause-refused : goal.returns-in_err-flags-clause-refused
returns-in_err-flags-clause-refused c =
    refused_at _ _ _ _ _ _ 1 _ c.from_residual-in_err-flags.result refl (six_words (λ w. w.now) _ c.args.words.now c.in-len6.len_at_least c.in-len6.len_below)
    c.from_residual-in_err-flags.ensures.1 c.in_err-flags.ensures
    (λ none. ((_, c.in_ok-id.ensures), none))

pub returns-in_err-name-clause-refused : goal.returns-in_err-name-clause-refused
returns-in_err-name-clause-refused c =
    text_refused_at _ _ _ _ _ 2 _ c.from_residual-in_err-name.result refl (six_words (λ w. w.now) _ c.args.words.now c.in-len6.len_at_least c.in-len6.len_below)
    c.from_residual-in_err-name.ensures.1 c.in_err-name.ensures.refused
    (λ none. ((_, c.in_ok-id.ensures), ((_, c.in_ok-flags.ensures.1), none)))

pub returns-in_err-kind-clause-refused : goal.returns-in_err-kind-clause-refused
returns-in_err-kind-clause-refused c =
    refused_at _ _ _ _ _ _ 3 _ c.from_residual-in_err-kind.result refl (six_words (λ w. w.now) _ c.args.words.now c.in-len6.len_at_least c.in-len6.len_below)
    c.from_residual-in_err-kind.ensures.1 c.in_err-kind.ensures
    (λ none. ((_, c.in_ok-id.ensures), ((_, c.in_ok-flags.ensures.1), ((_, c.in_ok-name.ensures.found), none))))

pub returns-in_err-ttl-clause-refused : goal.returns-in_err-ttl-clause-refused
returns-in_err-ttl-clause-refused c =
    refused_at _ _ _ _ _ _ 4 _ c.from_residual-in_err-ttl.result refl (six_words (λ w. w.now) _ c.args.words.now c.in-len6.len_at_least c.in-len6.len_below)
    c.from_residual-in_err-ttl.ensures.1 (inr c.in_err-ttl.ensures)
    (λ none. ((_, c.in_ok-id.ensures), ((_, c.in_ok-flags.ensures.1), ((_, c.in_ok-name.ensures.found), ((_, c.in_ok-kind.ensures), none)))))

pub returns-in_err-rdata-clause-refused : goal.returns-in_err-rdata-clause-refused
returns-in_err-rdata-clause-refused c =
    refused_at _ _ _ _ _ _ 5 _ c.from_residual-in_err-rdata.result refl (six_words (λ w. w.now) _ c.args.words.now c.in-len6.len_at_least c.in-len6.len_below)
    c.from_residual-in_err-rdata.ensures.1 c.in_err-rdata.ensures
    (λ none. ((_, c.in_ok-id.ensures), ((_, c.in_ok-flags.ensures.1), ((_, c.in_ok-name.ensures.found), ((_, c.in_ok-kind.ensures), ((_, c.in_ok-ttl.ensures), λ h. none (h.0, h.1)))))))

pub returns-clause-refused : goal.returns-clause-refused
returns-clause-refused c =
    response_explained _ _ _ _ _ _ _ _ _ _ c.answer.result c.answered.result (six_words (λ w. w.now) _ c.args.words.now c.in-len6.len_at_least c.in-len6.len_below)
    (_, c.in_ok-id.ensures) (_, c.in_ok-flags.ensures.1) (_, c.in_ok-name.ensures.found) c.in_ok-kind.ensures (_, c.in_ok-ttl.ensures) c.in_ok-rdata.ensures
    (rw c.as_slice.ensures at c.answer.ensures.refused) c.answered.ensures.refused

pub returns-in_default-clause-refused : goal.returns-in_default-clause-refused
returns-in_default-clause-refused c = other_count _ (λ w. w.now) _ c.args.words.now _ refl (λ is.
    elim c.in_default.branch [ in_default-via-then-words-lt6 w ↦ grind (arith, is) | in_default-via-else-words-lt6+else-words-lt7 w ↦ grind (arith, is) ])
