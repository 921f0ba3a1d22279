use Rattle.nb_building.proofs.Common.{inr, ap, arith, length, refl, fragments, datagram, piece, too_long}
use Rattle.nb_building.proofs.ArgumentLemmas.{five_words}
use Rattle.nb_building.proofs.BuiltLemmas.{fragments_named, too_much}
use Rattle.nb_building.proofs.UnnamedLemmas.{one_data}
use Rattle.nb_building.proofs.DatagramWordLemmas.{fragment_words, fragments_explained}
use Rattle.nb_building.proofs.TakenLemmas.{kind_form, other_count, refused_at, text_refused_at}
use Rattle.nb_building.proofs.datagram.fragments.Goals.{in_default-via-then-words-lt5, in_default-via-else-words-lt5+else-words-lt6}
use Rattle.nb_building.proofs.datagram.fragments.Goals as goal

pub returns-in-Ok-clause-built : goal.returns-in-Ok-clause-built
returns-in-Ok-clause-built c =
    fragments_named _ _ _ _ _ _ c.fragments_of.result refl
    (five_words (λ w. w.now) _ c.args.words.now c.in-len5.len_at_least c.in-len5.len_below)
    (λ cut. fragments _ c.in_ok-most.most _ _ _ _ _ c.in_ok-key.ensures c.in_ok-source.ensures.found c.in_ok-destination.ensures.found
    c.in_ok-data.ensures c.in_ok-most.ensures cut.0 c.in-Ok.ensures.1 cut.1)
    (rw c.in-Ok.ensures.0 at c.fragments_of.ensures.built)

pub returns-in_err-key-clause-refused : goal.returns-in_err-key-clause-refused
returns-in_err-key-clause-refused c =
    refused_at _ _ _ _ _ _ 0 _ c.from_residual.result (kind_form c.args.kind) (five_words (λ w. w.now) _ c.args.words.now c.in-len5.len_at_least c.in-len5.len_below)
    c.from_residual.ensures.1 c.in_err-key.ensures
    (λ none. none)

pub returns-in_err-source-clause-refused : goal.returns-in_err-source-clause-refused
returns-in_err-source-clause-refused c =
    text_refused_at _ _ _ _ _ 1 _ c.from_residual-in_err-source.result (kind_form c.args.kind) (five_words (λ w. w.now) _ c.args.words.now c.in-len5.len_at_least c.in-len5.len_below)
    c.from_residual-in_err-source.ensures.1 c.in_err-source.ensures.refused
    (λ none. ((_, c.in_ok-key.ensures), none))

pub returns-in_err-destination-clause-refused : goal.returns-in_err-destination-clause-refused
returns-in_err-destination-clause-refused c =
    text_refused_at _ _ _ _ _ 2 _ c.from_residual-in_err-destination.result (kind_form c.args.kind) (five_words (λ w. w.now) _ c.args.words.now c.in-len5.len_at_least c.in-len5.len_below)
    c.from_residual-in_err-destination.ensures.1 c.in_err-destination.ensures.refused
    (λ none. ((_, c.in_ok-key.ensures), ((_, c.in_ok-source.ensures.found), none)))

pub returns-in_err-data-clause-refused : goal.returns-in_err-data-clause-refused
returns-in_err-data-clause-refused c =
    refused_at _ _ _ _ _ _ 3 _ c.from_residual-in_err-data.result (kind_form c.args.kind) (five_words (λ w. w.now) _ c.args.words.now c.in-len5.len_at_least c.in-len5.len_below)
    c.from_residual-in_err-data.ensures.1 c.in_err-data.ensures
    (λ none. ((_, c.in_ok-key.ensures), ((_, c.in_ok-source.ensures.found), ((_, c.in_ok-destination.ensures.found), none))))

pub returns-in_err-most-clause-refused : goal.returns-in_err-most-clause-refused
returns-in_err-most-clause-refused c =
    refused_at _ _ _ _ _ _ 4 _ c.from_residual-in_err-most.result (kind_form c.args.kind) (five_words (λ w. w.now) _ c.args.words.now c.in-len5.len_at_least c.in-len5.len_below)
    c.from_residual-in_err-most.ensures.1 (inr c.in_err-most.ensures)
    (λ none. ((_, c.in_ok-key.ensures), ((_, c.in_ok-source.ensures.found), ((_, c.in_ok-destination.ensures.found), ((_, c.in_ok-data.ensures), none)))))

pub returns-in-Err-clause-refused : goal.returns-in-Err-clause-refused
returns-in-Err-clause-refused c = too_long (λ payloads names.
    let h = fragment_words _ _ _ _ _ _ _ _ (five_words (λ w. w.now) _ c.args.words.now c.in-len5.len_at_least c.in-len5.len_below) names in
    let same = one_data _ h.whole.bytes _ c.in_ok-data.ensures h.bytes in
    absurd (omega (arith, c.in-Err.ensures, ap length same, h.short)))
    (too_much _ _ _ _ refl (five_words (λ w. w.now) _ c.args.words.now c.in-len5.len_at_least c.in-len5.len_below)
    (datagram c.args.kind _ _ _ _ _ (_, c.in_ok-data.ensures, c.in-Err.ensures)))

pub returns-in-Ok-clause-refused : goal.returns-in-Ok-clause-refused
returns-in-Ok-clause-refused c =
    fragments_explained _ _ _ _ _ _ _ _ c.in_ok-most.most c.fragments_of.result (five_words (λ w. w.now) _ c.args.words.now c.in-len5.len_at_least c.in-len5.len_below)
    c.in_ok-source.ensures.only c.in_ok-destination.ensures.only c.in_ok-data.ensures c.in_ok-most.ensures
    (λ some far. piece _ c.in_ok-most.most _ _ _ _ _ c.in_ok-key.ensures c.in_ok-source.ensures.found c.in_ok-destination.ensures.found
    c.in_ok-data.ensures c.in_ok-most.ensures some far)
    (rw c.in-Ok.ensures.0 at c.fragments_of.ensures.too_long) (rw c.in-Ok.ensures.0 at c.fragments_of.ensures.refused)

pub returns-in_default-clause-refused : goal.returns-in_default-clause-refused
returns-in_default-clause-refused c = other_count _ (λ w. w.now) _ c.args.words.now _ (kind_form c.args.kind) (λ is.
    elim c.in_default.branch [ in_default-via-then-words-lt5 w ↦ grind (arith, is) | in_default-via-else-words-lt5+else-words-lt6 w ↦ grind (arith, is) ])
