use Rattle.std.proofs.Common.{◌≡◌, ◌≤◌, ℕ, List, [], ◌∷◌, length, take, drop, get_or, None, refl, subst, arith}
use Rattle.nb_names.specs.declared.reading.Pointers.TheVariants.{Followed}
use Rattle.nb_names.specs.Code.Kept.{HasLabel}
use Rattle.nb_streams.specs.Places.{StandsAt}
use Rattle.nb_names.specs.Skipped.{IsSkipped}
use Rattle.nb_names.proofs.LabelsLemmas.{stands_one}
use Rattle.nb_names.proofs.ReadingLemmas.{label_there, label_turn, reading_begun}
use Rattle.nb_names.proofs.SkippedLemmas.{skipped_there}
use Rattle.nb_names.proofs.SpellingLemmas.{length-spelling-snoc}
use Rattle.nb_service.proofs.seen.see_plain_question.Goals as goal

-- at byte 12 a label of 32 bytes, and the root after it
first_name : (packet : List ℕ) → 50 ≤ length packet → get_or packet 12 0 ≡ 32 → get_or packet 45 0 ≡ 0
    → IsSkipped packet Followed 12 (take 32 (drop 13 packet) ∷ []) (record { next = 46; spelled_len = 34; stretch = 12; stretch_end = 46 })
first_name packet whole first zero =
    let label : List ℕ = take 32 (drop 13 packet) in
    let has : HasLabel packet 12 32 = record { first = first; some = omega arith; short = omega arith; whole = omega (arith, whole) } in
    let long : length label ≡ 32 = (label_there packet 12 32 has).0 in
    let spelled = length-spelling-snoc [] label in
    let read = label_turn packet Followed 12 12 12 32 [] (label ∷ []) None (reading_begun packet Followed 12) has (omega (arith, spelled, long)) refl in
    let ends : StandsAt packet 45 (0 ∷ []) = subst (λ (b : ℕ). StandsAt packet 45 (b ∷ [])) zero (stands_one packet 45 (omega (arith, whole))) in
    skipped_there packet Followed 12 12 45 34 (label ∷ []) None 46 read (omega (arith, spelled, long)) ends refl

pub returns-clause-found : goal.returns-clause-found
returns-clause-found c =
    let name = first_name _ c.if-packet-lt-FIRST_END.false c.if-packet-ne-LETTERS.false c.if-packet-ne0.false in (
      refl,
      (
        record { name = take 32 (drop 13 c.args.packet.now) ∷ []; kind = c.number_16.result; class = c.number_16-2.result },
        record {
          stands = record { after = 46; name = name.name; kind = c.number_16.ensures; class = c.number_16-2.ensures; end = refl };
          reaches = refl;
          name = name;
          fields = refl;
        },
      ),
    )
