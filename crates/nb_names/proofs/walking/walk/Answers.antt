use Rattle.std.proofs.Common.{◌≡◌, ◌+◌, ◌-◌, ◌++◌, [], ◌∷◌, ℕ, List, length, take, drop, refl, subst, arith}
use Rattle.nb_names.specs.declared.fault.NameFault.TheVariants.{TooLong}
use Rattle.nb_names.specs.declared.fault.LabelFault.TheVariants.{TooLong as PastLimit}
use Rattle.nb_names.specs.DomainName.{spelling}
use Rattle.nb_names.specs.NameFaults.{FaultAt, cut, reserved, not_allowed, not_below}
use Rattle.nb_names.specs.Skipped.{IsSkipped}
use Rattle.nb_names.proofs.SpellingLemmas.{length-spelling-snoc}
use Rattle.nb_names.proofs.LabelsLemmas.{one_reading, next_within}
use Rattle.nb_names.proofs.FaultLemmas.{no_name}
use Rattle.nb_names.proofs.ReadingLemmas.{reading_begun, reading_ended, reading_fails, way_short, label_there, label_turn, label_past, pointer_turn}
use Rattle.nb_names.proofs.SkippedLemmas.{skipped_there}
use Rattle.nb_names.proofs.ChainLemmas.{chain_turns, ends_lower}
use Rattle.nb_names.proofs.walking.walk.Given.{Over}
use Rattle.nb_names.proofs.walking.walk.Goals as goal

pub way-init : goal.way-init
way-init g c = ([], reading_begun c.args.packet.now c.args.pointers c.args.at, refl, c.requires.none)

pub returns-in-Cut-clause-fault : goal.returns-in-Cut-clause-fault
returns-in-Cut-clause-fault g c = reading_fails _ _ _ _ _ _ _ _ c.way.invariant.1 (rw c.max.ensures (cut c.in-Cut.ensures))

pub returns-in-Cut-clause-only : goal.returns-in-Cut-clause-only
returns-in-Cut-clause-only g c = no_name _ _ _ _ (reading_fails _ _ _ _ _ _ _ _ c.way.invariant.1 (cut c.in-Cut.ensures))

pub returns-in-Reserved-clause-fault : goal.returns-in-Reserved-clause-fault
returns-in-Reserved-clause-fault g c = reading_fails _ _ _ _ _ _ _ _ c.way.invariant.1 (reserved c.in-Reserved.ensures)

pub returns-in-Reserved-clause-only : goal.returns-in-Reserved-clause-only
returns-in-Reserved-clause-only g c = no_name _ _ _ _ (reading_fails _ _ _ _ _ _ _ _ c.way.invariant.1 (reserved c.in-Reserved.ensures))

pub returns-in-End-clause-found : goal.returns-in-End-clause-found
returns-in-End-clause-found g c = (c.way.invariant.0, skipped_there _ _ _ _ _ _ _ _ _ c.way.invariant.1 c.way.invariant.2 c.in-End.ensures c.unwrap_or.ensures, c.way.invariant.3)

pub returns-in-End-clause-only : goal.returns-in-End-clause-only
returns-in-End-clause-only g c labels next there =
    let seen = skipped_there _ _ _ _ _ _ _ _ _ c.way.invariant.1 c.way.invariant.2 c.in-End.ensures c.unwrap_or.ensures in
    let one = one_reading _ _ _ _ _ _ _ _ seen.name there in
    (subst (λ (ls : List (List ℕ)). IsSkipped c.args.packet.now c.args.pointers c.args.at ls (record { next = c.unwrap_or.result; spelled_len = c.way.spelled; stretch = c.way.start; stretch_end = c.way.here + 1 })) one.0 seen, one.1, subst (λ (ls : List (List ℕ)). g.T.Takes.has c.way.taken ls) one.0 c.way.invariant.3)

pub returns-in-End-clause-within : goal.returns-in-End-clause-within
returns-in-End-clause-within g c = rw c.unwrap_or.ensures (next_within _ _ _ _ _ _ (reading_ended _ _ _ _ _ _ _ c.way.invariant.1 c.in-End.ensures))

pub overflow_add-spelled-in-Label : goal.overflow_add-spelled-in-Label
overflow_add-spelled-in-Label g c = omega (arith, c.way.invariant.2, way_short _ _ _ _ _ _ c.way.invariant.1.way, c.in-Label.ensures.short)

-- the label that stands there, after those that were skipped
pub more_spelled : (packet : List ℕ) (here size spelled : ℕ) (labels : List (List ℕ)) → length (take size (drop (here + 1) packet)) ≡ size → spelled ≡ length (spelling labels) →
    spelled + (size + 1) ≡ length (spelling (labels ++ take size (drop (here + 1) packet) ∷ []))
more_spelled packet here size spelled labels long is =
    omega (arith, long, is, length-spelling-snoc labels (take size (drop (here + 1) packet)))

size_of : (here size : ℕ) → here + 1 + size - (here + 1) ≡ size
size_of here size = omega arith

pub take-requires : goal.take-requires
take-requires g c =
    let there = label_there c.args.packet.now c.way.here c.in-Label.size c.in-Label.ensures in
    let more = more_spelled c.args.packet.now c.way.here c.in-Label.size c.way.spelled c.way.invariant.0 there.0 c.way.invariant.2 in
    rw (size_of c.way.here c.in-Label.size) (c.way.invariant.0, c.way.invariant.3, there.1, omega (arith, more, c.if-spelled-gt-MAX_SPELLING.false))

past : (g : Over) (c : goal.Then-spelled-gt-MAX_SPELLING g) → FaultAt c.args.packet.now c.args.pointers c.args.at (TooLong c.way.here)
past g c =
    let there = label_there c.args.packet.now c.way.here c.in-Label.size c.in-Label.ensures in
    let more = more_spelled c.args.packet.now c.way.here c.in-Label.size c.way.spelled c.way.invariant.0 there.0 c.way.invariant.2 in
    label_past _ _ _ _ _ _ _ PastLimit c.way.invariant.1.way c.in-Label.ensures (there.1, omega (arith, more, c.if-spelled-gt-MAX_SPELLING.true))

pub returns-then-spelled-gt-MAX_SPELLING-clause-fault : goal.returns-then-spelled-gt-MAX_SPELLING-clause-fault
returns-then-spelled-gt-MAX_SPELLING-clause-fault g c = past g c

pub returns-then-spelled-gt-MAX_SPELLING-clause-only : goal.returns-then-spelled-gt-MAX_SPELLING-clause-only
returns-then-spelled-gt-MAX_SPELLING-clause-only g c = no_name _ _ _ _ (past g c)

pub way-preserved-in-Label : goal.way-preserved-in-Label
way-preserved-in-Label g c =
    let there = label_there c.args.packet.now c.way.here c.in-Label.size c.in-Label.ensures in
    let more = more_spelled c.args.packet.now c.way.here c.in-Label.size c.way.spelled c.way.invariant.0 there.0 c.way.invariant.2 in (
      _,
      label_turn _ _ _ _ _ _ _ _ _ c.way.invariant.1 c.in-Label.ensures (omega (arith, more, c.if-spelled-gt-MAX_SPELLING.false)) refl,
      more,
      subst (λ (n : ℕ). g.T.Takes.has c.take.new.self (c.way.invariant.0 ++ take n (drop (c.way.here + 1) c.args.packet.now) ∷ [])) (size_of c.way.here c.in-Label.size) (c.take.ensures c.way.invariant.0 c.way.invariant.3),
    )

pub returns-in-Refused-clause-fault : goal.returns-in-Refused-clause-fault
returns-in-Refused-clause-fault g c = reading_fails _ _ _ _ _ _ _ _ c.way.invariant.1 (not_allowed _ c.in-Pointer.ensures c.in-Refused.is)

pub returns-in-Refused-clause-only : goal.returns-in-Refused-clause-only
returns-in-Refused-clause-only g c = no_name _ _ _ _ (reading_fails _ _ _ _ _ _ _ _ c.way.invariant.1 (not_allowed _ c.in-Pointer.ensures c.in-Refused.is))

pub returns-then-target-start-clause-fault : goal.returns-then-target-start-clause-fault
returns-then-target-start-clause-fault g c = reading_fails _ _ _ _ _ _ _ _ c.way.invariant.1 (not_below _ c.in-Pointer.ensures c.in-Followed.is c.if-target-start.true)

pub returns-then-target-start-clause-only : goal.returns-then-target-start-clause-only
returns-then-target-start-clause-only g c = no_name _ _ _ _ (reading_fails _ _ _ _ _ _ _ _ c.way.invariant.1 (not_below _ c.in-Pointer.ensures c.in-Followed.is c.if-target-start.true))

pub way-preserved : goal.way-preserved
way-preserved g c = (
  c.way.invariant.0,
  chain_turns _ _ _ _ _ _ _ c.in-Followed.is (c.end_from-start.ensures c.args.packet.now c.requires.ends)
      (pointer_turn _ _ _ _ _ _ _ _ _ c.way.invariant.1 c.in-Followed.is c.in-Pointer.ensures c.if-target-start.false c.unwrap_or-in-Pointer.ensures),
  c.way.invariant.2,
  c.way.invariant.3,
)

pub way-smaller : goal.way-smaller
way-smaller g c = omega (arith, ends_lower _ _ _ (c.end_from-start.ensures c.args.packet.now c.requires.ends))
