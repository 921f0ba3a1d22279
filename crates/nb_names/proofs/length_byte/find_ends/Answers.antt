use Rattle.std.proofs.Common.{◌≡◌, ℕ, List, length, take, arith}
use Rattle.std.proofs.lemmas.List.{take_more_set, length-take-le, get_or-take}
use Rattle.nb_names.specs.Code.Kept.{LeadsTo, stays, follows, IsEnd}
use Rattle.nb_names.proofs.ChainLemmas.{end_here, end_high, ends_more}
use Rattle.nb_names.proofs.length_byte.find_ends.Goals as goal
use Rattle.nb_names.proofs.length_byte.find_ends.Goals.{in-Pointer, in_default, in_default-via-in-Pointer+else-target-at, in_default-via-in_default}

pub loop-at-preserved : goal.loop-at-preserved
loop-at-preserved c =
    let packet : List ℕ = c.args.packet.now in
    let ends : List ℕ = c.loop-at.ends in
    let at : ℕ = c.loop-at.at in
    let end : ℕ = c.match-length_byte_at.ends in
    let long : length (take at ends) ≡ at = length-take-le at ends (omega (arith, c.loop-at.auto.ends)) in
    let made : LeadsTo packet at end × IsEnd packet end = elim c.match-length_byte_at.branch [
      | in-Pointer w ↦
          let known = c.loop-at.invariant w.in-Pointer.target (omega (arith, long, w.if-target-at.true)) in
          rw (w.ends-is, ← get_or-take at ends w.in-Pointer.target 0 w.if-target-at.true)
          (follows w.in-Pointer.target w.in-Pointer.ensures w.if-target-at.true known.0, known.1)
      | in_default w ↦ rw w.ends-is (
        stays,
        elim w.in_default.branch [
          | in_default-via-in-Pointer+else-target-at v ↦ end_high packet at v.in-Pointer.target v.in-Pointer.ensures v.if-target-at.false
          | in_default-via-in_default v ↦ end_here packet at c.length_byte_at.result c.length_byte_at.ensures v.in_default.not-Pointer
        ],
      )
    ] in
    rw (take_more_set ends at end (omega (arith, c.loop-at.auto.ends)))
    (ends_more packet (take at ends) end c.loop-at.invariant (rw long made.0) made.1)
