use Rattle.std.proofs.Common.{◌≡◌, ◌<◌, ℕ, false}
use Rattle.nb_datagram.specs.Fragment.{core_of, byte_of}
use Rattle.nb_examples.specs.Plain.{differ}
use Rattle.nb_examples.proofs.plain.conflicting.bytes_differ.Given as goal

abbrev pub invariant-loop-place : goal.invariant-loop-place
invariant-loop-place l = (i : ℕ) → i < l.place → differ (byte_of (core_of l.one) i) (byte_of (core_of l.other) i) ≡ false
