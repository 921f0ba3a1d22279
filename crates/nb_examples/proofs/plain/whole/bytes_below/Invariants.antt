use Rattle.std.proofs.Common.{◌≡◌, Some}
use Rattle.nb_datagram.specs.Fragment.{cores_of}
use Rattle.nb_table.specs.Conflict.{with_key}
use Rattle.nb_table.specs.Contents.{cover_in}
use Rattle.nb_entries.specs.Whole.{bytes_below}
use Rattle.nb_examples.proofs.plain.whole.bytes_below.Given as goal

abbrev pub invariant-loop-place : goal.invariant-loop-place
invariant-loop-place l = bytes_below (cover_in (with_key l.key (cores_of l.fragments))).bytes l.place ≡ Some l.bytes.items
