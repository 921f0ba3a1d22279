use Rattle.nb_calls.proofs.Common.{◌≡◌, flat_map, heard_bytes}
use Rattle.nb_calls.proofs.absorbing.bytes_of.Given as goal

abbrev pub invariant-loop-datagram : goal.invariant-loop-datagram
invariant-loop-datagram l = l.bytes.items ≡ flat_map heard_bytes l.yielded
