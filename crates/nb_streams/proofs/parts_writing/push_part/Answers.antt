use Rattle.std.proofs.Common.{arith}
use Rattle.nb_streams.proofs.PushingLemmas.{digits_are_ascii}
use Rattle.nb_streams.proofs.parts_writing.push_part.Goals as goal

pub push_ascii-requires : goal.push_ascii-requires
push_ascii-requires c =
    rw c.put_digits.ensures (digits_are_ascii c.args.part.now (λ i. omega (arith, c.type_inv.part i)))
