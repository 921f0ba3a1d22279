use Rattle.nb_streams.proofs.HexadecimalLemmas.{pair_decoded, pair_read}
use Rattle.nb_streams.proofs.hexadecimal.byte_of_pair.Goals as goal

pub returns-in-Ok : goal.returns-in-Ok
returns-in-Ok c =
    rw c.in-Ok.is at (pair_read _ _ _ _ (pair_decoded c.args.high c.args.low) c.decode_to_slice.ensures.value)

pub returns-in-Err : goal.returns-in-Err
returns-in-Err c =
    rw c.in-Err.is at (pair_read _ _ _ _ (pair_decoded c.args.high c.args.low) c.decode_to_slice.ensures.value)
