use Rattle.std.proofs.Common.{◌∙◌, arith}
use Rattle.nb_streams.proofs.HexadecimalLemmas.{at_ok, encode_same}
use Rattle.nb_streams.proofs.parts_writing.put_digits.Goals as goal

pub returns : goal.returns
returns c =
    at_ok c.encode_to_slice.result (c.encode_to_slice.ensures.fits.1 c.requires) c.encode_to_slice.ensures.written
    ∙ encode_same c.args.part.now (λ i. omega (arith, c.type_inv.part i))
