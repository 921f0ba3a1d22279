use Rattle.std.proofs.Common.{refl}
use Rattle.std.specs.Fmt.{digits}
use Rattle.nb_text.proofs.laws.texts.lines_of_datagrams.Goals as goal

pub returns : goal.returns
unfolding digits
returns c = record {
  datagram = refl;
  kinds = (refl, refl, refl);
  error = refl;
  query = refl;
}
