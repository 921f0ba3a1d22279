use Rattle.std.proofs.Common.{refl}
use Rattle.std.specs.Fmt.{digits}
use Rattle.nb_text.proofs.laws.texts.lines_of_names.Goals as goal

pub returns : goal.returns
unfolding digits
returns c = record {
  header = refl;
  question = refl;
  address = refl;
  node = refl;
  unit = refl;
  server = refl;
}
