use Rattle.std.proofs.Common.{refl}
use Rattle.std.specs.Fmt.{digits}
use Rattle.nb_text.proofs.laws.texts.lines_of_sessions.Goals as goal

pub returns : goal.returns
unfolding digits
returns c = record {
  message = refl;
  request = refl;
  positive = refl;
  negative = refl;
  retarget = refl;
  keepalive = refl;
  front = refl;
  refusal = refl;
}
