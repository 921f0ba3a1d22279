use Rattle.std.proofs.Common.{refl}
use Rattle.nb_text.proofs.laws.phrases.sessions_in_words.Goals as goal

pub returns : goal.returns
returns c = record {
  requests = λ called calling. refl;
  messages = λ bytes. refl;
  positives = refl;
  retargets = λ address port. refl;
  keepalives = refl;
}
