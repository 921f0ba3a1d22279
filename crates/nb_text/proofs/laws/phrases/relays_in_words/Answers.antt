use Rattle.std.proofs.Common.{refl}
use Rattle.nb_text.proofs.laws.phrases.relays_in_words.Goals as goal

pub returns : goal.returns
returns c = record { said = λ query. refl; words = (refl, refl, refl) }
