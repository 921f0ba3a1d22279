use Rattle.std.proofs.Common.{refl}
use Rattle.nb_text.proofs.laws.phrases.codes_in_words.Goals as goal

pub returns : goal.returns
returns c = record { errors = λ flags key. (refl, refl, refl, refl); refusals = (refl, refl, refl, refl, refl) }
