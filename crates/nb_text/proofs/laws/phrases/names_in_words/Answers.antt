use Rattle.nb_text.proofs.SaidLemmas.{first_said}
use Rattle.nb_text.proofs.laws.phrases.names_in_words.Goals as goal

pub returns : goal.returns
returns c = first_said
