use Rattle.nb_calls.specs.Statuses.{status_word}
use Rattle.nb_calls.proofs.statuses.status_words.Goals as goal

pub returns : goal.returns
unfolding status_word
returns c = c.words_beside.ensures
