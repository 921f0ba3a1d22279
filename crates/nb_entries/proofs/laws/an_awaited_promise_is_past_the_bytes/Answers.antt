use Rattle.nb_entries.proofs.Runs.{awaited_is, is_awaited}
use Rattle.nb_entries.proofs.laws.an_awaited_promise_is_past_the_bytes.Goals as goal

pub returns : goal.returns
returns c = λ v r. (awaited_is v r, is_awaited v r)
