use Rattle.nb_calls.specs.Absorbing.{takes_not}
use Rattle.nb_calls.proofs.AbsorbLemmas.{hears_all}
use Rattle.nb_calls.proofs.absorbing.heard.Goals as goal

pub returns-in-Err : goal.returns-in-Err
returns-in-Err c = rw c.table_refusal.ensures (takes_not _ c.in-Err.ensures.fault)

pub returns-in-Ok : goal.returns-in-Ok
returns-in-Ok c = rw c.answer_of.ensures (hears_all _ _ _ _ c.in-Ok.ensures.previewed c.bytes_of.ensures)
