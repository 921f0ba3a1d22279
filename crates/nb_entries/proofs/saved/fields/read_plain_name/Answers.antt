use Rattle.nb_entries.proofs.Common.{stands, ill}
use Rattle.nb_entries.proofs.saved.fields.read_plain_name.Goals as goal

pub returns-in-Ok : goal.returns-in-Ok
returns-in-Ok c = stands _ _ c.in-Ok.ensures.name.0 c.in-Ok.ensures.found

pub returns-in-Err : goal.returns-in-Err
returns-in-Err c = rw c.name_fault.ensures (ill _ c.in-Err.ensures.fault)
