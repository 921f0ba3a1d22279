use Rattle.nb_calls.proofs.Common.{Ok, Err, refl}
use Rattle.nb_c.proofs.service_entries.nbt_service_items.Goals as goal

pub returns-in-Ok : goal.returns-in-Ok
returns-in-Ok c = let f = c.in-Ok.ensures in (Ok f.0, f.1, (f.2, f.3, refl, refl))

pub returns-in-Err : goal.returns-in-Err
returns-in-Err c = let f = c.in-Err.ensures in (Err _, f.0, (f.1, refl, c.refuse.ensures.at, c.refuse.ensures.status))
