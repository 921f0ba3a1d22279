use Rattle.nb_calls.proofs.Common.{refl}
use Rattle.nb_calls.proofs.ServiceLemmas.{item_cut}
use Rattle.nb_calls.proofs.service_reading.fill_item.Goals as goal

pub returns-in-Err : goal.returns-in-Err
returns-in-Err c =
    rw c.service_refusal.ensures (item_cut _ _ _ _ c.in-Err.ensures.fault, refl)
