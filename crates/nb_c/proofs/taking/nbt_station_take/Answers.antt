use Rattle.nb_calls.proofs.Common.{ap, sym, ◌∙◌}
use Rattle.nb_calls.specs.declared.handle.Kept.{Kept}
use Rattle.nb_calls.proofs.ObjectLemmas.{station_done}
use Rattle.nb_c.proofs.taking.nbt_station_take.Goals as goal

pub returns : goal.returns
returns c =
    station_done c.in-Some.ensures.given.0 (ap (λ (k : Kept). k.member) (c.deref_mut.ensures.value ∙ c.in-Some.ensures.given.1)) c.put_back.ensures.1
    (sym (ap (λ (k : Kept). k.member) c.put_back.ensures.0)) c.take-status.ensures
