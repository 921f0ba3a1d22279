use Rattle.nb_calls.proofs.Common.{refl}
use Rattle.nb_calls.specs.Stations.{made, refused}
use Rattle.nb_c.proofs.stations.nbt_station_create.Goals as goal

pub returns-in-Ok-clause-answer : goal.returns-in-Ok-clause-answer
returns-in-Ok-clause-answer c = made _ c.in-Ok.ensures refl c.create.ensures

pub returns-in-Err-clause-answer : goal.returns-in-Err-clause-answer
returns-in-Err-clause-answer c = refused _ c.in-Err.ensures c.refuse.ensures.at c.refuse.ensures.status refl
