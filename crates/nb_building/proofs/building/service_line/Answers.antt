use Rattle.nb_building.proofs.BuiltLemmas.{service_lines}
use Rattle.nb_building.proofs.TakenLemmas.{memory_passed_on}
use Rattle.nb_building.proofs.building.service_line.Goals as goal

pub returns-clause-built : goal.returns-clause-built
returns-clause-built c = service_lines _ _ _ _ _ c.in_ok-packet.ensures.built c.in_ok-lines.ensures

pub returns-in_err-lines-clause-refused : goal.returns-in_err-lines-clause-refused
returns-in_err-lines-clause-refused c = memory_passed_on _ _ _ c.from_residual-in_err-lines.result c.from_residual-in_err-lines.ensures.1
