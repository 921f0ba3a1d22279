use Rattle.nb_building.proofs.BuiltLemmas.{session_lines}
use Rattle.nb_building.proofs.TakenLemmas.{memory_passed_on}
use Rattle.nb_building.proofs.building.session_line.Goals as goal

pub returns-clause-built : goal.returns-clause-built
returns-clause-built c broadcast = session_lines broadcast _ _ _ _ c.in_ok-packet.ensures.built c.in_ok-lines.ensures

pub returns-in_err-lines-clause-refused : goal.returns-in_err-lines-clause-refused
returns-in_err-lines-clause-refused c = memory_passed_on _ _ _ c.from_residual-in_err-lines.result c.from_residual-in_err-lines.ensures.1
