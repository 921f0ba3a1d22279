use Rattle.nb_table.proofs.Wholeness.{parts_not_spoilt, parts_not_spoilt_in_table}
use Rattle.nb_table.proofs.laws.parts_are_not_spoilt.Goals as goal

pub returns-clause-list : goal.returns-clause-list
returns-clause-list c = parts_not_spoilt

pub returns-clause-table : goal.returns-clause-table
returns-clause-table c = parts_not_spoilt_in_table
