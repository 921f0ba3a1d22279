use Rattle.std.proofs.Common.{◌≡◌, take}
use Rattle.nb_survey.specs.Hearing.{first_of}
use Rattle.nb_survey.specs.Rows.{standing_mac}
use Rattle.nb_survey.proofs.row.first_mac.Given as goal

abbrev pub invariant-rows : goal.invariant-rows
invariant-rows l = l.first ≡ first_of standing_mac (take l.row-index l.rows)
