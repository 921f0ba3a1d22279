use Rattle.std.proofs.Common.{◌≡◌, take}
use Rattle.nb_survey.specs.Telling.{group_at}
use Rattle.nb_survey.proofs.survey.group_at.Given as goal

abbrev pub invariant-entries : goal.invariant-entries
invariant-entries l = l.group ≡ group_at l.address (take l.entry-index l.entries)
