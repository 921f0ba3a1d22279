use Rattle.std.proofs.Common.{◌≡◌, ◌++◌, take}
use Rattle.nb_survey.proofs.hearing.push_own.Given as goal

abbrev pub invariant-entries : goal.invariant-entries
invariant-entries l = l.found.items ≡ l.fn.found.items ++ take l.place l.entries
