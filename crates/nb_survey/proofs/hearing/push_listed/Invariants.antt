use Rattle.std.proofs.Common.{◌≡◌, ◌++◌, take, map}
use Rattle.nb_survey.specs.Hearing.{listed_of}
use Rattle.nb_survey.proofs.hearing.push_listed.Given as goal

abbrev pub invariant-names : goal.invariant-names
invariant-names l = l.found.items ≡ l.fn.found.items ++ map (listed_of l.scope) (take l.place l.status.names)
