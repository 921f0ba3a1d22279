use Rattle.std.proofs.Common.{◌≡◌, ◌++◌, take, map}
use Rattle.nb_survey.specs.Sayings.{of_listed}
use Rattle.nb_survey.proofs.saying.push_listed.Given as goal

abbrev pub invariant-names : goal.invariant-names
invariant-names l = l.said.items ≡ l.fn.said.items ++ map (of_listed l.heard) (take l.each-index l.heard.listed.items)
