use Rattle.std.proofs.Common.{◌≡◌, take, map}
use Rattle.nb_survey.specs.Telling.{of_request}
use Rattle.nb_survey.proofs.survey.about.Given as goal

abbrev pub invariant-requests : goal.invariant-requests
invariant-requests l = l.said.items ≡ map (of_request l.heard l.name l.word) (take l.request-index l.found)
