use Rattle.std.proofs.Common.{◌≡◌, take, Some}
use Rattle.nb_survey.specs.Requests.{of_packet}
use Rattle.nb_survey.proofs.requests.answered.Given as goal

abbrev pub invariant-requests : goal.invariant-requests
invariant-requests l = l.found.items ≡ of_packet l.asking l.facts (Some l.last) (take l.request-index l.requests)
