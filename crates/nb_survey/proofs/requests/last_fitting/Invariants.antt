use Rattle.std.proofs.Common.{◌≡◌, take}
use Rattle.nb_survey.specs.Requests.{last_fitting}
use Rattle.nb_survey.proofs.requests.last_fitting.Given as goal

abbrev pub invariant-requests : goal.invariant-requests
invariant-requests l = l.last ≡ last_fitting l.asking l.facts (take l.request-index l.requests)
