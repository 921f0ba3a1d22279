-- The requests that responses are about: of a name the latest claim and the latest release at each address (our choice).
use Rattle.std.specs.Prelude.{◌==◌, ◌&&◌, Bool, true, false, not, List, [], ◌∷◌, ◌++◌, filter, filter_map, fold, Option, Some, None, if◌then◌else◌}
use Rattle.std.specs.List.{list_any}
use Rattle.nb_survey.specs.declared.heard.Facts.{Facts}
use Rattle.nb_survey.specs.declared.heard.Said.{Said}
use Rattle.nb_survey.specs.declared.requests.Request.{Request}
use Rattle.nb_survey.specs.declared.word.Asking.{Asking}
use Rattle.nb_survey.specs.declared.word.Asking.TheVariants.{Claim, Release}
use Rattle.nb_survey.specs.Places.{same_address}
use Rattle.nb_survey.specs.Words.{asking_of}

-- two requests ask the same
abbrev pub same_asking : Asking → Asking → Bool
same_asking Claim Claim = true
same_asking Release Release = true
same_asking _ _ = false

-- request_by asking said: what is remembered of a word that asks this
abbrev pub request_by : Option Asking → Said → Option Request
request_by None said = None
request_by (Some asking) said = Some (record {
  asking = asking;
  address = said.place.address;
  source = said.facts.frame.source;
  id = said.facts.id;
  frame = said.facts.frame.number;
})

-- what is remembered of a word, where it asks for something
abbrev pub request_of : Said → Option Request
request_of said = request_by (asking_of said.word) said

-- the requests among words that are said of a name, in order
abbrev pub requests : List Said → List Request
requests = filter_map request_of

-- replaces one other: it asks the same, of the same address
abbrev pub replaces : Request → Request → Bool
replaces one other = same_asking one.asking other.asking && same_address one.address other.address

-- one of these replaces a request
abbrev pub is_renewed : List Request → Request → Bool
is_renewed later request = list_any (λ one. replaces one request) later

-- the latest requests
abbrev pub latest : List Request → List Request
latest [] = []
latest (request ∷ later) = if is_renewed later request then latest later else request ∷ latest later

-- fits asking facts request: a response to what is asked has the identifier of the request, and goes where that came from
abbrev pub fits : Asking → Facts → Request → Bool
fits asking facts request = same_asking asking request.asking && (request.id == facts.id && same_address request.source facts.frame.target)

-- the last of these that fits a response
abbrev pub last_fitting : Asking → Facts → List Request → Option Request
last_fitting asking facts = fold (λ last request. if fits asking facts request then Some request else last) None

-- of_packet asking facts last requests: those that fit a response, of the packet of the last one
abbrev pub of_packet : Asking → Facts → Option Request → List Request → List Request
of_packet asking facts None requests = []
of_packet asking facts (Some last) requests = filter (λ one. fits asking facts one && one.frame == last.frame) requests

-- answered asking facts requests: those that a response answers, of the latest requests: those of the last packet that fits
abbrev pub answered : Asking → Facts → List Request → List Request
answered asking facts requests = of_packet asking facts (last_fitting asking facts requests) requests

-- renewed requests request: the latest ones, after one more
abbrev pub renewed : List Request → Request → List Request
renewed requests request = filter (λ one. not (replaces request one)) requests ++ request ∷ []

-- renewed_by requests said: the latest ones, after one more word
abbrev pub renewed_by : List Request → Option Request → List Request
renewed_by requests None = requests
renewed_by requests (Some request) = renewed requests request
