-- All that the packets of a capture say of a name, in order (our choice; docs/SUMMARY.md): a response to a claim or a release says it of the
-- addresses of the request that it answers, where there is one.
use Rattle.std.specs.Prelude.{ℕ, ◌==◌, ◌||◌, Bool, false, List, [], ◌∷◌, ◌++◌, map, filter, fold, Option, Some, None, if◌then◌else◌}
use Rattle.std.specs.List.{list_any}
use Rattle.std.specs.declared.net.ip_addr.IpAddr.{IpAddr}
use Rattle.nb_service.specs.Header.{opcode_of}
use Rattle.nb_service.specs.declared.views.AddressEntry.{AddressEntry}
use Rattle.nb_survey.specs.declared.heard.Heard.{Heard}
use Rattle.nb_survey.specs.declared.heard.Said.{Said}
use Rattle.nb_survey.specs.declared.requests.Request.{Request}
use Rattle.nb_survey.specs.declared.word.Asking.{Asking}
use Rattle.nb_survey.specs.declared.word.Asking.TheVariants.{Claim, Release}
use Rattle.nb_survey.specs.declared.word.Word.{Word}
use Rattle.nb_survey.specs.Places.{same_address, same_name}
use Rattle.nb_survey.specs.Requests.{answered, latest, requests}
use Rattle.nb_survey.specs.Sayings.{address_of, said_at, sayings}
use Rattle.nb_survey.specs.Words.{has, tells_group, word_of}

-- is_six operation: it is that of a release
abbrev pub is_six : Option ℕ → Bool
is_six None = false
is_six (Some operation) = operation == 6

-- answers_to operation waits_for: what a response answers: of operations 5, 8, 9 and 15 a claim, of 6 a release; a wait
-- acknowledgement, 7, what its RDATA says
abbrev pub answers_to : ℕ → Option ℕ → Option Asking
answers_to operation waits_for =
    if operation == 5 || operation == 8 || operation == 9 || operation == 15 then Some Claim
    else if operation == 6 then Some Release
    else if operation == 7 then (if is_six waits_for then Some Release else Some Claim)
    else None

-- what a packet answers, where it is a response
abbrev pub answer_of : Heard → Option Asking
answer_of heard = if has heard.flags 0x8000 then answers_to (opcode_of heard.flags) heard.waits_for else None

-- group_at address entries: whether a name is a group's, by the last of these entries that has the address
abbrev pub group_at : IpAddr → List AddressEntry → Option Bool
group_at address = fold (λ group entry. if same_address (address_of entry) address then Some (has entry.flags 0x8000) else group) None

-- of_request heard name word request: what a response says of the address of a request that it answers
abbrev pub of_request : Heard → List (List ℕ) → Word → Request → Said
of_request heard name word request =
    said_at heard name request.address word (if tells_group word then group_at request.address heard.entries.items else None)

-- about heard word name found: what it says where these are the requests that it answers
abbrev pub about : Heard → Option Word → List (List ℕ) → List Request → List Said
about heard None name found = sayings heard
about heard (Some word) name [] = sayings heard
about heard (Some word) name (request ∷ more) = map (of_request heard name word) (request ∷ more)

-- told_by answer name before heard: what a packet says that answers this, where these words were said of its name before
abbrev pub told_by : Option Asking → Option (List (List ℕ)) → List Said → Heard → List Said
told_by (Some asking) (Some name) before heard =
    about heard (word_of heard.flags) name (answered asking heard.facts (latest (requests before)))
told_by _ _ before heard = sayings heard

-- told before heard: what a packet says, where these words were said of its name before
abbrev pub told : List Said → Heard → List Said
told before heard = told_by (answer_of heard) heard.name before heard

-- it is said of this name
abbrev pub is_about : List (List ℕ) → Said → Bool
is_about name said = same_name said.place.name name

-- words_of name packets: all that the packets say of a name, in order
abbrev pub words_of : List (List ℕ) → List Heard → List Said
words_of name = fold (λ before heard. before ++ filter (is_about name) (told before heard)) []

-- is_its name heard: a packet is about this name
abbrev pub is_its : List (List ℕ) → Option (List (List ℕ)) → Bool
is_its name None = false
is_its name (Some other) = same_name other name

-- mentions name heard: a packet is about this name, or lists it
abbrev pub mentions : List (List ℕ) → Heard → Bool
mentions name heard = is_its name heard.name || list_any (λ listed. same_name listed.name name) heard.listed.items
