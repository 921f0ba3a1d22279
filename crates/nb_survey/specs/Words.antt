-- The words of packets of port 137 (RFC 1002 sections 4.2.2 to 4.2.18): what one says of a name at an address.
use Rattle.std.specs.Prelude.{ℕ, ◌==◌, ◌||◌, Bool, true, false, not, bit_and, Option, Some, None, if◌then◌else◌}
use Rattle.nb_service.specs.Header.{opcode_of, rcode_of}
use Rattle.nb_survey.specs.declared.word.Asking.{Asking}
use Rattle.nb_survey.specs.declared.word.Asking.TheVariants.{Claim, Release}
use Rattle.nb_survey.specs.declared.word.Word.{Word}
use Rattle.nb_survey.specs.declared.word.Word.TheVariants.{Claims, Refreshes, Takes, GivesUp, Granted, AsksHolder, ToldOfConflict, Refused, ToWait, Released, NotReleased, Answers, SaidToHaveIt, Lists, ListsInConflict, ListsInactive}

-- has flags bit: a flag of a packet is set: R 8000, RD 0100, RA 0080
abbrev pub has : ℕ → ℕ → Bool
has flags bit = not (bit_and flags bit == 0)

-- request_word operation is_desired: the word of a request: registration 5 with RD and 15, overwrite 5 without, refresh 8 and 9, release 6
abbrev pub request_word : ℕ → Bool → Option Word
request_word operation is_desired =
    if operation == 5 then (if is_desired then Some Claims else Some Takes)
    else if operation == 15 then Some Claims
    else if operation == 8 || operation == 9 then Some Refreshes
    else if operation == 6 then Some GivesUp
    else None

-- claim_response code is_available: the word of a response to a claim: an RCODE of 0 grants where RA is set, else it is a challenge; CFT_ERR is 7
abbrev pub claim_response : ℕ → Bool → Word
claim_response code is_available =
    if code == 0 then (if is_available then Granted else AsksHolder)
    else if code == 7 then ToldOfConflict
    else Refused code

-- response_word operation code is_available: the word of a response to a claim or a release, and of a wait acknowledgement 7
abbrev pub response_word : ℕ → ℕ → Bool → Option Word
response_word operation code is_available =
    if operation == 5 || operation == 8 || operation == 9 || operation == 15 then Some (claim_response code is_available)
    else if operation == 6 then (if code == 0 then Some Released else Some (NotReleased code))
    else if operation == 7 then Some ToWait
    else None

-- the word of a packet with this flag word; none of queries and of their responses
abbrev pub word_of : ℕ → Option Word
word_of flags =
    if has flags 0x8000 then response_word (opcode_of flags) (rcode_of flags) (has flags 0x80)
    else request_word (opcode_of flags) (has flags 0x100)

-- what a request with this word asks
abbrev pub asking_of : Word → Option Asking
asking_of Claims = Some Claim
asking_of Refreshes = Some Claim
asking_of Takes = Some Claim
asking_of GivesUp = Some Release
asking_of _ = None

-- an address says it of itself
abbrev pub is_own : Word → Bool
is_own Claims = true
is_own Refreshes = true
is_own Takes = true
is_own GivesUp = true
is_own Answers = true
is_own Lists = true
is_own ListsInConflict = true
is_own ListsInactive = true
is_own _ = false

-- the address has the name by it, or asks for it
abbrev pub is_standing : Word → Bool
is_standing Claims = true
is_standing Refreshes = true
is_standing Takes = true
is_standing Granted = true
is_standing Answers = true
is_standing Lists = true
is_standing _ = false

-- another station says that the address has the name
abbrev pub says_it_has : Word → Bool
says_it_has SaidToHaveIt = true
says_it_has _ = false

-- it refuses a name, or says that it is in conflict
abbrev pub is_refusal : Word → Bool
is_refusal ToldOfConflict = true
is_refusal (Refused code) = true
is_refusal ListsInConflict = true
is_refusal (NotReleased code) = true
is_refusal _ = false

-- it tells whether the name is a group's: the record of a refusal may be the holder's
abbrev pub tells_group : Word → Bool
tells_group Claims = true
tells_group Refreshes = true
tells_group Takes = true
tells_group GivesUp = true
tells_group Granted = true
tells_group Answers = true
tells_group SaidToHaveIt = true
tells_group Lists = true
tells_group ListsInConflict = true
tells_group ListsInactive = true
tells_group _ = false
