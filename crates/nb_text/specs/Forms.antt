-- What is said of a packet of port 137 besides the name, by its flag word and the type of its first question, or else of its
-- first record (our choice): the packets are those of RFC 1002 section 4.2.
use Rattle.std.specs.Prelude.{ℕ, ◌==◌, Bool, false, not, List, codes, Option, Some, if◌then◌else◌}
use Rattle.std.specs.Option.{option_eq}
use Rattle.nb_service.specs.declared.kinds.TheConstants.{NS, NBSTAT}
use Rattle.nb_service.specs.declared.flags.TheConstants.NmFlags.{RD, RA}
use Rattle.nb_service.specs.Header.{nm_bits, opcode_of, rcode_of}
use Rattle.nb_text.specs.declared.brief.form.TheConstants.{RESPONSE}
use Rattle.nb_text.specs.declared.brief.form.Ending.{Ending}
use Rattle.nb_text.specs.declared.brief.form.Ending.TheVariants as endings
use Rattle.nb_text.specs.declared.words.TheConstants.{QUERY, REGISTRATION, RELEASE, WACK, OTHER_REFRESH, REFRESH, MULTI_HOMED, OK, CFT_ERR}
use Rattle.nb_text.specs.Words.{is_set}

-- is_type known kind: the type is known, and this one
abbrev pub is_type : Option ℕ → ℕ → Bool
is_type known kind = option_eq ◌==◌ known (Some kind)

-- what is said of a packet besides the name: before it, and after it
pub record PhraseForm : Type 0 where
  pub opening : List ℕ
  pub ending : Ending

-- says opening ending: that form
abbrev pub says : List ℕ → Ending → PhraseForm
says opening ending = record { opening = opening; ending = ending }

-- a request: a query (4.2.12, of a node's status 4.2.17), a registration (4.2.2, or without RD one that overwrites, 4.2.3), a
-- release (4.2.9) or a refresh (4.2.4); that 8 is a refresh too, and 15 the registration of a host of several addresses, is our
-- choice
abbrev pub request_form : ℕ → Option ℕ → PhraseForm
request_form word first_type =
    if opcode_of word == QUERY then
    (if is_type first_type NBSTAT then says (codes "asks for the node status of ") endings.Nothing
    else says (codes "asks for ") endings.Nothing)
    else if opcode_of word == REGISTRATION then
    (if is_set word (nm_bits RD) then says (codes "claims ") endings.Claim else says (codes "overwrites ") endings.Claim)
    else if opcode_of word == RELEASE then says (codes "releases ") endings.Holder
    else if opcode_of word == REFRESH then says (codes "refreshes ") endings.Claim
    else if opcode_of word == OTHER_REFRESH then says (codes "refreshes ") endings.Claim
    else if opcode_of word == MULTI_HOMED then says (codes "claims as one of several addresses ") endings.Claim
    else says (codes "makes another request about ") endings.Operation

-- a positive response to a query: a node's status (4.2.18), a redirect, which has a name server first (4.2.15), or addresses (4.2.13)
abbrev pub answer_ending : Option ℕ → Ending
answer_ending first_type =
    if is_type first_type NBSTAT then endings.Status
    else if is_type first_type NS then endings.Server
    else endings.Found

-- RD without RA, by which a positive response to a registration asks for a challenge (4.2.7)
abbrev pub is_challenge : ℕ → Bool
is_challenge word = if is_set word (nm_bits RD) then not (is_set word (nm_bits RA)) else false

-- a response to a registration: a positive one (4.2.5), or a negative one (4.2.6)
abbrev pub granted_form : ℕ → PhraseForm
granted_form word = if rcode_of word == OK then says (codes "grants ") endings.Claim else says (codes "refuses ") endings.Reason

-- a response: to a query (negative 4.2.14), to a registration (or a conflict, 4.2.8), to a release (4.2.10, 4.2.11), or that one
-- is to wait (4.2.16); those to a refresh and to 15 are as to a registration, which is our choice
abbrev pub response_form : ℕ → Option ℕ → PhraseForm
response_form word first_type =
    if opcode_of word == QUERY then says (codes "answers: ") (if rcode_of word == OK then answer_ending first_type else endings.NotFound)
    else if opcode_of word == REGISTRATION then
    (if rcode_of word == CFT_ERR then says (codes "conflict about ") endings.Nothing
    else if rcode_of word == OK then (if is_challenge word then says (codes "asks to challenge ") endings.Place else granted_form word)
    else granted_form word)
    else if opcode_of word == RELEASE then
    (if rcode_of word == OK then says (codes "grants the release of ") endings.Nothing
    else says (codes "refuses the release of ") endings.Reason)
    else if opcode_of word == WACK then says (codes "asks to wait for ") endings.Time
    else if opcode_of word == REFRESH then granted_form word
    else if opcode_of word == OTHER_REFRESH then granted_form word
    else if opcode_of word == MULTI_HOMED then granted_form word
    else says (codes "makes another response about ") endings.Operation

-- form_of word first_type: R says which of both
abbrev pub form_of : ℕ → Option ℕ → PhraseForm
form_of word first_type = if is_set word RESPONSE then response_form word first_type else request_form word first_type
