-- What the calls on names answer (RFC 1001 section 14.1, RFC 1002 section 4.1).
use Rattle.std.specs.Prelude.{◌<◌, ℕ, List, ◌++◌, length, drop, replicate, Result, Ok, Err}
use Rattle.nb_calls.specs.Common.{NameFault, MAX_SPELLING, Refused, TextFault, spelling, NameAt, NetbiosName, IsName, labels_of_name, IsText, IsFaultOf, written, NAME_TRAILING_BYTES, NO_ROLE}
use Rattle.nb_names.specs.NameFaults.{NetbiosFaultAt}
use Rattle.nb_calls.specs.Outputs.{OrMemory}
use Rattle.nb_calls.specs.Statuses.{Refusal, FaultAt, text_refusal, name_refusal}

-- IsRead text read: the text is of this name, or has this fault
abbrev pub IsRead : List ℕ → Result NetbiosName TextFault → Type 0
IsRead text (Ok name) = IsText name text
IsRead text (Err fault) = IsFaultOf text fault

-- what is answered where a text is read so: the name's spelling, or the fault
abbrev pub spelling_answer : Result NetbiosName TextFault → Result (List ℕ) Refusal
spelling_answer (Ok name) = Ok (spelling (labels_of_name name))
spelling_answer (Err fault) = Err (text_refusal NO_ROLE fault)

-- Spells text answer: this is answered of the text
abbrev pub Spells : List ℕ → Result (List ℕ) Refusal → Type 0
Spells text answer = (read : Result NetbiosName TextFault) × IsRead text read × OrMemory (spelling_answer read) answer

-- IsWhole stands fails bytes read: the bytes are this name, which stands in them up to a place as `stands` says; or why they
-- aren't one: none can be read, as `fails` says, or bytes follow it
pub data IsWhole {A : Type 0} (stands : A → ℕ → Type 0) (fails : NameFault → Type 0) (bytes : List ℕ) : Result A Refusal → Type 0 where
  whole : (name : A) → stands name (length bytes) → IsWhole stands fails bytes (Ok name)
  no_name : (fault : NameFault) → fails fault → IsWhole stands fails bytes (Err (name_refusal NO_ROLE fault))
  bytes_trail : (name : A) (next : ℕ) → stands name next → next < length bytes
      → IsWhole stands fails bytes (Err (FaultAt NAME_TRAILING_BYTES next))

-- IsSpelling bytes read: the bytes are the spelling of this NetBIOS name, or why they aren't one
abbrev pub IsSpelling : List ℕ → Result NetbiosName Refusal → Type 0
IsSpelling bytes =
    IsWhole (λ name next. IsName name × NameAt bytes Refused 0 (labels_of_name name) next) (NetbiosFaultAt bytes Refused 0) bytes

-- what is answered where bytes are read so: the name's text, or why they are no name
abbrev pub text_answer : Result NetbiosName Refusal → Result (List ℕ) Refusal
text_answer (Ok name) = Ok (written name)
text_answer (Err refusal) = Err refusal

-- Tells bytes answer: this is answered of the bytes
abbrev pub Tells : List ℕ → Result (List ℕ) Refusal → Type 0
Tells bytes answer = (read : Result NetbiosName Refusal) × IsSpelling bytes read × OrMemory (text_answer read) answer

-- a spelling, at the front of as many bytes of zero as the longest has
abbrev pub in_place : List ℕ → List ℕ
in_place spelled = spelled ++ drop (length spelled) (replicate MAX_SPELLING 0)

-- that of labels
abbrev pub spelled_in_place : List (List ℕ) → List ℕ
spelled_in_place labels = in_place (spelling labels)
