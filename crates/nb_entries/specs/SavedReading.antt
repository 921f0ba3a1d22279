-- What stands in bytes that may be a saved entry, field by field, and the first fault (our choice).
-- Offsets count from the first byte. A field is judged before the next one is asked for.
use Rattle.std.specs.Prelude.{◌≡◌, ◌≢◌, ◌+◌, ◌<◌, ◌≤◌, ℕ, suc, zero, List, [], ◌∷◌, length, Option, None, Some, Result, Ok, Err}
use Rattle.std.specs.Int.{w16}
use Rattle.nb_names.specs.declared.fault.NameFault.{NameFault}
use Rattle.nb_names.specs.declared.fault.NameFault.TheVariants as names
use Rattle.nb_names.specs.declared.reading.Pointers.TheVariants.{Refused}
use Rattle.nb_streams.specs.Places.{StandsAt, NumberAt}
use Rattle.nb_names.specs.Labels.{NameAt}
use Rattle.nb_names.specs.Name.{NetbiosName, IsName, labels_of_name}
use Rattle.nb_names.specs.NameFaults.{NetbiosFaultAt}
use Rattle.nb_datagram.specs.declared.key.Kind.{Kind}
use Rattle.nb_datagram.specs.declared.limits.TheConstants.{MAX_LENGTH}
use Rattle.nb_datagram.specs.Packet.{type_of}
use Rattle.nb_entries.specs.declared.saved.LoadFault.{LoadFault}
use Rattle.nb_entries.specs.declared.saved.LoadFault.TheVariants.{Truncated, NotCanonical}
use Rattle.nb_entries.specs.declared.saved.SavedForm.{SavedForm}
use Rattle.nb_entries.specs.declared.saved.SavedForm.TheVariants.{First, Second}
use Rattle.nb_entries.specs.Maps.{Spoilt, Held}
use Rattle.nb_entries.specs.Marks.{Marks}
use Rattle.nb_entries.specs.Entry.{EntryFacts, EntryValue}
use Rattle.nb_entries.specs.Runs.{RunValue, run_end, map_of_runs}

-- what is read: what stands there with the offset after it, or the first fault
abbrev pub Outcome : Type 0 → Type 0
Outcome X = Result (X × ℕ) LoadFault

-- ---- how readings are made

-- Gives x next o: x is what stands there, up to this offset
pub data Gives {X : Type 0} (x : X) (next : ℕ) : Outcome X → Type 0 where
  gives : Gives x next (Ok (x, next))

-- Then first rest o: first the one is read, then what is due after it; a fault of the first is that of both
pub data Then {X Y : Type 0} (first : Outcome X → Type 0) (rest : X → ℕ → Outcome Y → Type 0) : Outcome Y → Type 0 where
  stops : (fault : LoadFault) → first (Err fault) → Then first rest (Err fault)
  goes_on : {o : Outcome Y} (x : X) (next : ℕ) → first (Ok (x, next)) → rest x next o → Then first rest o

-- Field input at size Is o: a field of this many bytes, in which stands what Is says of it; Truncated, where
-- the input ends before it or inside it
pub data Field {X : Type 0} (input : List ℕ) (at size : ℕ) (Is : X → Type 0) : Outcome X → Type 0 where
  cut : length input < at + size → Field input at size Is (Err Truncated)
  whole : (x : X) → at + size ≤ length input → Is x → Field input at size Is (Ok (x, at + size))

-- Judged at IsGood x next o: x, which has been read, is taken where it is good; else NotCanonical(at)
pub data Judged {X : Type 0} (at : ℕ) (IsGood : X → Type 0) (x : X) (next : ℕ) : Outcome X → Type 0 where
  good : IsGood x → Judged at IsGood x next (Ok (x, next))
  bad : ¬ IsGood x → Judged at IsGood x next (Err (NotCanonical at))

-- Marked at mark none some o: the mark, which stands at this offset, is 0 or 1, and what is due after it is
-- read by the first or by the second; NotCanonical(at), where it is neither
pub data Marked {X : Type 0} (at mark : ℕ) (none some : Outcome X → Type 0) : Outcome X → Type 0 where
  is_0 : {o : Outcome X} → mark ≡ 0 → none o → Marked at mark none some o
  is_1 : {o : Outcome X} → mark ≡ 1 → some o → Marked at mark none some o
  is_neither : 1 < mark → Marked at mark none some (Err (NotCanonical at))

-- ---- fields

-- a byte
abbrev pub byte_at : List ℕ → ℕ → Outcome ℕ → Type 0
byte_at input at = Field input at 1 (λ x. StandsAt input at (x ∷ []))

-- a number of two bytes
abbrev pub number_at : List ℕ → ℕ → Outcome ℕ → Type 0
number_at input at = Field input at 2 (NumberAt input at w16)

-- this many bytes
abbrev pub bytes_at : List ℕ → ℕ → ℕ → Outcome (List ℕ) → Type 0
bytes_at input at size = Field input at size (λ bytes. (length bytes ≡ size) × StandsAt input at bytes)

-- the kind with this type, if there is one
pub data KindOf (at type next : ℕ) : Outcome Kind → Type 0 where
  known : (kind : Kind) → type ≡ type_of kind → KindOf at type next (Ok (kind, next))
  unknown : ((kind : Kind) → type ≢ type_of kind) → KindOf at type next (Err (NotCanonical at))

-- a kind
abbrev pub kind_at : List ℕ → ℕ → Outcome Kind → Type 0
kind_at input at = Then (byte_at input at) (KindOf at)

-- what a fault of a name at this offset comes to: any but a missing byte is NotCanonical at its first byte
abbrev pub fault_of_name : ℕ → NameFault → LoadFault
fault_of_name at (names.Truncated count) = Truncated
fault_of_name at (names.ReservedLabel place) = NotCanonical at
fault_of_name at (names.PointerNotAllowed place) = NotCanonical at
fault_of_name at (names.BadPointer place) = NotCanonical at
fault_of_name at (names.TooLong place) = NotCanonical at
fault_of_name at (names.NotNetbios place) = NotCanonical at

-- a name, spelled with no pointer
pub data name_at (input : List ℕ) (at : ℕ) : Outcome NetbiosName → Type 0 where
  stands : (name : NetbiosName) (next : ℕ) → IsName name → NameAt input Refused at (labels_of_name name) next
      → name_at input at (Ok (name, next))
  ill : (fault : NameFault) → NetbiosFaultAt input Refused at fault
      → name_at input at (Err (fault_of_name at fault))

-- an end, or that none is known
abbrev pub end_at : List ℕ → ℕ → Outcome (Option ℕ) → Type 0
end_at input at =
    Then (byte_at input at) (λ mark next.
    Marked at mark (Gives None next) (Then (number_at input next) (λ end. Gives (Some end))))

-- the promise lies below the end, if that is known
abbrev pub PromisesBelow : Option ℕ → ℕ → Type 0
PromisesBelow end promise = (n : ℕ) → end ≡ Some n → promise < n

-- a promise, which lies below this end, or that there is none; the first form has no such field
abbrev pub promise_at : SavedForm → List ℕ → Option ℕ → ℕ → Outcome (Option ℕ) → Type 0
promise_at First input end at = Gives None at
promise_at Second input end at =
    Then (byte_at input at) (λ mark next.
    Marked at mark (Gives None next) (Then (Then (number_at input next) (Judged at (PromisesBelow end))) (λ promise. Gives (Some promise))))

-- the end and the promise
abbrev pub marks_at : SavedForm → List ℕ → ℕ → Outcome Marks → Type 0
marks_at form input at =
    Then (end_at input at) (λ end next.
    Then (promise_at form input end next) (λ promise.
    Gives (record { end = end; promise = promise })))

-- ---- runs

-- a run's start: at least `least`, which is past the end of the run before, if there is one
abbrev pub start_at : List ℕ → ℕ → ℕ → Outcome ℕ → Type 0
start_at input least at = Then (number_at input at) (Judged at (λ start. least ≤ start))

-- how many bytes a run has that begins at this start: at least one, and none at or past `most`
abbrev pub size_at : List ℕ → ℕ → ℕ → ℕ → Outcome ℕ → Type 0
size_at input start most at = Then (number_at input at) (Judged at (λ size. (0 < size) × (start + size ≤ most)))

-- a run
abbrev pub run_at : List ℕ → ℕ → ℕ → ℕ → Outcome RunValue → Type 0
run_at input most least at =
    Then (start_at input least at) (λ start after_start.
    Then (size_at input start most after_start) (λ size first.
    Then (bytes_at input first size) (λ bytes.
    Gives (record { start = start; bytes = bytes }))))

-- row_at input most count least at: this many runs, each at least one place past the end of the one before
abbrev pub row_at : List ℕ → ℕ → ℕ → ℕ → ℕ → Outcome (List RunValue) → Type 0
row_at input most zero least at = Gives [] at
row_at input most (suc count) least at =
    Then (run_at input most least at) (λ run next.
    Then (row_at input most count (run_end run + 1) next) (λ runs.
    Gives (run ∷ runs)))

-- how many runs there are, and these
abbrev pub runs_at : List ℕ → ℕ → ℕ → Outcome (List RunValue) → Type 0
runs_at input most at = Then (number_at input at) (λ count next. row_at input most count 0 next)

-- ---- entries

-- no run passes this: the end, where it is known
abbrev pub most_of : Option ℕ → ℕ
most_of None = MAX_LENGTH
most_of (Some end) = end

-- what is held
abbrev pub facts_at : SavedForm → List ℕ → ℕ → Outcome EntryFacts → Type 0
facts_at form input at =
    Then (kind_at input at) (λ kind after_kind.
    Then (name_at input after_kind) (λ source after_source.
    Then (name_at input after_source) (λ destination after_names.
    Then (marks_at form input after_names) (λ marks after_marks.
    Then (runs_at input (most_of marks.end) after_marks) (λ runs.
    Gives (record {
      kind = kind;
      source = source;
      destination = destination;
      cover = record { bytes = map_of_runs runs; marks = marks };
    }))))))

-- an entry
abbrev pub entry_at : SavedForm → List ℕ → ℕ → Outcome EntryValue → Type 0
entry_at form input at =
    Then (byte_at input at) (λ state next.
    Marked at state (Gives Spoilt next) (Then (facts_at form input next) (λ facts. Gives (Held facts))))
