-- What a name is kept as: its bytes, and the spelling of its scope, or nothing where that has no label.
use Rattle.std.specs.Prelude.{◌≡◌, ◌≢◌, ℕ, List, [], ◌≤◌, length, ◌+◌, ◌<◌, ◌∷◌, slice_index, get_or, take, drop, zero, suc}
use Rattle.nb_names.specs.DomainName.{spelling, IsDomain}
use Rattle.nb_names.specs.Name.{IsByteName, IsScope}
use Rattle.nb_names.specs.declared.limits.TheConstants.{FRONT_LENGTH, MAX_LABEL}
use Rattle.nb_names.specs.declared.text_reading.Collected.{Collected}
use Rattle.nb_names.specs.Code.TextSteps.{Taken}
use Rattle.nb_names.specs.declared.length_byte.LengthByte.{LengthByte}
use Rattle.nb_names.specs.declared.length_byte.LengthByte.TheVariants.{Cut, End, Label, Reserved, Pointer}
use Rattle.nb_streams.specs.Places.{StandsAt}
use Rattle.nb_names.specs.Labels.{IsPointer}
use Rattle.nb_names.specs.NameFaults.{IsCut, IsReserved}
use Rattle.arrayvec.specs.ArrayVec.{ArrayVec}
use Rattle.std.proofs.Common.{sym}

-- ---- the bytes that a domain name is kept as: its spelling, from which its labels are read again

-- the labels that the bytes spell, up to `count` of them
abbrev pub labels_within : ℕ → List ℕ → List (List ℕ)
labels_within zero bytes = []
labels_within (suc count) [] = []
labels_within (suc count) (zero ∷ bytes) = []
labels_within (suc count) (suc size ∷ bytes) = take (suc size) bytes ∷ labels_within count (drop (suc size) bytes)

-- the labels that the bytes spell
abbrev pub labels_of : List ℕ → List (List ℕ)
labels_of bytes = labels_within (length bytes) bytes

-- the bytes are the spelling of a domain name
pub record IsSpelled (bytes : List ℕ) : Type 0 where
  pub domain : IsDomain (labels_of bytes)
  pub exact : bytes ≡ spelling (labels_of bytes)

-- the array that the labels give back
pub given_back : (v : ArrayVec ℕ) → IsSpelled v.items → record { items = spelling (labels_of v.items) } ≡ v
given_back v spelled = λ i. record { items = sym spelled.exact i }

-- the labels begin with this one, and the bytes spell the others
abbrev pub BeginsWith : List (List ℕ) → List ℕ → List ℕ → Type 0
BeginsWith labels label others = (more : List (List ℕ)) × (labels ≡ label ∷ more) × (others ≡ spelling more)

-- these bytes and this spelling, if there is one, are of a name
pub record IsKept (bytes scope : List ℕ) : Type 0 where
  pub name : IsByteName (record { bytes = bytes; scope = labels_of scope })
  pub spelled : scope ≢ [] → IsSpelled scope

-- KeepsScope spelled scope: the scope that is spelled so is kept as this
abbrev pub KeepsScope : List ℕ → List ℕ → Type 0
KeepsScope spelled scope =
    (labels : List (List ℕ)) → IsDomain labels → spelled ≡ spelling labels
    → (labels_of scope ≡ labels) × (scope ≢ [] → IsSpelled scope)

-- ---- what a reading of a name's text has taken, as the code keeps it (our choice)

-- what is kept as taken
abbrev pub taken_of : Collected → Taken
taken_of c = record { front = c.front.items; last = c.last; scope = c.scope; label = c.label.items }

-- what is taken passes no limit so far
pub record FitsSoFar (t : Taken) : Type 0 where
  pub front_fits : length t.front ≤ FRONT_LENGTH
  pub label_fits : length t.label ≤ MAX_LABEL
  pub scope_fits : IsScope t.scope

-- ---- what the length byte at an offset begins, as the code names it (RFC 1002 section 4.1)

-- a label of this size stands after the length byte at this offset
pub record HasLabel (packet : List ℕ) (here size : ℕ) : Type 0 where
  pub first : slice_index packet here ≡ size
  pub some : 0 < size
  pub short : size ≤ MAX_LABEL
  pub whole : here + 1 + size ≤ length packet

-- Begins packet here read: this is what the length byte at this offset begins
abbrev pub Begins : List ℕ → ℕ → LengthByte → Type 0
Begins packet here Cut = IsCut packet here
Begins packet here End = StandsAt packet here (0 ∷ [])
Begins packet here (Label size) = HasLabel packet here size
Begins packet here Reserved = IsReserved packet here
Begins packet here (Pointer target) = IsPointer packet here target

-- ---- to which offsets chains of pointers lead, as the code keeps them
--  A chain is a row of pointers, each to the next. It ends at the first offset at which no pointer stands that leads
-- lower; what stands there is a reading's next length byte.

-- LeadsTo packet at end: from this offset, pointers that lead lower come to this one, or it is the same
pub data LeadsTo (packet : List ℕ) : ℕ → ℕ → Type 0 where
  stays : {at : ℕ} → LeadsTo packet at at
  follows : {at end : ℕ} (target : ℕ) → IsPointer packet at target → target < at → LeadsTo packet target end
      → LeadsTo packet at end

-- IsEnd packet at: a pointer at this offset leads no lower
abbrev pub IsEnd : List ℕ → ℕ → Type 0
IsEnd packet at = (target : ℕ) → IsPointer packet at target → at ≤ target

-- AreEnds packet ends: each of these is the end of the chain from its place
abbrev pub AreEnds : List ℕ → List ℕ → Type 0
AreEnds packet ends = (at : ℕ) → at < length ends → LeadsTo packet at (get_or ends at 0) × IsEnd packet (get_or ends at 0)
