-- Why no name is read at an offset, and where (RFC 1002 section 4.1). All offsets count from the
-- packet's first byte.
--
-- The way is the length bytes that a reading comes to, one after the other. The fault is that of the
-- first of them at which one applies. Our choice: of the faults at one length byte, a missing byte is
-- reported first.
use Rattle.std.specs.Prelude.{◌≡◌, ℕ, ◌+◌, ◌<◌, ◌≤◌, List, [], ◌∷◌, ◌++◌, length, max}
use Rattle.nb_names.specs.declared.limits.TheConstants.{MAX_LABEL, MAX_SPELLING}
use Rattle.nb_names.specs.declared.reading.Pointers.{Pointers}
use Rattle.nb_names.specs.declared.reading.Pointers.TheVariants.{Followed, Refused}
use Rattle.nb_names.specs.declared.fault.NameFault.{NameFault}
use Rattle.nb_names.specs.declared.fault.NameFault.TheVariants.{Truncated, ReservedLabel, PointerNotAllowed, BadPointer, TooLong, NotNetbios}
use Rattle.nb_names.specs.DomainName.{spelling, IsLabel}
use Rattle.nb_names.specs.Name.{IsNoName}
use Rattle.nb_streams.specs.Places.{StandsAt}
use Rattle.nb_names.specs.Labels.{IsPointer, NameAt}

-- OnWay packet pointers at start here labels: a reading from `at` comes to the length byte at `here`,
-- in the stretch that began at `start`, with these labels read, and no fault applied before it
pub data OnWay (packet : List ℕ) (pointers : Pointers) (at : ℕ) : ℕ → ℕ → List (List ℕ) → Type 0 where
  begins : OnWay packet pointers at at at []
  behind_label : {start here : ℕ} {labels : List (List ℕ)} (label : List ℕ)
      → OnWay packet pointers at start here labels
      → IsLabel label → StandsAt packet here (length label ∷ label)
      → length (spelling (labels ++ label ∷ [])) ≤ MAX_SPELLING
      → OnWay packet pointers at start (here + 1 + length label) (labels ++ label ∷ [])
  along_pointer : {start here : ℕ} {labels : List (List ℕ)} (target : ℕ)
      → OnWay packet pointers at start here labels
      → pointers ≡ Followed → IsPointer packet here target → target < start
      → OnWay packet pointers at target target labels

-- IsCut packet here: of the length byte at this offset, or of the label or pointer that it begins, a
-- byte isn't there
pub data IsCut (packet : List ℕ) (here : ℕ) : Type 0 where
  no_length_byte : length packet ≤ here → IsCut packet here
  short_label : (size : ℕ) → StandsAt packet here (size ∷ []) → 0 < size → size ≤ MAX_LABEL
      → length packet < here + 1 + size → IsCut packet here
  half_pointer : (first : ℕ) → StandsAt packet here (first ∷ []) → 192 ≤ first
      → length packet < here + 2 → IsCut packet here

-- IsReserved packet here: the byte at this offset begins with the bits 01 or 10
pub record IsReserved (packet : List ℕ) (here : ℕ) : Type 0 where
  pub first : ℕ
  pub there : StandsAt packet here (first ∷ [])
  pub low : 64 ≤ first
  pub high : first < 192

-- FaultHere packet pointers at start here labels fault: at the length byte at `here`, to which a
-- reading from `at` comes, in the stretch that began at `start`, with these labels read, this fault applies
pub data FaultHere (packet : List ℕ) (pointers : Pointers) (at start here : ℕ) (labels : List (List ℕ)) : NameFault → Type 0 where
  cut : IsCut packet here → FaultHere packet pointers at start here labels (Truncated (max at (length packet)))
  reserved : IsReserved packet here → FaultHere packet pointers at start here labels (ReservedLabel here)
  not_allowed : (target : ℕ) → IsPointer packet here target → pointers ≡ Refused
      → FaultHere packet pointers at start here labels (PointerNotAllowed here)
  not_below : (target : ℕ) → IsPointer packet here target → pointers ≡ Followed → start ≤ target
      → FaultHere packet pointers at start here labels (BadPointer here)
  too_long : (label : List ℕ) → IsLabel label → StandsAt packet here (length label ∷ label)
      → MAX_SPELLING < length (spelling (labels ++ label ∷ []))
      → FaultHere packet pointers at start here labels (TooLong here)

-- FaultAt packet pointers at fault: this is the first fault on the way from `at`
pub record FaultAt (packet : List ℕ) (pointers : Pointers) (at : ℕ) (fault : NameFault) : Type 0 where
  pub start : ℕ
  pub here : ℕ
  pub labels : List (List ℕ)
  pub way : OnWay packet pointers at start here labels
  pub applies : FaultHere packet pointers at start here labels fault

-- NetbiosFaultAt packet pointers at fault: why no NetBIOS name is read: the first fault on the way, or
-- what is not_netbios a name in the labels that stand there, as a place in their spelling
pub data NetbiosFaultAt (packet : List ℕ) (pointers : Pointers) (at : ℕ) : NameFault → Type 0 where
  on_way : {fault : NameFault} → FaultAt packet pointers at fault → NetbiosFaultAt packet pointers at fault
  not_netbios : (labels : List (List ℕ)) (next place : ℕ) → NameAt packet pointers at labels next
      → IsNoName labels place → NetbiosFaultAt packet pointers at (NotNetbios place)
