-- What is read as a name's labels at an offset of a packet (RFC 1002 section 4.1). Offsets are counted
-- in bytes from the packet's start.
--
-- A stretch is a row of labels without a gap, which a zero byte or a pointer closes. A pointer goes on with
-- another stretch. Our choice: that stretch starts lower than the one that the pointer closes, so that no
-- reading goes round for ever.
use Rattle.std.specs.Prelude.{◌≡◌, ℕ, ◌+◌, ◌/◌, ◌%◌, ◌<◌, ◌≤◌, ◌^◌, List, [], ◌∷◌, length}
use Rattle.nb_streams.specs.Places.{StandsAt}
use Rattle.nb_names.specs.declared.limits.TheConstants.{MAX_SPELLING}
use Rattle.nb_names.specs.declared.reading.Pointers.{Pointers}
use Rattle.nb_names.specs.declared.reading.Pointers.TheVariants.{Followed}
use Rattle.nb_names.specs.DomainName.{spelling, IsLabel}

-- the two bytes of a pointer to this offset: the bits 11, then the offset's 14 bits
abbrev pub pointer_bytes : ℕ → List ℕ
pointer_bytes target = (192 + target / 256) ∷ target % 256 ∷ []

-- IsPointer packet at target: at this offset stands a pointer, which leads to the target
pub record IsPointer (packet : List ℕ) (at target : ℕ) : Type 0 where
  pub fits : target < 2 ^ 14
  pub bytes : StandsAt packet at (pointer_bytes target)

-- LabelsAt packet pointers start at labels next: read from `at`, inside the stretch whose first length byte
-- is at `start`, the packet has these labels, and that stretch is closed just before `next`
pub data LabelsAt (packet : List ℕ) (pointers : Pointers) : ℕ → ℕ → List (List ℕ) → ℕ → Type 0 where
  ends : {start at : ℕ} → StandsAt packet at (0 ∷ []) → LabelsAt packet pointers start at [] (at + 1)
  goes_on : {start at next : ℕ} (label : List ℕ) (labels : List (List ℕ))
      → IsLabel label → StandsAt packet at (length label ∷ label)
      → length (spelling (label ∷ labels)) ≤ MAX_SPELLING
      → LabelsAt packet pointers start (at + 1 + length label) labels next
      → LabelsAt packet pointers start at (label ∷ labels) next
  leads_to : {start at : ℕ} {labels : List (List ℕ)} (target behind : ℕ)
      → pointers ≡ Followed → IsPointer packet at target → target < start
      → LabelsAt packet pointers target target labels behind
      → LabelsAt packet pointers start at labels (at + 2)

-- NameAt packet pointers at labels next: at this offset a name stands, with these labels, and `next`
-- is the offset after it
abbrev pub NameAt : List ℕ → Pointers → ℕ → List (List ℕ) → ℕ → Type 0
NameAt packet pointers at = LabelsAt packet pointers at at
