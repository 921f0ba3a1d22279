-- Maps of bytes by place, and the bytes of one fragment.
use Rattle.std.specs.Prelude.{◌≡◌, ◌==◌, ℕ, ◌+◌, ◌<◌, ◌≤◌, Bool, false, List, [], ◌∷◌, Option, Some, None}
use Rattle.std.specs.Ordering.{nat_cmp}
use Rattle.std.specs.FinMap as maps
use Rattle.nb_entries.specs.Cover.{CoverFacts}
use Rattle.nb_datagram.specs.declared.key.Key.{Key}
use Rattle.nb_datagram.specs.Fragment.{FragmentParts, core_of, reach}
use Rattle.nb_datagram.specs.declared.limits.TheConstants.{MAX_LENGTH}
use Rattle.nb_entries.specs.Maps.{Held}
use Rattle.nb_entries.specs.Entry.{EntryValue, facts_of}
use Rattle.nb_entries.specs.Marks.{marks_together}

-- with_bytes m i xs: the map m, and from place i on these bytes
abbrev pub with_bytes : maps.FinMap nat_cmp ℕ → ℕ → List ℕ → maps.FinMap nat_cmp ℕ
with_bytes m i [] = m
with_bytes m i (x ∷ xs) = with_bytes (maps.insert m i x) (i + 1) xs

-- there is a value, and it is this one
abbrev pub is_there : Option ℕ → ℕ → Bool
is_there None y = false
is_there (Some x) y = x == y

-- Holds a b: all that b says is known in a, to which its marks add nothing
pub record Holds (a b : CoverFacts) : Type 0 where
  pub bytes : (i x : ℕ) → maps.get b.bytes i ≡ Some x → maps.get a.bytes i ≡ Some x
  pub marks : marks_together a.marks b.marks ≡ a.marks

-- AreCovered look n: there is a byte at each place below n
abbrev pub AreCovered : (ℕ → Option ℕ) → ℕ → Type 0
AreCovered look n = (i : ℕ) → i < n → (x : ℕ) × (look i ≡ Some x)

-- ---- entries that one fragment says all of

-- IsPart k e f: the fragment f has the key k and says what the entry e knows, and reaches no further than
-- a datagram may
pub record IsPart (k : Key) (e : EntryValue) (f : FragmentParts) : Type 0 where
  pub key : f.key ≡ k
  pub says : e ≡ Held (facts_of (core_of f))
  pub short : reach (core_of f) ≤ MAX_LENGTH
