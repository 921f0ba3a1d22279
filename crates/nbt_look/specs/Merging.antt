-- Several capture files as one: their frames in the order of their times (our choice, which is mergecap's). Files are told by their places
-- among those that are given, from 0; at other places there is no frame.
use Rattle.std.specs.Prelude.{◌≡◌, ◌<◌, ℕ, Bool, true, false, List, [], ◌∷◌, ◌++◌, Option, Some, None, cond, drop, nat_eq, nat_le, nat_lt}
use Rattle.nb_pcap.specs.Frame.{FrameValue}

-- comes_first time other: whether a frame with this time comes before one with the other time, which is of a file that was given later:
-- one without a time comes before any, and of two with the same time that of the later file
abbrev pub comes_first : Option ℕ → Option ℕ → Bool
comes_first None other = true
comes_first (Some time) None = false
comes_first (Some time) (Some other) = nat_lt time other

-- the frame with which a list begins
abbrev pub first_of : List FrameValue → Option FrameValue
first_of [] = None
first_of (f ∷ fs) = Some f

-- IsNext files at f: this frame, of the file at this place, comes before all others with which a file begins
pub record IsNext (files : ℕ → List FrameValue) (at : ℕ) (f : FrameValue) : Type 0 where
  pub begins : first_of (files at) ≡ Some f
  pub earlier : (i : ℕ) (g : FrameValue) → i < at → first_of (files i) ≡ Some g → comes_first g.time f.time ≡ false
  pub later : (i : ℕ) (g : FrameValue) → at < i → first_of (files i) ≡ Some g → comes_first f.time g.time ≡ true

-- without at files: the files, that at this place without its first frame
abbrev pub without : ℕ → (ℕ → List FrameValue) → ℕ → List FrameValue
without at files i = cond (nat_eq i at) (drop 1 (files i)) (files i)

-- Merges files frames left: these frames, each the next when it is taken, are taken of the files, and these are left
pub data Merges : (ℕ → List FrameValue) → List FrameValue → (ℕ → List FrameValue) → Type 0 where
  none : (files : ℕ → List FrameValue) → Merges files [] files
  one_more : (files left : ℕ → List FrameValue) (at : ℕ) (f : FrameValue) (fs : List FrameValue) → IsNext files at f
      → Merges (without at files) fs left → Merges files (f ∷ fs) left

-- with_more files more: these frames of each file, and then those
abbrev pub with_more : (ℕ → List FrameValue) → (ℕ → List FrameValue) → ℕ → List FrameValue
with_more files more i = files i ++ more i

-- ---- in other words

-- of_place places frames at: of frames that are of the files at these places, those of the file at one place
abbrev pub of_place : List ℕ → List FrameValue → ℕ → List FrameValue
of_place [] fs at = []
of_place (place ∷ places) [] at = []
of_place (place ∷ places) (f ∷ fs) at = cond (nat_eq at place) (f ∷ of_place places fs at) (of_place places fs at)

-- not_after time other: whether a time is no later than another one; none is the earliest
abbrev pub not_after : Option ℕ → Option ℕ → Bool
not_after None other = true
not_after (Some time) None = false
not_after (Some time) (Some other) = nat_le time other

-- BeginsFrom time fs: the first of these frames, if there is one, has no earlier time
abbrev pub BeginsFrom : Option ℕ → List FrameValue → Type 0
BeginsFrom time [] = Unit
BeginsFrom time (f ∷ fs) = not_after time f.time ≡ true

-- the times of these frames never decrease
abbrev pub IsAscending : List FrameValue → Type 0
IsAscending [] = Unit
IsAscending (f ∷ fs) = BeginsFrom f.time fs × IsAscending fs
