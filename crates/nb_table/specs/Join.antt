-- Tables, joined (our choice).
use Rattle.std.specs.Prelude.{◌≡◌, ◌↔◌, ℕ, List, [], ◌∷◌, take, slice_get, Some, Contains}
use Rattle.std.specs.FinMap as maps
use Rattle.nb_datagram.specs.declared.key.Key.{Key}
use Rattle.nb_datagram.specs.Fragment.{Core}
use Rattle.nb_entries.specs.Maps.{joined}
use Rattle.nb_entries.specs.Entry.{EntryValue, IsEntry, join_entry}
use Rattle.nb_table.specs.Contents.{Contents}

-- the join of two tables: the keys of either; at a key of both, the join of the entries
abbrev pub join : Contents → Contents → Contents
join = joined join_entry

-- each entry of the table is well formed
abbrev pub IsTable : Contents → Type 0
IsTable t = (k : Key) (e : EntryValue) → maps.get t k ≡ Some e → IsEntry e

-- the lists have the same set of cores
abbrev pub SameCores : List Core → List Core → Type 0
SameCores L M = (f : Core) → (Contains L f ↔ Contains M f)

-- joined_all f x ys: x joined with each of ys in turn, from the left
abbrev pub joined_all : {X : Type 0} → (X → X → X) → X → List X → X
joined_all f x [] = x
joined_all f x (y ∷ ys) = joined_all f (f x y) ys

-- AreTaken f T x ys: each of ys is taken in its turn, that is into x joined with those before it; T x y
-- says that y is taken into x
abbrev pub AreTaken : {X : Type 0} → (X → X → X) → (X → X → Type 0) → X → List X → Type 0
AreTaken f T x ys = (i : ℕ) (y : _) → slice_get ys i ≡ Some y → T (joined_all f x (take i ys)) y
