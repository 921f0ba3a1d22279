-- When two fragments contradict each other, and when a key is spoilt in a list of fragments (our choice): the
-- relations, and then the tests by which tables are defined.
use Rattle.std.specs.Prelude.{◌≡◌, ◌≢◌, ◌≤◌, ℕ, List, Contains, Bool, false, not, [], ◌∷◌, ◌||◌, filter}
use Rattle.nb_datagram.specs.declared.key.Key.{Key}
use Rattle.nb_datagram.specs.Fragment.{Core, Covers, EndsAt}
use Rattle.nb_entries.specs.Marks.{Promises}
use Rattle.nb_entries.specs.Cover.{BytesBelow, cover_of}
use Rattle.std.specs.List.{list_any}
use Rattle.nb_datagram.specs.Key.{same_key}
use Rattle.nb_entries.specs.Entry.{facts_agree, facts_of}

-- both fragments cover a place, with different bytes
pub record Overlap (f g : Core) : Type 0 where
  pub place : ℕ
  pub byte : ℕ
  pub other_byte : ℕ
  pub covers : Covers f place byte
  pub other_covers : Covers g place other_byte
  pub differs : byte ≢ other_byte

-- PastEnd f g: f ends, and not all that g covers lies below that end: g covers a place at or past it
pub record PastEnd (f g : Core) : Type 0 where
  pub end : ℕ
  pub ends : EndsAt f end
  pub past : BytesBelow end (cover_of g).bytes → ⊥

-- BreaksPromise f g: f ends at or before the place at which, or after which, g promises a byte
pub record BreaksPromise (f g : Core) : Type 0 where
  pub end : ℕ
  pub promised : ℕ
  pub ends : EndsAt f end
  pub promises : Promises g promised
  pub broken : end ≤ promised

-- f and g contradict each other, whatever their keys: in kind or in a name, in the byte at a place, in
-- the end, by a place of one at or past the end of the other, or by an end of one that breaks the promise of
-- the other
pub data Conflict (f g : Core) : Type 0 where
  kinds : f.kind ≢ g.kind → Conflict f g
  sources : f.source ≢ g.source → Conflict f g
  destinations : f.destination ≢ g.destination → Conflict f g
  overlap : Overlap f g → Conflict f g
  ends : (m n : ℕ) → EndsAt f m → EndsAt g n → m ≢ n → Conflict f g
  past_end : PastEnd f g → Conflict f g
  past_other_end : PastEnd g f → Conflict f g
  breaks : BreaksPromise f g → Conflict f g
  breaks_other : BreaksPromise g f → Conflict f g

-- two fragments disagree: they have one key, and conflict
pub record Disagree (f g : Core) : Type 0 where
  pub one_key : f.key ≡ g.key
  pub conflict : Conflict f g

-- IsSpoilt L k: L contradicts itself about the key k
pub record IsSpoilt (L : List Core) (k : Key) : Type 0 where
  pub one : Core
  pub other : Core
  pub has_one : Contains L one
  pub has_other : Contains L other
  pub of_key : one.key ≡ k
  pub disagree : Disagree one other

-- ---- the tests of conflict and of spoiling by which tables are defined
-- Laws say that they are the relations above: conflict_test_is_the_relation and spoilt_test_is_the_relation.

-- f and g conflict, as a test
abbrev pub conflicts : Core → Core → Bool
conflicts f g = not (facts_agree (facts_of f) (facts_of g))

-- two of these fragments conflict
abbrev pub some_conflict : List Core → Bool
some_conflict [] = false
some_conflict (f ∷ fs) = list_any (conflicts f) fs || some_conflict fs

-- keyed p L: the fragments of L whose keys pass the test p, in order
abbrev pub keyed : (Key → Bool) → List Core → List Core
keyed p = filter (λ f. p f.key)

-- with_key k L: the fragments of L with key k, in order
abbrev pub with_key : Key → List Core → List Core
with_key k = keyed (same_key k)

-- without_key k L: the fragments of L whose key isn't k, in order
abbrev pub without_key : Key → List Core → List Core
without_key k = keyed (λ q. not (same_key k q))

-- is_spoilt L k: L contradicts itself about the key k, as a test
abbrev pub is_spoilt : List Core → Key → Bool
is_spoilt L k = some_conflict (with_key k L)
