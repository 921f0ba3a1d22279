-- Finite maps, joined key by key, and made of a list of keys.
use Rattle.std.specs.Prelude.{List, [], ◌∷◌, Option, Some, None, Bool, cond}
use Rattle.std.specs.declared.cmp.Ordering.{Ordering}
use Rattle.std.specs.FinMap as map
pub use Rattle.nb_entries.specs.declared.slot.Slot.{Slot}
pub use Rattle.nb_entries.specs.declared.slot.Slot.TheVariants.{Spoilt, Held}

-- the first value that there is
abbrev pub first_of : {X : Type 0} → Option X → Option X → Option X
first_of None b = b
first_of (Some x) b = Some x

-- joined_at f a b: what a key has that has a in one map and b in the other
abbrev pub joined_at : {X : Type 0} → (X → X → X) → Option X → Option X → Option X
joined_at f None b = b
joined_at f (Some x) None = Some x
joined_at f (Some x) (Some y) = Some (f x y)

-- joined_onto f a y: the value y of one map, joined with what the other has at its key
abbrev pub joined_onto : {X : Type 0} → (X → X → X) → Option X → X → X
joined_onto f None y = y
joined_onto f (Some x) y = f x y

module _ {K X : Type 0} {R : K → K → Ordering} where
  -- joined_with f m es: the map m, joined with the entries es
  abbrev pub joined_with : (X → X → X) → map.FinMap R X → List (K × X) → map.FinMap R X
  joined_with f m [] = m
  joined_with f m (e ∷ es) = map.insert (joined_with f m es) e.0 (joined_onto f (map.get m e.0) e.1)

  -- joined f m n: the keys of either map; at a key of both the values are joined by f
  abbrev pub joined : (X → X → X) → map.FinMap R X → map.FinMap R X → map.FinMap R X
  joined f m n = joined_with f m (map.entries n)

  -- the keys of either map; at a key of both stands the value of the first
  abbrev pub union : map.FinMap R X → map.FinMap R X → map.FinMap R X
  union m n = joined (λ x y. x) m n

  -- with_some m k o: the map m, and at the key k the value, if there is one
  abbrev pub with_some : map.FinMap R X → K → Option X → map.FinMap R X
  with_some m k None = m
  with_some m k (Some x) = map.insert m k x

  -- at_keys f ks: the map that has at each of these keys the value of f there, if there is one
  abbrev pub at_keys : (K → Option X) → List K → map.FinMap R X
  at_keys f [] = map.empty
  at_keys f (k ∷ ks) = with_some (at_keys f ks) k (f k)

-- ---- what facts come to that may contradict each other, and how two such results are joined (our choice)
--  It is said once over the facts' type. Covers and entries are two cases of it.

-- spoilt by facts that contradict each other, or what all of them say together: the code's own type

-- join_slot agree together a b: what one side has spoilt stays so, and facts that don't agree spoil it;
-- otherwise the facts of both together
abbrev pub join_slot : {X : Type 0} → (X → X → Bool) → (X → X → X) → Slot X → Slot X → Slot X
join_slot agree together Spoilt b = Spoilt
join_slot agree together (Held a) Spoilt = Spoilt
join_slot agree together (Held a) (Held b) = cond (agree a b) (Held (together a b)) Spoilt

-- what is held is well formed, if anything is
abbrev pub OnHeld : {X : Type 0} → (X → Type 0) → Slot X → Type 0
OnHeld P Spoilt = Unit {0}
OnHeld P (Held a) = P a
