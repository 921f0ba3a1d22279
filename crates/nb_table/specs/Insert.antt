-- Inserting a fragment into a table: when it is refused, and when it needs no memory (our choice).
use Rattle.std.specs.Prelude.{◌≡◌, ◌≢◌, ◌==◌, ◌<◌, ◌≤◌, [], ◌∷◌, Some}
use Rattle.std.specs.FinMap as maps
use Rattle.nb_datagram.specs.Fragment.{FragmentParts, Core, core_of, reach, is_first}
use Rattle.nb_table.specs.declared.fault.TableFault.{TableFault}
use Rattle.nb_table.specs.declared.fault.TableFault.TheVariants.{MisplacedFirst, TooLong, FullSource, Full, NoMemory}
use Rattle.nb_entries.specs.declared.slot.Slot.TheVariants.{Held}
use Rattle.nb_entries.specs.Entry.{EntryFacts, FactsFit, facts_of}
use Rattle.nb_table.specs.Contents.{Contents, table_of}
use Rattle.nb_table.specs.Join.{join}
use Rattle.nb_table.specs.Limits.{Limits, TableValue, IsFull, IsFullSource}
use Rattle.nb_table.specs.Change.{IsSpoiltAt}

-- the flag F says otherwise than the offset whether this is the first fragment
abbrev pub IsMisplaced : FragmentParts → Type 0
IsMisplaced f = is_first f.flags ≢ (f.offset == 0)

-- F is set exactly at offset 0, and the fragment doesn't reach past the longest datagram
pub record Passes (l : Limits) (f : FragmentParts) : Type 0 where
  pub placed : is_first f.flags ≡ (f.offset == 0)
  pub short : reach (core_of f) ≤ l.longest

-- with_fragment t f: the table t joined with the table of this one fragment; its limits stay
abbrev pub with_fragment : TableValue → FragmentParts → TableValue
with_fragment t f = record { contents = join t.contents (table_of (core_of f ∷ [])); limits = t.limits }

-- NeedsNoMemory t f: the key is spoilt, or the fragment contradicts what is held of its key, or says
-- nothing that isn't held
pub data NeedsNoMemory (t : Contents) (f : Core) : Type 0 where
  spoilt : IsSpoiltAt t f.key → NeedsNoMemory t f
  contradicts : (e : EntryFacts) → maps.get t f.key ≡ Some (Held e) → (FactsFit e (facts_of f) → ⊥) → NeedsNoMemory t f
  held : join t (table_of (f ∷ [])) ≡ t → NeedsNoMemory t f

-- Lacks l t f x: the limits l and the memory refuse the fragment f with the fault x
abbrev pub Lacks : Limits → Contents → FragmentParts → TableFault → Type 0
Lacks l t f MisplacedFirst = ⊥
Lacks l t f TooLong = ⊥
Lacks l t f (FullSource k) = (k ≡ f.key) × IsFullSource l t f.key
Lacks l t f (Full k) = (k ≡ f.key) × IsFull l t f.key × (IsFullSource l t f.key → ⊥)
Lacks l t f NoMemory = (IsFull l t f.key → ⊥) × (NeedsNoMemory t (core_of f) → ⊥) × (IsFullSource l t f.key → ⊥)

-- Refuses t f x: the table t refuses the fragment f with the fault x, each where none before it applies
abbrev pub Refuses : TableValue → FragmentParts → TableFault → Type 0
Refuses t f MisplacedFirst = IsMisplaced f
Refuses t f TooLong = (is_first f.flags ≡ (f.offset == 0)) × (t.limits.longest < reach (core_of f))
Refuses t f (FullSource k) = Passes t.limits f × Lacks t.limits t.contents f (FullSource k)
Refuses t f (Full k) = Passes t.limits f × Lacks t.limits t.contents f (Full k)
Refuses t f NoMemory = Passes t.limits f × Lacks t.limits t.contents f NoMemory

-- the table takes the fragment: it passes, and there is room for its key, among those of its address too
pub record Takes (t : TableValue) (f : FragmentParts) : Type 0 where
  pub passes : Passes t.limits f
  pub source_room : IsFullSource t.limits t.contents f.key → ⊥
  pub room : IsFull t.limits t.contents f.key → ⊥
