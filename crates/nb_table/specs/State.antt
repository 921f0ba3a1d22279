-- What a table says of a key (our choice).
use Rattle.std.specs.Prelude.{◌≡◌, Some, None}
use Rattle.std.specs.FinMap as maps
use Rattle.nb_datagram.specs.declared.key.Key.{Key}
use Rattle.nb_entries.specs.declared.outline.State.{State}
use Rattle.nb_entries.specs.declared.outline.State.TheVariants.{Absent, Partial, Whole, Spoilt}
use Rattle.nb_entries.specs.declared.slot.Slot.TheVariants.{Held}
use Rattle.nb_entries.specs.Entry.{EntryFacts}
use Rattle.nb_table.specs.Contents.{Contents, IsWholeAt}
use Rattle.nb_entries.specs.Whole.{IsWholeCover}
use Rattle.nb_table.specs.Change.{IsSpoiltAt}

-- the key is held, neither spoilt nor whole
pub record IsPartialAt (t : Contents) (k : Key) : Type 0 where
  pub facts : EntryFacts
  pub at : maps.get t k ≡ Some (Held facts)
  pub not_whole : IsWholeCover facts.cover → ⊥

-- IsState t k s: the table t has the key k in the state s
abbrev pub IsState : Contents → Key → State → Type 0
IsState t k Absent = maps.get t k ≡ None
IsState t k Partial = IsPartialAt t k
IsState t k Whole = IsWholeAt t k
IsState t k Spoilt = IsSpoiltAt t k
