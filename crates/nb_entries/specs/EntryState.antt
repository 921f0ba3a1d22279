-- The state of a key, by its entry (our choice).
use Rattle.std.specs.Prelude.{◌≡◌}
use Rattle.nb_entries.specs.declared.outline.State.{State}
use Rattle.nb_entries.specs.declared.outline.State.TheVariants.{Absent, Partial, Whole, Spoilt}
use Rattle.nb_entries.specs.Maps.{Held, Spoilt as Clashed}
use Rattle.nb_entries.specs.Entry.{EntryValue}
use Rattle.nb_entries.specs.Whole.{IsWholeCover}

-- IsEntryState e s: a key that has the entry e is in the state s
abbrev pub IsEntryState : EntryValue → State → Type 0
IsEntryState Clashed s = s ≡ Spoilt
IsEntryState (Held e) Absent = ⊥
IsEntryState (Held e) Partial = IsWholeCover e.cover → ⊥
IsEntryState (Held e) Whole = IsWholeCover e.cover
IsEntryState (Held e) Spoilt = ⊥
