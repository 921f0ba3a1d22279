-- What an insert changes at a key (our choice).
use Rattle.std.specs.Prelude.{◌≡◌, ◌≢◌, Some, None}
use Rattle.std.specs.FinMap as maps
use Rattle.nb_datagram.specs.declared.key.Key.{Key}
use Rattle.nb_datagram.specs.Fragment.{FragmentParts}
use Rattle.nb_entries.specs.declared.outline.Handing.{Handing}
use Rattle.nb_entries.specs.declared.outline.Change.TheVariants.{Spoilt, Whole, Same, Grown}
use Rattle.nb_entries.specs.declared.slot.Slot.TheVariants.{Spoilt as Clashed}
use Rattle.nb_table.specs.Contents.{Contents, newly_whole}
use Rattle.nb_entries.specs.Change.{Change, DataChange, made_by, told_by}

-- IsSpoiltAt t k: the table t has the key k spoilt
abbrev pub IsSpoiltAt : Contents → Key → Type 0
IsSpoiltAt t k = maps.get t k ≡ Some Clashed

-- the key k is spoilt after, and wasn't before
pub record BecomesSpoilt (before after : Contents) (k : Key) : Type 0 where
  pub not_yet : IsSpoiltAt before k → ⊥
  pub spoilt : IsSpoiltAt after k

-- more is known after, and the key k became neither spoilt nor whole
pub record OnlyGrows (before after : Contents) (k : Key) : Type 0 where
  pub differs : after ≢ before
  pub not_spoilt : BecomesSpoilt before after k → ⊥
  pub not_whole : newly_whole before after k ≡ None

-- IsChange before after k c: where the table before became the table after, c is what changed at the
-- key k
abbrev pub IsChange : Contents → Contents → Key → Change → Type 0
IsChange before after k Spoilt = BecomesSpoilt before after k
IsChange before after k (Whole d) = newly_whole before after k ≡ Some d
IsChange before after k Same = after ≡ before
IsChange before after k Grown = OnlyGrows before after k

-- Tells h before after f told: where the fragment f made the table before the table after, what changed at
-- its key is told so, as data alone
abbrev pub Tells : Handing → Contents → Contents → FragmentParts → DataChange → Type 0
Tells h before after f told = (c : Change) × IsChange before after f.key c × (made_by f told ≡ told_by h c)
