-- What a fragment changes at its key, of what is known of the key before and after (our choice).
use Rattle.std.specs.Prelude.{◌≡◌, ◌≢◌, ℕ, List, Option, Some, None, option_and_then}
use Rattle.nb_datagram.specs.declared.key.Key.{Key}
use Rattle.nb_datagram.specs.Fragment.{DatagramParts, datagram_by, FragmentParts}
use Rattle.nb_entries.specs.declared.outline.Change.{Change as ChangeOf}
use Rattle.nb_entries.specs.declared.outline.Change.TheVariants.{Spoilt, Whole, Same, Grown}
use Rattle.nb_entries.specs.declared.outline.Handing.{Handing}
use Rattle.nb_entries.specs.declared.outline.Handing.TheVariants.{Over, Kept}
use Rattle.nb_entries.specs.Maps.{Spoilt as Clashed}
use Rattle.nb_entries.specs.Entry.{EntryValue}
use Rattle.nb_entries.specs.Whole.{datagram_of, newly}

-- a change, with the datagram of a key that became whole
abbrev pub Change : Type 0
Change = ChangeOf DatagramParts

-- a change, with the data alone of a key that became whole
abbrev pub DataChange : Type 0
DataChange = ChangeOf (List ℕ)

-- made_by f c: the change c that the fragment f made, with the datagram in place of its data
abbrev pub made_by : FragmentParts → DataChange → Change
made_by f Spoilt = Spoilt
made_by f (Whole bytes) = Whole (datagram_by f bytes)
made_by f Same = Same
made_by f Grown = Grown

-- KeyChange k a b c: a key k has a before, if anything, and b after; c is what that changes at the key: it becomes
-- spoilt; it becomes whole, with this datagram; nothing; or more is known, and it became neither
abbrev pub KeyChange : Key → Option EntryValue → Option EntryValue → Change → Type 0
KeyChange k a b Spoilt = (a ≢ Some Clashed) × (b ≡ Some Clashed)
KeyChange k a b (Whole d) = newly (option_and_then (datagram_of k) a) (option_and_then (datagram_of k) b) ≡ Some d
KeyChange k a b Same = b ≡ a
KeyChange k a b Grown =
    (b ≢ a) × (((a ≢ Some Clashed) × (b ≡ Some Clashed)) → ⊥)
    × (newly (option_and_then (datagram_of k) a) (option_and_then (datagram_of k) b) ≡ None)

-- what facts that grow come to, with what is handed over of the datagram, if it is whole
abbrev pub grown_to : {D : Type 0} → Option D → ChangeOf D
grown_to None = Grown
grown_to (Some d) = Whole d

-- what there is of a datagram, if it is handed over
abbrev pub handed_by : {D : Type 0} → Handing → Option D → Option D
handed_by Over d = d
handed_by Kept d = None

-- what is told of a change: a key that became whole is said to grow where its datagram isn't handed over
abbrev pub told_by : Handing → Change → Change
told_by Over c = c
told_by Kept Spoilt = Spoilt
told_by Kept (Whole d) = Grown
told_by Kept Same = Same
told_by Kept Grown = Grown

-- Tells h f a b told: the key of the fragment f had a before, if anything, and has b after; what f changed is told so,
-- as data alone
abbrev pub Tells : Handing → FragmentParts → Option EntryValue → Option EntryValue → DataChange → Type 0
Tells h f a b told = (c : Change) × KeyChange f.key a b c × (made_by f told ≡ told_by h c)

-- the datagram of a key that became whole
abbrev pub whole_by : Change → Option DatagramParts
whole_by Spoilt = None
whole_by (Whole d) = Some d
whole_by Same = None
whole_by Grown = None
