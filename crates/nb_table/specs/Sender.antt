-- The fragments of a datagram that its sender cut: when a list has parts of it alone, and when it has
-- all of it (our choice). Places count from the first byte of the datagram's data.
use Rattle.std.specs.Prelude.{◌≡◌, ℕ, ◌<◌, false, List, length, Some, Contains}
use Rattle.nb_datagram.specs.Fragment.{Core, Covers, DatagramParts}
use Rattle.nb_datagram.specs.Pieces.{IsPart}
use Rattle.nb_table.specs.Contents.{Contents, datagram_at}

-- all fragments of L with the key of d are parts of d
abbrev pub HasPartsAlone : List Core → DatagramParts → Type 0
HasPartsAlone L d = (f : Core) → Contains L f → f.key ≡ d.key → IsPart f d

-- f is a fragment of L with the key of d
abbrev pub IsOf : List Core → DatagramParts → Core → Type 0
IsOf L d f = Contains L f × (f.key ≡ d.key)

-- the fragments of L with the key of d cover all its places, and one says that no more follows
pub record HasAll (L : List Core) (d : DatagramParts) : Type 0 where
  pub places : (i : ℕ) → i < length d.bytes → (f : Core) × IsOf L d f × ((x : ℕ) × Covers f i x)
  pub last : (f : Core) × IsOf L d f × (f.more ≡ false)

-- the table t gives the datagram d, whole
abbrev pub Gives : Contents → DatagramParts → Type 0
Gives t d = datagram_at t d.key ≡ Some d
