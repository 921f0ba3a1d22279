-- What the plain program's functions find: of two fragments, the cases of a conflict one by one; of a key, what is
-- covered.
use Rattle.std.specs.Prelude.{◌≡◌, ◌==◌, ◌<◌, ℕ, Bool, false, not, List, Option, Some, None, length}
use Rattle.nb_datagram.specs.declared.key.Key.{Key}
use Rattle.nb_datagram.specs.Fragment.{Core, DatagramParts}
use Rattle.nb_table.specs.Conflict.{with_key}
use Rattle.nb_table.specs.Contents.{byte_at, cover_in, facts_in}
use Rattle.nb_entries.specs.Whole.{bytes_below, datagram_with}
use Rattle.nb_datagram.specs.declared.limits.TheConstants.{MAX_LENGTH}

-- there are both, and they differ
abbrev pub differ : Option ℕ → Option ℕ → Bool
differ None b = false
differ (Some x) None = false
differ (Some x) (Some y) = not (x == y)

-- the two fragments have the same names
abbrev pub SameNames : Core → Core → Type 0
SameNames f g = (f.source ≡ g.source) × (f.destination ≡ g.destination)

-- the two fragments have the same kind and names
abbrev pub SameHeader : Core → Core → Type 0
SameHeader f g = (f.kind ≡ g.kind) × SameNames f g

-- CoversBelow L k n: each place below n is covered by a fragment of L with key k
abbrev pub CoversBelow : List Core → Key → ℕ → Type 0
CoversBelow L k n = (i : ℕ) → i < n → (x : ℕ) × (byte_at L k i ≡ Some x)

-- datagram_to L k f n: the datagram of key k in L with the kind and names of f, if each place below n is
-- covered
abbrev pub datagram_to : List Core → Key → Core → ℕ → Option DatagramParts
datagram_to L k f n = datagram_with k (facts_in f (with_key k L)) (bytes_below (cover_in (with_key k L)).bytes n)

-- ---- what the plain program says of a key beside the definitions: whether its datagram is too long (our choice)

-- there is a datagram, and it has more bytes than a datagram may have
abbrev pub IsLong : Option DatagramParts → Type 0
IsLong None = ⊥
IsLong (Some d) = MAX_LENGTH < length d.bytes
