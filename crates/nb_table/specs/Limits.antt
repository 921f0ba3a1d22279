-- The limits of a table, and what keeps to them (our choice).
use Rattle.std.specs.Prelude.{◌≡◌, ℕ, ◌≤◌, None, Some, ◌==◌, Bool, true, List, filter, length}
use Rattle.std.specs.FinMap as maps
use Rattle.nb_datagram.specs.declared.key.Key.{Key}
use Rattle.nb_entries.specs.Entry.{EntryValue, IsShort}
use Rattle.nb_table.specs.Contents.{Contents}
use Rattle.nb_table.specs.Join.{IsTable}
use Rattle.std.specs.Cmp.Lexicographic.{pointwise}

-- ---- how many keys of a group a table holds: of all keys, or of those with one address (our choice)

-- the group of all keys
abbrev pub every_key : Key → Bool
every_key k = true

-- of_source ip: the group of the keys with this address, whatever their ports and identifiers
abbrev pub of_source : List ℕ → Key → Bool
of_source ip k = pointwise ◌==◌ k.ip ip

-- held_keys p s: how many keys of s are in the group p
abbrev pub held_keys : (Key → Bool) → Contents → ℕ
held_keys p s = length (filter p (maps.keys s))

-- FewOfEach n s: s has at most n keys of each address
abbrev pub FewOfEach : ℕ → Contents → Type 0
FewOfEach n s = (ip : List ℕ) → held_keys (of_source ip) s ≤ n

-- how many keys a table may hold, how many of one address, and how many bytes a datagram may have
pub record Limits : Type 0 where
  pub keys : ℕ
  pub per_source : ℕ
  pub longest : ℕ

-- IsFull l t k: under the limits l the table t has no room for the key k: k is new, and as many keys as
-- may be are held
pub record IsFull (l : Limits) (t : Contents) (k : Key) : Type 0 where
  pub is_new : maps.get t k ≡ None
  pub no_room : l.keys ≤ maps.len t

-- IsFullSource l t k: under the limits l the table t has no room for a further key of the address of k: k is
-- new, and as many keys of its address as may be are held
pub record IsFullSource (l : Limits) (t : Contents) (k : Key) : Type 0 where
  pub is_new : maps.get t k ≡ None
  pub no_room : l.per_source ≤ held_keys (of_source k.ip) t

-- what a table is: its contents and its limits
pub record TableValue : Type 0 where
  pub contents : Contents
  pub limits : Limits

-- the table keeps to its limits, and each entry is well formed
pub record KeepsLimits (t : TableValue) : Type 0 where
  pub count : maps.len t.contents ≤ t.limits.keys
  pub sources : FewOfEach t.limits.per_source t.contents
  pub short : (k : Key) (e : EntryValue) → maps.get t.contents k ≡ Some e → IsShort t.limits.longest e
  pub formed : IsTable t.contents

-- with_contents t c: the table with these contents; its limits stay
abbrev pub with_contents : TableValue → Contents → TableValue
with_contents t c = record { contents = c; limits = t.limits }
