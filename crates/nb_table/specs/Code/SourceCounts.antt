-- How many keys of each address a table holds, as it is kept beside the entries.
use Rattle.std.specs.Coded.{Coded, coded_ℕ, coded_list}
use Rattle.std.specs.Prelude.{◌≡◌, ◌≢◌, ◌==◌, ◌+◌, ◌-◌, ℕ, List, cond, unwrap_or, IfSome, Option, Some, None}
use Rattle.std.specs.declared.cmp.Ordering.{Ordering}
use Rattle.std.specs.Ordering.{nat_cmp}
use Rattle.std.specs.Cmp.Lexicographic.{pointwise, slice_cmp}
use Rattle.std.specs.FinMap as maps
use Rattle.nb_table.specs.Contents.{Contents}
use Rattle.nb_table.specs.Limits.{held_keys, of_source}

-- the order of addresses: byte by byte
abbrev pub ip_cmp : List ℕ → List ℕ → Ordering
ip_cmp = slice_cmp nat_cmp

-- a count for each of some addresses
abbrev pub Counts : Type 0
Counts = maps.FinMap ip_cmp ℕ

-- the counts as the list of them with their addresses
abbrev pub counts_code : Coded Counts
counts_code = maps.code (coded_list coded_ℕ) coded_ℕ

-- count_of m ip: what m counts for an address; 0 where it has no count
abbrev pub count_of : Counts → List ℕ → ℕ
count_of m ip = unwrap_or (maps.get m ip) 0

-- if_same a b: 1 where the two addresses are one, and else 0
abbrev pub if_same : List ℕ → List ℕ → ℕ
if_same a b = cond (pointwise ◌==◌ a b) 1 0

-- HasNoZero m: no address has a count of 0, so that there are no more counts than keys
abbrev pub HasNoZero : Counts → Type 0
HasNoZero m = (ip : List ℕ) → maps.get m ip ≢ Some 0

-- CountsKeys m s: m has the number of keys of each address in s
abbrev pub CountsKeys : Counts → Contents → Type 0
CountsKeys m s = (ip : List ℕ) → count_of m ip ≡ held_keys (of_source ip) s

-- AreCounted o s: the counts, if they are kept, are those of s
abbrev pub AreCounted : Option Counts → Contents → Type 0
AreCounted o s = IfSome o (λ m. CountsKeys m s)

-- Adds o p ip: the counts p are those of o, and one key more of this address; none are kept where none were
abbrev pub Adds : Option Counts → Option Counts → List ℕ → Type 0
Adds None p ip = p ≡ None
Adds (Some m) p ip = IfSome p (λ n. (q : List ℕ) → count_of n q ≡ count_of m q + if_same ip q)

-- Takes o p ip: the same, with one key less
abbrev pub Takes : Option Counts → Option Counts → List ℕ → Type 0
Takes None p ip = p ≡ None
Takes (Some m) p ip = IfSome p (λ n. (q : List ℕ) → count_of n q ≡ count_of m q - if_same ip q)
