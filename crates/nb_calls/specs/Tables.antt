-- What the calls on saved tables answer (our choice).
use Rattle.std.specs.Prelude.{◌≡◌, ℕ, Bool, true, false, List, Result, Ok, Err, [], ◌∷◌, Option, Some, None}
use Rattle.nb_calls.specs.Common.{LoadFault, TableFault, Contents, Limits, TableValue, KeepsLimits, IsReadAs, LoadFails, saved, Fits, IsRefused, listing, w32, from_be_bytes, Key}
use Rattle.nb_table.specs.Join.{join}
use Rattle.nb_member.specs.ListingFields.{listed_objects}
use Rattle.nb_calls.specs.declared.statuses.TheConstants as statuses
use Rattle.nb_calls.specs.Outputs.{OrMemory}
use Rattle.nb_calls.specs.Stations.{table_refusal}
use Rattle.nb_calls.specs.Statuses.{Refusal, load_refusal}
use Rattle.std.specs.FinMap as maps
use Rattle.std.specs.Ordering.{ord_min}
use Rattle.std.specs.declared.cmp.Ordering.TheVariants.{Less}
use Rattle.nb_datagram.specs.Key.{key_cmp}
use Rattle.nb_calls.specs.declared.tables.NbtDifference.{NbtDifference}

-- limits_with keys per_source longest: these
abbrev pub limits_with : ℕ → ℕ → ℕ → Limits
limits_with keys per_source longest = record { keys = keys; per_source = per_source; longest = longest }

-- IsLoaded input limits t: the table t stands in the input, and has and keeps these limits
pub record IsLoaded (input : List ℕ) (limits : Limits) (t : TableValue) : Type 0 where
  pub stands : IsReadAs input t.contents
  pub limited : t.limits ≡ limits
  pub keeps : KeepsLimits t

-- IsUnread role input limits refusal: no table of this role is read of the input under these limits, and why
abbrev pub IsUnread : ℕ → List ℕ → Limits → Refusal → Type 0
IsUnread role input limits refusal = (fault : LoadFault) × LoadFails input limits fault × (refusal ≡ load_refusal role fault)

-- Joins l s t answer: the join of the tables s and t, saved, if it is taken in under the limits l, else why not; memory may
-- run out for what is taken in
abbrev pub Joins : Limits → Contents → Contents → Result (List ℕ) Refusal → Type 0
Joins l s t (Ok bytes) = Fits l s t × (bytes ≡ saved (join s t))
Joins l s t (Err refusal) =
    (fault : TableFault) × IsRefused l s t fault × (refusal ≡ table_refusal fault)

-- OfTwo first second limits Then answer: this is answered of two saved tables: the first is read, then the second, each
-- under these limits, and then what is said of both
pub data OfTwo {A : Type 0} (first second : List ℕ) (limits : Limits) (Then : Contents → Contents → Result A Refusal → Type 0) : Result A Refusal → Type 0 where
  first_fails : (refusal : Refusal) → IsUnread statuses.NO_ROLE first limits refusal → OfTwo first second limits Then (Err refusal)
  second_fails : (one : TableValue) (refusal : Refusal) → IsLoaded first limits one → IsUnread statuses.SECOND second limits refusal
      → OfTwo first second limits Then (Err refusal)
  both : (one other : TableValue) (answer : Result A Refusal) → IsLoaded first limits one → IsLoaded second limits other
      → Then one.contents other.contents answer → OfTwo first second limits Then answer

-- Merges first second limits answer: this is answered of two saved tables that are joined, each of the three under these limits
abbrev pub Merges : List ℕ → List ℕ → Limits → Result (List ℕ) Refusal → Type 0
Merges first second limits = OfTwo first second limits (Joins limits)

-- the limits of a table that is only listed: as many keys as a saved one can have, and the longest datagrams
abbrev pub widest : Limits
widest = limits_with 4294967295 4294967295 65535

-- OfOne table told answer: this is answered of a saved table: it is read, then what is told of what it holds
pub data OfOne (table : List ℕ) (told : Contents → List ℕ) : Result (List ℕ) Refusal → Type 0 where
  not_read : (refusal : Refusal) → IsUnread statuses.NO_ROLE table widest refusal → OfOne table told (Err refusal)
  read : (t : TableValue) (answer : Result (List ℕ) Refusal) → IsLoaded table widest t → OrMemory (Ok (told t.contents)) answer
      → OfOne table told answer

-- listed_as json: what is told of a table: the JSON objects of its keys, each a line, or their lines
abbrev pub listed_as : Bool → Contents → List ℕ
listed_as true = listed_objects
listed_as false = listing

-- Lists table answer: this is answered of the lines of a saved table's keys
abbrev pub Lists : List ℕ → Result (List ℕ) Refusal → Type 0
Lists table = OfOne table (listed_as false)

-- ListsObjects table answer: this is answered of their JSON objects
abbrev pub ListsObjects : List ℕ → Result (List ℕ) Refusal → Type 0
ListsObjects table = OfOne table (listed_as true)

-- ---- what the call that compares two saved tables answers (our choice)

-- AreSameAt t u k: neither table holds the key k, or both have the same entry there
abbrev pub AreSameAt : Contents → Contents → Key → Type 0
AreSameAt t u k = maps.get t k ≡ maps.get u k

-- IsLeastDifference t u least: the tables t and u are equal; or this is the least key at which they differ
abbrev pub IsLeastDifference : Contents → Contents → Option Key → Type 0
IsLeastDifference t u None = t ≡ u
IsLeastDifference t u (Some k) = (¬ AreSameAt t u k) × ((j : Key) → key_cmp j k ≡ Less → AreSameAt t u j)

-- the numbers of the key at which tables differ; zeros where they are equal
abbrev pub difference_of : Option Key → NbtDifference
difference_of None = record { address = 0; port = 0; identifier = 0; differ = 0 }
difference_of (Some k) = record { address = from_be_bytes w32 k.ip; port = k.port; identifier = k.id; differ = 1 }

-- Differs t u answer: the least key at which the tables differ is answered, if there is one
abbrev pub Differs : Contents → Contents → Result NbtDifference Refusal → Type 0
Differs t u answer = (least : Option Key) × IsLeastDifference t u least × (answer ≡ Ok (difference_of least))

-- Compares first second answer: this is answered of two saved tables that are compared, whatever limits they keep
abbrev pub Compares : List ℕ → List ℕ → Result NbtDifference Refusal → Type 0
Compares first second = OfTwo first second widest Differs

-- ---- the search for it

-- lower_of k least: the lower of the key and of the least so far, if there is one
abbrev pub lower_of : Key → Option Key → Key
lower_of k None = k
lower_of k (Some held) = ord_min key_cmp held k

-- Narrows t u k least new: at the key k the least difference so far becomes the new one
pub data Narrows (t u : Contents) (k : Key) (least : Option Key) : Option Key → Type 0 where
  same : AreSameAt t u k → Narrows t u k least least
  differs : ¬ AreSameAt t u k → Narrows t u k least (Some (lower_of k least))

-- NarrowsBy t u ks least new: at these keys, one after another, it does
pub data NarrowsBy (t u : Contents) : List Key → Option Key → Option Key → Type 0 where
  at_none : {least : Option Key} → NarrowsBy t u [] least least
  at_one : {k : Key} {ks : List Key} {least next new : Option Key} → Narrows t u k least next → NarrowsBy t u ks next new
      → NarrowsBy t u (k ∷ ks) least new
