-- The keys and entries of a saved table while it is written, judged and kept.
use Rattle.std.specs.Prelude.{◌≡◌, ◌-◌, ◌≤◌, ◌↔◌, ℕ, Bool, IsTrue, true, List, [], map, filter, length, Ok, Option, None}
use Rattle.std.specs.Cmp.Lexicographic.{slice_cmp}
use Rattle.std.specs.List.{list_all, AllByRecursion}
use Rattle.std.specs.Option.{IfSome}
use Rattle.std.specs.Ordering.{nat_cmp, is_le}
use Rattle.std.specs.FinMap as maps
use Rattle.nb_datagram.specs.declared.key.Key.{Key}
use Rattle.nb_datagram.specs.Header.{IsKey}
use Rattle.nb_datagram.specs.Key.{key_cmp}
use Rattle.nb_entries.specs.declared.saved.SavedForm.{SavedForm}
use Rattle.nb_table.specs.declared.saved.Sources.{Sources}
use Rattle.nb_entries.specs.Entry.{EntryValue, is_short}
use Rattle.nb_table.specs.Contents.{Contents}
use Rattle.nb_table.specs.Limits.{of_source}
use Rattle.nb_entries.specs.Saved.{IsNamed}
use Rattle.nb_table.specs.Saved.{entries_at, IsRead}
use Rattle.nb_entries.specs.Maps.{OnHeld}

-- the key is one, and the entry is spoilt or its names are names
abbrev pub HasNames : Key × EntryValue → Type 0
HasNames e = IsKey e.0 × OnHeld IsNamed e.1

-- at most n of these keys have one address
abbrev pub AreFew : ℕ → List Key → Type 0
AreFew n ks = (ip : List ℕ) → length (filter (of_source ip) ks) ≤ n

-- SourcesSoFar n ks before s: of the keys ks, of which `before` is the last, s says whether at most n have one
-- address, and how many more of the last one's address may come
pub record SourcesSoFar (n : ℕ) (ks : List Key) (before : Option Key) (s : Sources) : Type 0 where
  pub few : IsTrue s.are_few ↔ AreFew n ks
  pub room : IfSome before (λ b. s.room ≡ n - length (filter (of_source b.ip) ks))
  pub none_yet : before ≡ None → ks ≡ []
  pub below : IfSome before (λ b. AllByRecursion (λ q. is_le (slice_cmp nat_cmp q.ip b.ip) ≡ true) ks)

-- this many keys with their entries stand from `at` up to `next`; `short` is whether each is short, and `few`
-- whether at most `most` of the keys have one address
pub record AreJudged (form : SavedForm) (input : List ℕ) (count limit most at : ℕ) (short few : Bool) (next : ℕ) : Type 0 where
  pub entries : List (Key × EntryValue)
  pub read : entries_at form input count None at (Ok (entries, next))
  pub tested : short ≡ list_all (λ e. is_short limit e.1) entries
  pub counted : IsTrue few ↔ AreFew most (map (λ e. e.0) entries)

-- the input is read, has this many keys; `short` is whether each entry is short, and `few` whether at most
-- `most` of the keys have one address
pub record IsJudged (input : List ℕ) (limit most count : ℕ) (short few : Bool) : Type 0 where
  pub entries : List (Key × EntryValue)
  pub last : ℕ
  pub read : IsRead input (Ok (entries, last))
  pub counted : count ≡ length entries
  pub tested : short ≡ list_all (λ e. is_short limit e.1) entries
  pub few_counted : IsTrue few ↔ AreFew most (map (λ e. e.0) entries)

-- this many keys with their entries stand from `at` on, and make what is kept
pub record AreKept (form : SavedForm) (input : List ℕ) (count at : ℕ) (kept : Contents) : Type 0 where
  pub entries : List (Key × EntryValue)
  pub next : ℕ
  pub read : entries_at form input count None at (Ok (entries, next))
  pub same : kept ≡ maps.from_entries {R = key_cmp} entries
