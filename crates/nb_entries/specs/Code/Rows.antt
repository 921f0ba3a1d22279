-- Runs that are kept: one in place, or several rows, one after the other; no public contract cites this.
use Rattle.std.specs.Prelude.{◌≡◌, ◌<◌, ◌≤◌, ◌++◌, ℕ, List, [], ◌∷◌, length, ◌+◌, ◌-◌, map, take, drop, min, cond, nat_le, slice_get, Option, Some, None, suc, zero}
use Rattle.std.specs.declared.vec.Vec.{Vec}
use Rattle.std.specs.List.{AllByRecursion}
use Rattle.nb_entries.specs.Runs.{RunValue, run_end, AreApart}
use Rattle.nb_entries.specs.declared.cover.runs.Run.{Run}
use Rattle.nb_entries.specs.declared.cover.runs.Kept.{Kept}
use Rattle.nb_entries.specs.declared.cover.runs.Kept.TheVariants.{One, Many}
use Rattle.nb_entries.specs.Maps.{first_of}
use Rattle.std.specs.Ordering.{nat_cmp}
use Rattle.std.specs.FinMap as maps
use Rattle.std.specs.Coded.{Coded, coded_ℕ}
use Rattle.std.specs.Int.{w16, from_be_bytes}

-- ---- what the code's own functions do to rows of runs; no public contract cites this

-- a run of the code as its value
abbrev pub value_of : Run → RunValue
value_of r = record { start = r.start; bytes = r.bytes.items }

-- the values of runs of the code
abbrev pub values_of : List Run → List RunValue
values_of rs = map value_of rs

-- how many bytes the runs have
abbrev pub held_in : List RunValue → ℕ
held_in [] = 0
held_in (r ∷ rs) = length r.bytes + held_in rs

-- run_at i xs: these bytes, from place i on
abbrev pub run_at : ℕ → List ℕ → RunValue
run_at i xs = record { start = i; bytes = xs }

-- the byte that a run has at a place
abbrev pub byte_in : RunValue → ℕ → Option ℕ
byte_in r i = cond (nat_le r.start i) (slice_get r.bytes (i - r.start)) None

-- the first byte that runs have at a place
abbrev pub look_in : List RunValue → ℕ → Option ℕ
look_in [] i = None
look_in (r ∷ rs) i = first_of (byte_in r i) (look_in rs i)

-- grown r f: the run r, and the bytes of f before and after it
abbrev pub grown : RunValue → RunValue → RunValue
grown r f = record {
  start = min f.start r.start;
  bytes = take (r.start - f.start) f.bytes ++ (r.bytes ++ drop (run_end r - f.start) f.bytes);
}

-- two runs overlap or touch
pub record Meet (r f : RunValue) : Type 0 where
  pub before : r.start ≤ run_end f
  pub after : f.start ≤ run_end r

-- these runs end before the place n
abbrev pub EndBefore : ℕ → List RunValue → Type 0
EndBefore n rs = AllByRecursion (λ (r : RunValue). run_end r < n) rs

-- these runs end at the place n, or after it
abbrev pub EndFrom : ℕ → List RunValue → Type 0
EndFrom n rs = AllByRecursion (λ (r : RunValue). n ≤ run_end r) rs

-- these runs start at the place n, or before it
abbrev pub StartTo : ℕ → List RunValue → Type 0
StartTo n rs = AllByRecursion (λ (r : RunValue). r.start ≤ n) rs

-- these runs start after the place n
abbrev pub StartAfter : ℕ → List RunValue → Type 0
StartAfter n rs = AllByRecursion (λ (r : RunValue). n < r.start) rs

-- no place has another byte in the runs than in the run
pub record Agree (rs : List RunValue) (f : RunValue) : Type 0 where
  pub same : (q x y : ℕ) → look_in rs q ≡ Some x → byte_in f q ≡ Some y → x ≡ y

-- the row has become one that has these bytes too
pub record IsPut (rs : List RunValue) (f : RunValue) (new : List RunValue) : Type 0 where
  pub apart : AreApart new
  pub look : (q : ℕ) → look_in new q ≡ first_of (byte_in f q) (look_in rs q)

-- where two runs have a place in common, they have one byte there
pub record AgreeOne (r f : RunValue) : Type 0 where
  pub same : (q x y : ℕ) → byte_in r q ≡ Some x → byte_in f q ≡ Some y → x ≡ y

-- these are the bytes at the places from `from` up to `to`
pub record AreBetween (look : ℕ → Option ℕ) (from to : ℕ) (xs : List ℕ) : Type 0 where
  pub sized : length xs ≡ to - from
  pub each : (q k : ℕ) → q ≡ from + k → q < to → look q ≡ slice_get xs k

-- one of the places from `from` up to `to` has no byte
pub record Lacks (look : ℕ → Option ℕ) (from to : ℕ) : Type 0 where
  pub place : ℕ
  pub least : from ≤ place
  pub most : place < to
  pub none : look place ≡ None

-- ---- What the code that answers ranges knows of its runs; no public contract cites this.

-- these runs end at the place n, or before it
abbrev pub EndBy : ℕ → List RunValue → Type 0
EndBy n rs = AllByRecursion (λ (r : RunValue). run_end r ≤ n) rs

-- ---- Bytes by place as a value of a type whose code is known, for models.

-- bytes by place
abbrev pub bytes_code : Coded (maps.FinMap nat_cmp ℕ)
bytes_code = maps.code coded_ℕ coded_ℕ

-- the runs of all rows, in order
abbrev pub runs_in : {Z : Type 0} → List (Vec Run Z) → List Run
runs_in [] = []
runs_in (r ∷ rs) = r.items ++ runs_in rs

-- the values of these runs
abbrev pub values_in : {Z : Type 0} → List (Vec Run Z) → List RunValue
values_in rs = values_of (runs_in rs)

-- each row has a run
abbrev pub NoneEmpty : {Z : Type 0} → List (Vec Run Z) → Type 0
NoneEmpty {Z} rs = AllByRecursion (λ (r : Vec Run Z). 0 < length r.items) rs

-- the runs that are kept, in order
abbrev pub kept_runs : Kept → List Run
kept_runs (One run) = run ∷ []
kept_runs (Many rows) = runs_in rows.items

-- the values of the runs that are kept
abbrev pub kept_values : Kept → List RunValue
kept_values k = values_of (kept_runs k)

-- each row that is kept has a run
abbrev pub AreFilled : Kept → Type 0
AreFilled (One run) = Unit {0}
AreFilled (Many rows) = NoneEmpty rows.items

-- where the last of these runs ends
abbrev pub last_end : List Run → ℕ
last_end [] = 0
last_end (r ∷ []) = run_end (value_of r)
last_end (r ∷ s ∷ rs) = last_end (s ∷ rs)

-- the last run of the first of these rows, if there is one, ends at the place n or after it
abbrev pub LastsTo : {Z : Type 0} → ℕ → List (Vec Run Z) → Type 0
LastsTo n [] = Unit {0}
LastsTo n (r ∷ rs) = n ≤ last_end r.items

-- the runs `rest` are those of all from the first one on that ends at the place n or after it
pub record IsFrom (all : List RunValue) (n : ℕ) (rest : List RunValue) : Type 0 where
  pub front : List RunValue
  pub cut : all ≡ front ++ rest
  pub before : EndBefore n front
  pub after : EndFrom n rest

-- ---- A row of saved runs that has been judged, by its bytes

-- the number in the two bytes at an offset
abbrev pub number_in : List ℕ → ℕ → ℕ
number_in bytes at = from_be_bytes w16 (take 2 (drop at bytes))

-- the run that these bytes begin with
abbrev pub run_of : List ℕ → RunValue
run_of bytes = record { start = number_in bytes 0; bytes = take (number_in bytes 2) (drop 4 bytes) }

-- the bytes after that run
abbrev pub after_run : List ℕ → List ℕ
after_run bytes = drop (4 + number_in bytes 2) bytes

-- all bytes of that run are there
abbrev pub RunThere : List ℕ → Type 0
RunThere bytes = 4 + number_in bytes 2 ≤ length bytes

-- the runs that these bytes begin with
abbrev pub row_of : ℕ → List ℕ → List RunValue
row_of zero bytes = []
row_of (suc count) bytes = run_of bytes ∷ row_of count (after_run bytes)

-- all bytes of these runs are there
abbrev pub RowThere : ℕ → List ℕ → Type 0
RowThere zero bytes = Unit {0}
RowThere (suc count) bytes = RunThere bytes × RowThere count (after_run bytes)
