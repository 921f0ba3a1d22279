-- Runs in several rows: where they lie.
use Rattle.nb_entries.proofs.Common.{◌≡◌, ◌<◌, ◌≤◌, ◌+◌, ◌-◌, ◌++◌, ℕ, zero, suc, List, [], ◌∷◌, length, take, drop, slice_get, slice_index_or, Some, refl, sym, ap, ◌∙◌, subst, arith, append_assoc, slice_set, add-one, map-append, length-map, drop-map, take_rest, drop_all, append-nil, set_split, take_more_set, drop-set-lt, set_at, length-take-le, same_Some, AllByRecursion, insert, remove, IsNonDecreasingBy-from_all_adjacent, RunValue, run_end, StartsPast, AreApart, value_of, values_of, EndBefore, EndFrom, StartAfter, runs_in, values_in, NoneEmpty, last_end, LastsTo, IsFrom, all_append, take-append-drop, drop-cons}
use Rattle.std.specs.List.Sorted.{IsNonDecreasingBy}
use Rattle.std.specs.declared.vec.Vec.{Vec}
use Rattle.nb_entries.specs.declared.cover.runs.Run.{Run}
use Rattle.nb_entries.proofs.KeptRuns.RunRowLemmas.{apart_front, apart_back, split_at}
use Rattle.std.proofs.lemmas.Grind.{common_steps}
use Rattle.std.proofs.Math.Seq.{take-suc-set}

-- ---- what each of a list has

pub all_front : {X : Type 0} (P : X → Type 0) (xs ys : List X) → AllByRecursion P (xs ++ ys) → AllByRecursion P xs
all_front P [] ys h = tt
all_front P (x ∷ xs) ys h = (h.0, all_front P xs ys h.1)

pub all_back : {X : Type 0} (P : X → Type 0) (xs ys : List X) → AllByRecursion P (xs ++ ys) → AllByRecursion P ys
all_back P [] ys h = h
all_back P (x ∷ xs) ys h = all_back P xs ys h.1

pub all_left : {X : Type 0} (P : X → Type 0) (xs : List X) (n : ℕ) → AllByRecursion P xs → AllByRecursion P (drop n xs)
all_left P xs n h = all_back P (take n xs) (drop n xs) (rw take-append-drop h)

-- ---- the runs of rows

pub values_cons : {Z : Type 0} → (r : Vec Run Z) (rs : List (Vec Run Z)) → values_in (r ∷ rs) ≡ values_of r.items ++ values_in rs
values_cons r rs = map-append value_of r.items (runs_in rs)

pub rows_append : {Z : Type 0} → (rs ss : List (Vec Run Z)) → runs_in (rs ++ ss) ≡ runs_in rs ++ runs_in ss
rows_append [] ss = refl
rows_append (r ∷ rs) ss = rw (rows_append rs ss, append_assoc) refl

pub rows_split : {Z : Type 0} → (rs : List (Vec Run Z)) (i : ℕ) (d : Vec Run Z) → i < length rs → runs_in rs ≡ runs_in (take i rs) ++ ((slice_index_or rs i d).items ++ runs_in (drop (suc i) rs))
rows_split rs i d l = ap runs_in (split_at rs i d l) ∙ rows_append (take i rs) (slice_index_or rs i d ∷ drop (suc i) rs)

pub row_apart : {Z : Type 0} → (r : Vec Run Z) (rs : List (Vec Run Z)) → AreApart (values_in (r ∷ rs)) → AreApart (values_of r.items)
row_apart r rs a = apart_front (values_of r.items) (values_in rs) (subst AreApart (values_cons r rs) a)

pub rest_apart : {Z : Type 0} → (r : Vec Run Z) (rs : List (Vec Run Z)) → AreApart (values_in (r ∷ rs)) → AreApart (values_in rs)
rest_apart r rs a = apart_back (values_of r.items) (values_in rs) (subst AreApart (values_cons r rs) a)

-- ---- where the last run of a row ends

pub last_is : (xs : List Run) (r : Run) → slice_get xs (length xs - 1) ≡ Some r → last_end xs ≡ run_end (value_of r)
last_is [] r e = absurd (cc)
last_is (x ∷ []) r e = ap (λ (y : Run). run_end (value_of y)) (same_Some x r e)
last_is (x ∷ y ∷ xs) r e =
    let place : length (x ∷ y ∷ xs) - 1 ≡ suc (length (y ∷ xs) - 1) = omega arith in
    last_is (y ∷ xs) r (ap (slice_get (x ∷ y ∷ xs)) (sym place) ∙ e)

pub all_before : (xs : List Run) (n : ℕ) → AreApart (values_of xs) → last_end xs < n → EndBefore n (values_of xs)
all_before [] n a h = tt
all_before (x ∷ []) n a h = (h, tt)
all_before (x ∷ y ∷ xs) n a h =
    let rest = all_before (y ∷ xs) n a.1.1 h in (omega (arith, rest.0, a.1.0), rest)

ends_from : (m n : ℕ) (rs : List RunValue) → n ≤ m → StartsPast m rs → AreApart rs → EndFrom n rs
ends_from m n [] l p a = tt
ends_from m n (r ∷ rs) l p a = (omega arith, ends_from (run_end r) n rs (omega arith) a.1.0 a.1.1)

-- where the last run of a row ends at a place or after it, so do the runs behind it
behind_last : (xs : List Run) (rs : List RunValue) (n : ℕ) → 0 < length xs → AreApart (values_of xs ++ rs) → n ≤ last_end xs → EndFrom n rs
behind_last [] rs n l a h = absurd (omega arith)
behind_last (x ∷ []) rs n l a h = ends_from (run_end (value_of x)) n rs h a.1.0 a.1.1
behind_last (x ∷ y ∷ xs) rs n l a h = behind_last (y ∷ xs) rs n (omega arith) a.1.1 h

last_reaches : (xs : List Run) (n : ℕ) → 0 < length xs → EndFrom n (values_of xs) → n ≤ last_end xs
last_reaches [] n l h = absurd (omega arith)
last_reaches (x ∷ []) n l h = h.0
last_reaches (x ∷ y ∷ xs) n l h = last_reaches (y ∷ xs) n (omega arith) h.1

ends_next : {Z : Type 0} → (rs : List (Vec Run Z)) → NoneEmpty rs → AreApart (values_in rs) → (k : ℕ) (d : Vec Run Z) → suc k < length rs → last_end (slice_index_or rs k d).items ≤ last_end (slice_index_or rs (suc k) d).items
ends_next [] s a k d l = absurd (omega arith)
ends_next (r ∷ []) s a k d l = absurd (omega arith)
ends_next (r ∷ t ∷ rs) s a zero d l =
    let behind = behind_last r.items (values_in (t ∷ rs)) (last_end r.items) s.0 (subst AreApart (values_cons r (t ∷ rs)) a) (omega arith) in
    last_reaches t.items (last_end r.items) s.1.0 (all_front (λ (v : RunValue). last_end r.items ≤ run_end v) (values_of t.items) (values_in rs) (subst (EndFrom (last_end r.items)) (values_cons t rs) behind))
ends_next (r ∷ t ∷ rs) s a (suc k) d l = ends_next (t ∷ rs) s.1 (rest_apart r (t ∷ rs) a) k d (omega arith)

-- the rows ascend by where they end
pub rows_rise : {Z : Type 0} → (rs : List (Vec Run Z)) → NoneEmpty rs → AreApart (values_in rs) → IsNonDecreasingBy (λ (r : Vec Run Z). last_end r.items) rs
rows_rise {Z} rs s a = IsNonDecreasingBy-from_all_adjacent (λ (r : Vec Run Z). last_end r.items) rs (λ k d h.
    (let step : suc k ≡ k + 1 = omega arith in subst (λ j. last_end (slice_index_or rs k d).items ≤ last_end (slice_index_or rs j d).items) step (ends_next rs s a k d (omega (arith, h)))))

-- rows whose last runs end before a place have no other
pub rows_before : {Z : Type 0} → (rs : List (Vec Run Z)) (n i : ℕ) → AreApart (values_in rs) → i ≤ length rs → ((k : ℕ) (d : Vec Run Z) → k < i → last_end (slice_index_or rs k d).items < n) → EndBefore n (values_in (take i rs))
rows_before rs n zero a l h = tt
rows_before [] n (suc i) a l h = tt
rows_before (r ∷ rs) n (suc i) a l h =
    subst (EndBefore n) (sym (values_cons r (take i rs)))
    (all_append (λ (v : RunValue). run_end v < n) (values_of r.items) (values_in (take i rs)) (all_before r.items n (row_apart r rs a) (h 0 r (omega arith)))
    (rows_before rs n i (rest_apart r rs a) (omega arith) (λ k d b. h (suc k) d (omega (arith, b)))))

-- ---- the runs from a place on

pub lasts_to : {Z : Type 0} → (rs : List (Vec Run Z)) (n i : ℕ) → ((d : Vec Run Z) → i < length rs → n ≤ last_end (slice_index_or rs i d).items) → LastsTo n (drop i rs)
lasts_to [] n zero h = tt
lasts_to [] n (suc i) h = tt
lasts_to (r ∷ rs) n zero h = h r (omega arith)
lasts_to (r ∷ rs) n (suc i) h = lasts_to rs n i (λ d l. h d (omega (arith, l)))

-- rows about one of them
row_parts : {Z : Type 0} → (rs : List (Vec Run Z)) (at : ℕ) (row : Vec Run Z) (rest : List (Vec Run Z)) → take (length rs - at) (drop at rs) ≡ row ∷ rest → values_in rs ≡ values_in (take at rs) ++ (values_of row.items ++ values_in rest)
row_parts rs at row rest e =
    ap values_in (sym (take-append-drop at rs) ∙ ap (λ us. take at rs ++ us) (sym (take_rest rs at) ∙ e)) ∙ ap values_of (rows_append (take at rs) (row ∷ rest)) ∙ simp map-append

pub row_apart_at : {Z : Type 0} → (rs : List (Vec Run Z)) (at : ℕ) (row : Vec Run Z) (rest : List (Vec Run Z)) → take (length rs - at) (drop at rs) ≡ row ∷ rest → AreApart (values_in rs) → AreApart (values_of row.items ++ values_in rest)
row_apart_at rs at row rest e a = apart_back (values_in (take at rs)) (values_of row.items ++ values_in rest) (subst AreApart (row_parts rs at row rest e) a)

-- the runs from a place on, of the first row that reaches it and of those behind it
pub from_row : {Z : Type 0} → (rs : List (Vec Run Z)) (at n k : ℕ) (row : Vec Run Z) (rest : List (Vec Run Z)) → take (length rs - at) (drop at rs) ≡ row ∷ rest → NoneEmpty rs → AreApart (values_in rs) →
    EndBefore n (values_in (take at rs)) → LastsTo n (drop at rs) → EndBefore n (take k (values_of row.items)) → EndFrom n (drop k (values_of row.items)) → IsFrom (values_in rs) n (values_of (take (length row.items - k) (drop k row.items) ++ runs_in rest))
from_row {Z} rs at n k row rest e s a before last early late =
    let vs = values_of row.items in
    let front = values_in (take at rs) in
    let there : drop at rs ≡ row ∷ rest = sym (take_rest rs at) ∙ e in
    let left : values_of (take (length row.items - k) (drop k row.items) ++ runs_in rest) ≡ drop k vs ++ values_in rest =
    ap (λ us. values_of (us ++ runs_in rest)) (take_rest row.items k) ∙ map-append value_of (drop k row.items) (runs_in rest) ∙ ap (λ us. us ++ values_in rest) (sym (drop-map value_of k row.items)) in
    record {
      front = front ++ take k vs;
      cut = rw (row_parts rs at row rest e, left, append_assoc front (take k vs) (drop k vs ++ values_in rest), ← append_assoc (take k vs) (drop k vs) (values_in rest), take-append-drop) refl;
      before = all_append (λ (v : RunValue). run_end v < n) front (take k vs) before early;
      after = subst (EndFrom n) (sym left) (all_append (λ (v : RunValue). n ≤ run_end v) (drop k vs) (values_in rest) late
          (behind_last row.items (values_in rest) n (subst NoneEmpty there (all_left (λ (r : Vec Run Z). 0 < length r.items) rs at s)).0 (row_apart_at rs at row rest e a) (subst (LastsTo n) there last)));
    }

-- ---- rows that start after a place

starts_from : (m n : ℕ) (rs : List RunValue) → n ≤ m → StartsPast m rs → AreApart rs → StartAfter n rs
starts_from m n [] l p a = tt
starts_from m n (r ∷ rs) l p a = (omega arith, starts_from (run_end r) n rs (omega arith) a.1.0 a.1.1)

past_more : (n : ℕ) (rs ss : List RunValue) → 0 < length rs → StartsPast n rs → StartsPast n (rs ++ ss)
past_more n [] ss l h = absurd (omega arith)
past_more n (r ∷ rs) ss l h = h

-- where a row starts after a place, so do those that follow
pub rows_after : {Z : Type 0} → (rs : List (Vec Run Z)) (n i : ℕ) (row : Vec Run Z) → NoneEmpty rs → AreApart (values_in rs) → i < length rs → row ≡ slice_index_or rs i row → StartsPast n (values_of row.items) → StartAfter n (values_in (drop i rs))
rows_after [] n i row s a l e h = absurd (omega arith)
rows_after {Z} (r ∷ rs) n zero row s a l e h =
    let some : 0 < length (values_of r.items) = omega (arith, length-map r.items value_of, s.0) in
    let starts : StartsPast n (values_of r.items) = subst (λ (v : Vec Run Z). StartsPast n (values_of v.items)) e h in
    starts_from n n (values_in (r ∷ rs)) (omega arith) (subst (StartsPast n) (sym (values_cons r rs)) (past_more n (values_of r.items) (values_in rs) some starts)) a
rows_after (r ∷ rs) n (suc i) row s a l e h = rows_after rs n i row s.1 (rest_apart r rs a) (omega arith) e h

pub none_after : {Z : Type 0} → (rs : List (Vec Run Z)) (n i : ℕ) → length rs ≤ i → StartAfter n (values_in (drop i rs))
none_after {Z} rs n i l = subst (λ (xs : List (Vec Run Z)). StartAfter n (values_in xs)) (sym (drop_all i rs l)) tt

-- ---- Rows of runs that are cut, joined and put into.

-- ---- rows that are set, pushed, cut and joined

pub set_rows : {Z : Type 0} → (rs : List (Vec Run Z)) (i : ℕ) (r : Vec Run Z) → i < length rs → runs_in (slice_set rs i r) ≡ runs_in (take i rs) ++ (r.items ++ runs_in (drop (i + 1) rs))
set_rows rs i r l = rw (set_split rs i r l, rows_append, add-one)

-- the runs before a row, its own and those after it
pub row_cut : {Z : Type 0} → (xs : List Run) (rs : List (Vec Run Z)) (i : ℕ) (row : Vec Run Z) → runs_in rs ≡ xs → i < length rs → row ≡ slice_index_or rs i row → xs ≡ runs_in (take i rs) ++ (row.items ++ runs_in (drop (i + 1) rs))
row_cut xs rs i row same l e = sym same ∙ rw add-one (rw (← e) at (rows_split rs i row l))

-- a row put back with its runs
pub set_same_rows : {Z : Type 0} → (rs : List (Vec Run Z)) (i : ℕ) (new : Vec Run Z) → i < length rs → new.items ≡ (slice_index_or rs i new).items → runs_in (slice_set rs i new) ≡ runs_in rs
set_same_rows rs i new l same = rw (set_rows rs i new l, same, rows_split rs i new l, add-one)

-- a run pushed to the last row
pub last_pushed : {Z : Type 0} → (rs : List (Vec Run Z)) (i : ℕ) (new : Vec Run Z) (run : Run) → i + 1 ≡ length rs → new.items ≡ (slice_index_or rs i new).items ++ run ∷ [] → runs_in (slice_set rs i new) ≡ runs_in rs ++ run ∷ []
last_pushed rs i new run l put =
    let inside : i < length rs = omega (arith, l) in
    let none = drop_all (suc i) rs (omega (arith, l)) in
    rw (set_rows rs i new inside, put, rows_split rs i new inside, add-one, none) (simp (append-nil, append_assoc))

-- a row made two
pub halved : {Z : Type 0} → (rs : List (Vec Run Z)) (i : ℕ) (front back : Vec Run Z) → i < length rs → front.items ++ back.items ≡ (slice_index_or rs i front).items → runs_in (insert (slice_set rs i front) (i + 1) back) ≡ runs_in rs
halved rs i front back l both =
    let next : i < i + 1 = omega arith in
    rw (rows_split rs i front l, ← both, take_more_set, drop-set-lt, add-one) (simp (rows_append, append_assoc))

-- two rows made one
pub joined : {Z : Type 0} → (rs : List (Vec Run Z)) (i : ℕ) (own new : Vec Run Z) → i + 1 < length rs → new.items ≡ (slice_index_or rs i new).items ++ (slice_index_or rs (i + 1) new).items → runs_in (slice_set (remove (slice_set rs i own) (i + 1)) i new) ≡ runs_in rs
joined rs i own new l put =
    let inside : i < length rs = omega (arith, l) in
    let after : suc i < length rs = omega (arith, l) in
    let past : i < suc (suc i) = omega arith in
    let size : length (take i rs) ≡ i = length-take-le i rs (omega (arith, l)) in
    rw (add-one, take-suc-set, drop-set-lt, append_assoc, set_at, rows_append, put, rows_split rs i new inside, add-one, drop-cons rs (suc i) new after, append_assoc)

-- for the functions of rows, whose goals have no answers
pub ruleset row_steps = (common_steps, set_same_rows, last_pushed, rows_append, halved)
