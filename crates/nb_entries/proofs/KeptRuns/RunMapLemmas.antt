-- The map of the code's runs: what its tests and changes say of it.
use Rattle.nb_entries.proofs.Common.{◌≡◌, ◌<◌, ◌≤◌, ◌+◌, ◌-◌, ◌==◌, ◌&&◌, ◌⊎◌, ℕ, zero, suc, inl, inr, Bool, true, false, List, [], ◌∷◌, length, get_or, slice_get, Option, Some, None, refl, sym, ap, ap₂, ◌∙◌, arith, ◌++◌, take, drop, subst, slice_set, slice_index_or, take-append-drop, append_assoc, and_from, and_parts, take_all, get_or-map, map-append, take-map, take-take, drop-map, set_split, take_more_set, drop-set-lt, length-map, slice_get-get_or, list_all, nat_cmp, both_ways, nat_cmp_total, same_where, placed, bytes_agree, first_of, union, is_there, with_bytes, RunValue, AreApart, places_of, map_of_runs, run_end, bytes_below, run_at, byte_in, look_in, Agree, IsPut, AreBetween, Lacks, value_of, values_of, grown, Meet, EndBefore, EndFrom, StartTo, StartAfter, same_at, at_same, first_alone, first_either, first_of_three, one_value, get-union, all_entries_found, all_entries_from, places_in_map, below_from, below_none}
use Rattle.std.proofs.lemmas.List.Folds.{list_all-append}
use Rattle.std.specs.Cmp.Lexicographic.{pointwise}
use Rattle.std.specs.FinMap as maps
use Rattle.std.specs.FinMap.{nat_cmp-IsAntisymmetric}
use Rattle.nb_entries.proofs.KeptRuns.RunRowLemmas.{has_of, byte_on, get-runs, split_at, all_at, all_from_at, apart_front, apart_back}
use Rattle.nb_entries.proofs.KeptRuns.RunPutLemmas.{swap, put_alone, put_one, put_more, put_part, part_agrees}
use Rattle.nb_entries.proofs.KeptRuns.RunReadLemmas.{look_put, other_look}
use Rattle.std.proofs.ByRecursion.{All-take}
use Rattle.nb_entries.specs.declared.cover.runs.Run.{Run}

-- ---- a test of each byte

all_from_each : (P : ℕ → ℕ → Bool) (i : ℕ) (xs : List ℕ) → ((q k x : ℕ) → q ≡ i + k → slice_get xs k ≡ Some x → P q x ≡ true) → list_all (λ (e : ℕ × ℕ). P e.0 e.1) (placed i xs) ≡ true
all_from_each P i [] h = refl
all_from_each P i (x ∷ xs) h = and_from _ _ (h i 0 x (omega arith) refl) (all_from_each P (i + 1) xs (λ q k y e g. h q (suc k) y (omega (arith, e)) g))

each_from_all : (P : ℕ → ℕ → Bool) (i : ℕ) (xs : List ℕ) → list_all (λ (e : ℕ × ℕ). P e.0 e.1) (placed i xs) ≡ true → (q k x : ℕ) → q ≡ i + k → slice_get xs k ≡ Some x → P q x ≡ true
each_from_all P i [] h q k x e g = absurd (cc)
each_from_all P i (y ∷ ys) h q zero x e g =
    let one : x ≡ y = cc in
    let here : q ≡ i = omega arith in rw (here, one) (and_parts _ _ h).0
each_from_all P i (y ∷ ys) h q (suc k) x e g = each_from_all P (i + 1) ys (and_parts _ _ h).1 q k x (omega (arith, e)) g

-- ---- bytes that agree

-- none of these places has another byte in the map
abbrev pub agree_at : maps.FinMap nat_cmp ℕ → List (ℕ × ℕ) → Bool
agree_at m es = list_all (λ (e : ℕ × ℕ). same_where (maps.get m e.0) e.1) es

same_from : (m : maps.FinMap nat_cmp ℕ) (s : ℕ) (xs : List ℕ) → agree_at m (placed s xs) ≡ true → (q x y : ℕ) → maps.get m q ≡ Some x → byte_in (run_at s xs) q ≡ Some y → x ≡ y
same_from m s xs h q x y e g =
    let has = has_of (run_at s xs) q y g in
    sym (same_at (maps.get m q) y x (each_from_all (λ i v. same_where (maps.get m i) v) s xs h q (q - s) y (omega arith) has.is) e)

from_same : (m : maps.FinMap nat_cmp ℕ) (s : ℕ) (xs : List ℕ) → ((q x y : ℕ) → maps.get m q ≡ Some x → byte_in (run_at s xs) q ≡ Some y → x ≡ y) → agree_at m (placed s xs) ≡ true
from_same m s xs h = all_from_each (λ i v. same_where (maps.get m i) v) s xs (λ q k y e g. at_same (maps.get m q) y (λ x i. sym (h q x y i (byte_on (run_at s xs) q k e ∙ g))))

pub agree_from : (rs : List RunValue) (s : ℕ) (xs : List ℕ) → agree_at (map_of_runs rs) (placed s xs) ≡ true → Agree rs (run_at s xs)
agree_from rs s xs h = record { same = λ q x y e. same_from (map_of_runs rs) s xs h q x y (get-runs rs q ∙ e) }

pub from_agree : (rs : List RunValue) (s : ℕ) (xs : List ℕ) → Agree rs (run_at s xs) → agree_at (map_of_runs rs) (placed s xs) ≡ true
from_agree rs s xs h = from_same (map_of_runs rs) s xs (λ q x y e. h.same q x y (sym (get-runs rs q) ∙ e))

turned : (m n : maps.FinMap nat_cmp ℕ) → bytes_agree m n ≡ true → bytes_agree n m ≡ true
turned m n h = all_entries_from nat_cmp_total nat_cmp-IsAntisymmetric (λ i v. same_where (maps.get m i) v) n (λ q x e.
    at_same (maps.get m q) x (λ y g. sym (same_at (maps.get n q) y x (all_entries_found nat_cmp-IsAntisymmetric (λ i v. same_where (maps.get n i) v) m h q y g) e)))

-- two maps agree where the runs of the one agree with the other
pub agree_each : (m : maps.FinMap nat_cmp ℕ) (rs : List RunValue) → AreApart rs → agree_at m (places_of rs) ≡ bytes_agree m (map_of_runs rs)
agree_each m rs a = ap (agree_at m) (sym (places_in_map rs a)) ∙ both_ways _ _ (turned (map_of_runs rs) m) (turned m (map_of_runs rs))

-- ---- bytes put

pub map_put : (rs new : List RunValue) (s : ℕ) (xs : List ℕ) → IsPut rs (run_at s xs) new → map_of_runs new ≡ with_bytes (map_of_runs rs) s xs
map_put rs new s xs p = maps.same_map nat_cmp_total nat_cmp-IsAntisymmetric _ _ (λ q.
    get-runs new q ∙ p.look q ∙ sym (look_put (map_of_runs rs) s xs q ∙ ap (first_of (byte_in (run_at s xs) q)) (get-runs rs q)))

-- ---- bytes that are there

pub held_test : (look : ℕ → Option ℕ) (s : ℕ) (xs held : List ℕ) → AreBetween look s (s + length xs) held → pointwise ◌==◌ held xs ≡ list_all (λ (e : ℕ × ℕ). is_there (look e.0) e.1) (placed s xs)
held_test look s [] [] h = refl
held_test look s [] (y ∷ ys) h = absurd (omega arith)
held_test look s (x ∷ xs) [] h = absurd (omega arith)
held_test look s (x ∷ xs) (y ∷ ys) h =
    ap₂ (λ a b. a && b) (ap (λ o. is_there o x) (sym (h.each s 0 (omega arith) (omega arith))))
    (held_test look (s + 1) xs ys (record { sized = omega arith; each = λ q k e l. h.each q (suc k) (omega (arith, e)) (omega (arith, l)) }))

pub lacks_test : (look : ℕ → Option ℕ) (s : ℕ) (xs : List ℕ) → Lacks look s (s + length xs) → false ≡ list_all (λ (e : ℕ × ℕ). is_there (look e.0) e.1) (placed s xs)
lacks_test look s xs l = both_ways _ _ (λ t. absurd (cc)) (λ t. (
    let k : ℕ = l.place - s in
    let test : is_there (look l.place) (get_or xs k 0) ≡ true = each_from_all (λ i v. is_there (look i) v) s xs t l.place k _ (omega arith) (slice_get-get_or xs k 0 (omega arith)) in
    sym (ap (λ o. is_there o (get_or xs k 0)) l.none) ∙ test))

-- ---- bytes below a place

pub below_is : (m : maps.FinMap nat_cmp ℕ) (n : ℕ) (xs : List ℕ) → AreBetween (maps.get m) 0 n xs → bytes_below m n ≡ Some xs
below_is m n xs h = below_from m xs n (omega arith) (λ q l. h.each q q (omega arith) l) ∙ ap Some (take_all n xs (omega arith))

-- a place that neither a map nor the bytes that are put have
pub lacks_put : (m : maps.FinMap nat_cmp ℕ) (s n q : ℕ) (xs : List ℕ) → q < n → (q < s) ⊎ (s + length xs ≤ q) → maps.get m q ≡ None → bytes_below (with_bytes m s xs) n ≡ None
lacks_put m s n q xs l h g = below_none _ n q l (other_look m s xs q h ∙ g)

-- ---- maps united

-- the map has the bytes of all, but for the runs that are left
pub record IsGoing (all made : maps.FinMap nat_cmp ℕ) (left : List RunValue) : Type 0 where
  pub agree : agree_at all (places_of left) ≡ true
  pub look : (q : ℕ) → maps.get all q ≡ first_of (maps.get made q) (look_in left q)

pub going_first : (m : maps.FinMap nat_cmp ℕ) (rs : List RunValue) → AreApart rs → bytes_agree m (map_of_runs rs) ≡ true → IsGoing (union m (map_of_runs rs)) m rs
going_first m rs a h =
    let n = map_of_runs rs in
    let both = get-union nat_cmp_total nat_cmp-IsAntisymmetric m n in
    record {
      agree = ap (agree_at (union m n)) (sym (places_in_map rs a)) ∙ all_entries_from nat_cmp_total nat_cmp-IsAntisymmetric (λ i v. same_where (maps.get (union m n) i) v) n (λ q x e.
          at_same (maps.get (union m n) q) x (λ y g. elim (first_either (maps.get m q) (maps.get n q) y (sym (both q) ∙ g)) [
            | inl i ↦ sym (same_at (maps.get n q) y x (all_entries_found nat_cmp-IsAntisymmetric (λ i v. same_where (maps.get n i) v) m h q y i) e)
            | inr i ↦ one_value (maps.get n q) x y e i
          ]));
      look = λ q. both q ∙ ap (first_of (maps.get m q)) (get-runs rs q);
    }

pub going_agrees : (all made : maps.FinMap nat_cmp ℕ) (r : RunValue) (left : List RunValue) → IsGoing all made (r ∷ left) → agree_at made (placed r.start r.bytes) ≡ true
going_agrees all made r left h =
    let first = (and_parts _ _ (sym (list_all-append (λ (e : ℕ × ℕ). same_where (maps.get all e.0) e.1) (placed r.start r.bytes) (places_of left)) ∙ h.agree)).0 in
    from_same made r.start r.bytes (λ q x y e g. same_from all r.start r.bytes first q x y (h.look q ∙ ap (λ o. first_of o (look_in (r ∷ left) q)) e) g)

pub going_next : (all made new : maps.FinMap nat_cmp ℕ) (r : RunValue) (left : List RunValue) → IsGoing all made (r ∷ left) → new ≡ with_bytes made r.start r.bytes → IsGoing all new left
going_next all made new r left h put = record {
  agree = (and_parts _ _ (sym (list_all-append (λ (e : ℕ × ℕ). same_where (maps.get all e.0) e.1) (placed r.start r.bytes) (places_of left)) ∙ h.agree)).1;
  look = λ q. h.look q
      ∙ swap (maps.get made q) (byte_in r q) (look_in left q) (same_from made r.start r.bytes (going_agrees all made r left h) q)
      ∙ sym (first_of_three (byte_in r q) (maps.get made q) (look_in left q))
      ∙ ap (λ o. first_of o (look_in left q)) (sym (ap (λ n. maps.get n q) put ∙ look_put made r.start r.bytes q));
}

pub going_all : (all made : maps.FinMap nat_cmp ℕ) → IsGoing all made [] → made ≡ all
going_all all made h = maps.same_map nat_cmp_total nat_cmp-IsAntisymmetric _ _ (λ q. sym (h.look q ∙ first_alone (maps.get made q)))

-- ---- Where bytes lie among the code's runs, and what is left once they are put there.

-- the runs before `first` end before the bytes, those from `past` on start after them
pub record Lies (xs : List Run) (f : RunValue) (first past : ℕ) : Type 0 where
  pub before : EndBefore f.start (take first (values_of xs))
  pub from : EndFrom f.start (drop first (values_of xs))
  pub past_within : past ≤ length xs
  pub to : StartTo (run_end f) (take past (values_of xs))
  pub after : StartAfter (run_end f) (drop past (values_of xs))

pub lies_of : (xs ys zs : List Run) (f : RunValue) (first past : ℕ) → ys ≡ xs → zs ≡ xs → EndBefore f.start (take first (values_of ys)) → EndFrom f.start (drop first (values_of ys)) → past ≤ length zs → StartTo (run_end f) (take past (values_of zs)) → StartAfter (run_end f) (drop past (values_of zs)) → Lies xs f first past
lies_of xs ys zs f first past e d b a v t s = record {
  before = subst (λ us. EndBefore f.start (take first (values_of us))) e b;
  from = subst (λ us. EndFrom f.start (drop first (values_of us))) e a;
  past_within = subst (λ (us : List Run). past ≤ length us) d v;
  to = subst (λ us. StartTo (run_end f) (take past (values_of us))) d t;
  after = subst (λ us. StartAfter (run_end f) (drop past (values_of us))) d s;
}

-- a run's value, at its place in the row
pub at_value : (xs : List Run) (i : ℕ) (d : Run) → i < length xs → get_or (values_of xs) i (value_of d) ≡ value_of (slice_index_or xs i d)
at_value xs i d h = get_or-map value_of xs i d (value_of d) h

-- the runs from `first` up to `past` meet the bytes
pub meet_at : (xs : List Run) (f : RunValue) (first past k : ℕ) (w : Run) → Lies xs f first past → first ≤ k → k < past → w ≡ slice_index_or xs k w → Meet (value_of w) f
meet_at xs f first past k w h b l e =
    let size = length-map xs value_of in
    let within = h.past_within in
    let inside : k < length xs = omega (arith, within, l) in
    subst (λ r. Meet r f) (at_value xs k w inside ∙ ap value_of (sym e)) (record {
      before = all_at (λ r. r.start ≤ run_end f) (values_of xs) past k (value_of w) h.to l (omega (arith, size, inside));
      after = all_from_at (λ r. f.start ≤ run_end r) (values_of xs) first k (value_of w) h.from b (omega (arith, size, inside));
    })

-- a part of a row is apart where the row is
pub apart_between : (xs bs ms ss : List Run) → xs ≡ bs ++ (ms ++ ss) → AreApart (values_of xs) → AreApart (values_of ms)
apart_between xs bs ms ss e a = apart_front (values_of ms) (values_of ss) (apart_back (values_of bs) (values_of ms ++ values_of ss) (simp map-append at (rw e at a)))

-- and the part agrees with the bytes where the row does
pub agrees_between : (xs bs ms ss : List Run) (f : RunValue) → xs ≡ bs ++ (ms ++ ss) → AreApart (values_of xs) → Agree (values_of xs) f → Agree (values_of ms) f
agrees_between xs bs ms ss f e a agree = part_agrees (values_of bs) (values_of ms) (values_of ss) f (simp map-append at (rw e at a)) (simp map-append at (rw e at agree))

-- and the row is put into where the part is
pub put_between : (xs ys bs ms new ss : List Run) (f : RunValue) → xs ≡ bs ++ (ms ++ ss) → ys ≡ bs ++ (new ++ ss) → AreApart (values_of xs) → EndBefore f.start (values_of bs) → StartAfter (run_end f) (values_of ss) → IsPut (values_of ms) f (values_of new) → IsPut (values_of xs) f (values_of ys)
put_between xs ys bs ms new ss f e d a before after put =
    rw (e, d) (simp map-append (put_part (values_of bs) (values_of ms) (values_of new) (values_of ss) f (simp map-append at (rw e at a)) before after put))

pub none_there : (xs : List Run) (f : RunValue) (first past : ℕ) (r : Run) → Lies xs f first past → past ≤ first → AreApart (values_of xs) → 0 < length f.bytes → value_of r ≡ f → IsPut (values_of xs) f (values_of (take past xs ++ r ∷ drop past xs))
none_there xs f first past r h l a some e =
    let before = rw (take-take past first (values_of xs) l) at (All-take (λ t. run_end t < f.start) past (take first (values_of xs)) h.before) in
    put_between xs _ (take past xs) [] (r ∷ []) (drop past xs) f (sym (take-append-drop past xs)) refl a (rw take-map at before) (rw drop-map at h.after) (put_alone f (value_of r) some e)

pub one_there : (xs : List Run) (f : RunValue) (first past : ℕ) (w r : Run) → Lies xs f first past → past ≡ first + 1 → AreApart (values_of xs) → Agree (values_of xs) f → w ≡ slice_index_or xs first w → value_of r ≡ grown (value_of w) f →
    IsPut (values_of xs) f (values_of (slice_set xs first r))
one_there xs f first past w r h l a agree e g =
    let within = h.past_within in
    let inside : first < length xs = omega (arith, within, l) in
    let next : past ≡ suc first = omega (arith, l) in
    let cut : xs ≡ take first xs ++ (w ∷ [] ++ drop past xs) = rw next (split_at xs first w inside ∙ ap (λ (x : Run). take first xs ++ x ∷ drop (suc first) xs) (sym e)) in
    put_between xs (slice_set xs first r) (take first xs) (w ∷ []) (r ∷ []) (drop past xs) f cut (rw next (set_split xs first r inside)) a (rw take-map at h.before) (rw drop-map at h.after)
    (rw g (put_one (value_of w) f (apart_between xs (take first xs) (w ∷ []) (drop past xs) cut a).0 (meet_at xs f first past first w h (omega arith) (omega (arith, l)) e) (agrees_between xs (take first xs) (w ∷ []) (drop past xs) f cut a agree)))

-- a row cut before a run, and after a later one
cut_more : (xs : List Run) (i k : ℕ) (d e : Run) → i < k → k < length xs → xs ≡ take i xs ++ ((get_or xs i d ∷ (drop (suc i) (take k xs) ++ get_or xs k e ∷ [])) ++ drop (suc k) xs)
cut_more [] i k d e l b = absurd (omega arith)
cut_more (x ∷ xs) i zero d e l b = absurd (omega arith)
cut_more (x ∷ xs) zero (suc k) d e l b = ap (λ ys. x ∷ ys) (rw append_assoc (split_at xs k e (omega arith)))
cut_more (x ∷ xs) (suc i) (suc k) d e l b = ap (λ ys. x ∷ ys) (cut_more xs i k d e (omega arith) (omega arith))

pub more_there : (xs : List Run) (f : RunValue) (first past : ℕ) (w l r : Run) → Lies xs f first past → first + 1 < past → AreApart (values_of xs) → Agree (values_of xs) f → w ≡ slice_index_or xs first w → l ≡ slice_index_or xs (past - 1) l →
    value_of r ≡ grown (value_of w) (grown f (value_of l)) → IsPut (values_of xs) f (values_of (take (first + 1) (slice_set xs first r) ++ drop past (slice_set xs first r)))
more_there xs f first past w l r h b a agree e d g =
    let within = h.past_within in
    let inside : first < length xs = omega (arith, within, b) in
    let order : first < past = omega (arith, b) in
    let next : past ≡ suc (past - 1) = omega (arith, b) in
    let ms = drop (suc first) (take (past - 1) xs) in
    let cut : xs ≡ take first xs ++ ((w ∷ (ms ++ l ∷ [])) ++ drop past xs) = rw (← e, ← d, ← next) at (cut_more xs first (past - 1) w l (omega (arith, b)) (omega (arith, within, b))) in
    put_between xs _ (take first xs) (w ∷ (ms ++ l ∷ [])) (r ∷ []) (drop past xs) f cut (rw (take_more_set, drop-set-lt, append_assoc)) a (rw take-map at h.before) (rw drop-map at h.after)
    (rw g (simp map-append (put_more (value_of w) (values_of ms) (value_of l) f (simp map-append at (apart_between xs (take first xs) (w ∷ (ms ++ l ∷ [])) (drop past xs) cut a)) (meet_at xs f first past first w h (omega arith) (omega (arith, b)) e)
    (meet_at xs f first past (past - 1) l h (omega (arith, b)) (omega (arith, b)) d) (simp map-append at (agrees_between xs (take first xs) (w ∷ (ms ++ l ∷ [])) (drop past xs) f cut a agree)))))
