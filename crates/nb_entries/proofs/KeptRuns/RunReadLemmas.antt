-- What the code reads of its runs.
use Rattle.nb_entries.proofs.Common.{◌≡◌, ◌<◌, ◌≤◌, ◌+◌, ◌-◌, ◌++◌, ◌⊎◌, ℕ, inl, inr, Bool, true, List, [], ◌∷◌, length, take, drop, min, max, slice_get, Option, Some, refl, sym, ap, ◌∙◌, subst, arith, length-take, length-drop, length-append, ◌==◌, suc, ap₂, cases_lt, and_from, and_parts, append-nil, ext_get_or, same_Some, slice_get-get_or, unsigned_Decides, AllByRecursion, list_all, nat_cmp, first_of, RunValue, run_end, StartsPast, AreApart, map_of_runs, with_bytes, run_at, byte_in, look_in, Agree, AgreeOne, EndBefore, EndFrom, AreBetween, Lacks, IsFrom, run_of, after_run, row_of, first_either, agree_of, find-placed, slice_get-front, PieceParts, Marks, same_where, piece_marks, marks_together, CoverFacts, CoversFit, placed, piece_cover, covers_together, bytes_below, bytes_to, none_from, all_append, append_assoc}
use Rattle.std.specs.Cmp.Lexicographic.{pointwise, pointwise_decides}
use Rattle.std.specs.FinMap as maps
use Rattle.nb_entries.proofs.Covers.{get-with_bytes, bytes_agree_is, with_is}
use Rattle.nb_entries.proofs.KeptRuns.RunRowLemmas.{byte_on, byte_off, byte_past, has_below, has_from, byte_within, get-runs, look-append, look_before, look_past, apart_front, apart_back, apart_seam, ends_min}
use Rattle.nb_entries.proofs.KeptRuns.RunPutLemmas.{slice_get-take, slice_get-drop, slice_get-back, in_row}

-- ---- the runs from a place on

-- what the first of them has, the map has
pub first_look : (all : List RunValue) (r : RunValue) (rest : List RunValue) (n : ℕ) → AreApart all → IsFrom all n (r ∷ rest) → (q x : ℕ) → byte_in r q ≡ Some x → maps.get (map_of_runs all) q ≡ Some x
first_look all r rest n a h q x e = get-runs all q ∙ ap (λ rs. look_in rs q) h.cut ∙ in_row h.front r rest (subst AreApart h.cut a) q x e

-- ---- where the runs end

pub ends_below : (all : List RunValue) (n : ℕ) → IsFrom all (n + 1) [] → (q x : ℕ) → maps.get (map_of_runs all) q ≡ Some x → q < n
ends_below all n h q x e =
    let before = look_before (n + 1) h.front h.before q x (ap (λ rs. look_in rs q) (sym (h.cut ∙ append-nil h.front)) ∙ sym (get-runs all q) ∙ e) in omega (arith, before)

pub not_below : (all : List RunValue) (r : RunValue) (rest : List RunValue) (n : ℕ) → AreApart all → IsFrom all (n + 1) (r ∷ rest) → ((q x : ℕ) → maps.get (map_of_runs all) q ≡ Some x → q < n) → ⊥
not_below all r rest n a h below =
    let some = (apart_back h.front (r ∷ rest) (subst AreApart h.cut a)).0 in
    let last = byte_within r (run_end r - 1) (omega arith) (omega arith) in
    let less = below (run_end r - 1) last.0 (first_look all r rest (n + 1) a h (run_end r - 1) last.0 last.1) in
    omega (arith, h.after.0)

-- ---- the bytes between two places

-- where the runs before the place n end, and the others start there or after it, the place before n has no byte
pub lacks_from : (all left : List RunValue) (from to n : ℕ) → AreApart all → (h : IsFrom all to left) → StartsPast (n - 1) left → EndBefore n h.front → from < n → n ≤ to → Lacks (maps.get (map_of_runs all)) from to
lacks_from all left from to n a h p ends l m = record {
  place = n - 1;
  least = omega arith;
  most = omega arith;
  none = get-runs all (n - 1) ∙ none_from (look_in all (n - 1)) (λ x f. elim (first_either (look_in h.front (n - 1)) (look_in left (n - 1)) x (sym (look-append h.front left (n - 1)) ∙ ap (λ rs. look_in rs (n - 1)) (sym h.cut) ∙ f)) [
    | inl g ↦ let before = look_before n h.front ends (n - 1) x g in omega arith
    | inr g ↦ let past = look_past (n - 1) left p (apart_back h.front left (subst AreApart h.cut a)) (n - 1) x g in omega arith
  ]);
}

pub starts_late : (all : List RunValue) (r : RunValue) (rest : List RunValue) (from to : ℕ) → AreApart all → IsFrom all to (r ∷ rest) → from < r.start → from < to → Lacks (maps.get (map_of_runs all)) from to
starts_late all r rest from to a h late some =
    lacks_from all (r ∷ rest) from to (min r.start to) a h (omega arith) (ends_min r.start to h.front (apart_seam h.front r rest (subst AreApart h.cut a)) h.before) (omega arith) (omega arith)

-- a part of a run's bytes
part_between : (r : RunValue) (from to : ℕ) → r.start ≤ from → to ≤ run_end r → AreBetween (byte_in r) from to (take (to - r.start - (from - r.start)) (drop (from - r.start) r.bytes))
part_between r from to h far = record {
  sized = omega (arith, length-take (to - r.start - (from - r.start)) (drop (from - r.start) r.bytes), length-drop (from - r.start) r.bytes);
  each = λ q k e l. byte_on r q (from - r.start + k) (omega arith)
      ∙ sym (slice_get-take (to - r.start - (from - r.start)) (drop (from - r.start) r.bytes) k (omega arith) ∙ slice_get-drop (from - r.start) r.bytes k _ refl);
}

pub between_read : (all : List RunValue) (r : RunValue) (rest : List RunValue) (from to : ℕ) (bytes : List ℕ) → AreApart all → IsFrom all to (r ∷ rest) → r.start ≤ from → bytes ≡ r.bytes →
    AreBetween (maps.get (map_of_runs all)) from to (take (to - r.start - (from - r.start)) (drop (from - r.start) bytes))
between_read all r rest from to bytes a h start same =
    let far = h.after.0 in
    let part = part_between r from to start far in
    subst (λ ys. AreBetween (maps.get (map_of_runs all)) from to (take (to - r.start - (from - r.start)) (drop (from - r.start) ys))) (sym same) (record {
      sized = part.sized;
      each = λ q k e l. (
          let there = byte_within r q (omega arith) (omega arith) in
          first_look all r rest to a h q there.0 there.1 ∙ sym there.1 ∙ part.each q k e l);
    })

-- ---- bytes that agree

pub same_by_get : (xs ys : List ℕ) → length xs ≡ length ys → ((k : ℕ) → k < length xs → slice_get xs k ≡ slice_get ys k) → xs ≡ ys
same_by_get xs ys size h = ext_get_or 0 xs ys size (λ k l. same_Some _ _ (sym (slice_get-get_or xs k 0 l) ∙ h k l ∙ slice_get-get_or ys k 0 (omega (arith, size, l))))

-- two runs agree where the parts that they have in common are the same
pub agrees_is : (r f : RunValue) (from to : ℕ) (bytes : List ℕ) (b : Bool) → bytes ≡ r.bytes → from ≡ max r.start f.start → to ≡ min (run_end r) (run_end f) →
    b ≡ pointwise ◌==◌ (take (to - r.start - (from - r.start)) (drop (from - r.start) bytes)) (take (to - f.start - (from - f.start)) (drop (from - f.start) f.bytes)) →
    (b ≡ true → AgreeOne r f) × (AgreeOne r f → b ≡ true)
agrees_is r f from to bytes b same e d t =
    let own = part_between r from to (omega arith) (omega arith) in
    let other = part_between f from to (omega arith) (omega arith) in
    let test = t ∙ ap (λ xs. pointwise ◌==◌ (take (to - r.start - (from - r.start)) (drop (from - r.start) xs)) (take (to - f.start - (from - f.start)) (drop (from - f.start) f.bytes))) same in
    let decides = pointwise_decides unsigned_Decides (take (to - r.start - (from - r.start)) (drop (from - r.start) r.bytes)) (take (to - f.start - (from - f.start)) (drop (from - f.start) f.bytes)) in (
      λ h. record {
        same = λ q x y g i.
            let a = has_from r q x g in
            let c = has_from f q y i in
            let v = has_below r q x g in
            let w = has_below f q y i in
            let k : ℕ = q - from in
            same_Some x y (sym g ∙ own.each q k (omega arith) (omega arith) ∙ ap (λ ys. slice_get ys k) (decides.0 (sym test ∙ h)) ∙ sym (other.each q k (omega arith) (omega arith)) ∙ i);
      },
      λ h. test ∙ decides.1 (same_by_get _ _ (own.sized ∙ sym other.sized) (λ k l.
          (let q : ℕ = from + k in
          let inside : q < to = omega (arith, own.sized, l) in
          let one = byte_within r q (omega arith) (omega arith) in
          let two = byte_within f q (omega arith) (omega arith) in
          sym (own.each q k refl inside) ∙ one.1 ∙ ap Some (h.same q one.0 two.0 one.1 two.1) ∙ sym two.1 ∙ other.each q k refl inside))),
    )

-- each of these runs agrees with bytes
abbrev pub EachAgrees : RunValue → List RunValue → Type 0
EachAgrees f rs = AllByRecursion (λ (r : RunValue). AgreeOne r f) rs

each_agrees : (f : RunValue) (rs : List RunValue) → EachAgrees f rs → Agree rs f
each_agrees f [] h = record { same = λ q x y e g. absurd (cc) }
each_agrees f (r ∷ rs) h = let rest = each_agrees f rs h.1 in record {
  same = λ q x y e g. elim (first_either (byte_in r q) (look_in rs q) x e) [ inl i ↦ h.0.same q x y i g | inr i ↦ rest.same q x y i g ];
}

agrees_each : (f : RunValue) (bs rs : List RunValue) → AreApart (bs ++ rs) → Agree (bs ++ rs) f → EachAgrees f rs
agrees_each f bs [] a h = tt
agrees_each f bs (r ∷ rs) a h = (record { same = λ q x y e. h.same q x y (in_row bs r rs a q x e) }, agrees_each f (bs ++ r ∷ []) rs (rw append_assoc a) (rw append_assoc h))

pub past_agree : (f : RunValue) (rs : List RunValue) → AreApart rs → StartsPast (run_end f) rs → EachAgrees f rs
past_agree f rs a p = agrees_each f [] rs a (record {
  same = λ q x y e g. (let past = look_past (run_end f) rs p a q x e in let below = has_below f q y g in absurd (omega (arith, past, below)));
})

-- the runs that are left agree with bytes exactly where X holds
pub record Held (f : RunValue) (X : Type 0) (left : List RunValue) : Type 0 where
  pub apart : AreApart left
  pub from : EndFrom f.start left
  pub whole : EachAgrees f left → X
  pub back : X → EachAgrees f left

pub held_first : (all : List RunValue) (f : RunValue) (X : Type 0) (left : List RunValue) → AreApart all → IsFrom all f.start left → (Agree all f → X) → (X → Agree all f) → Held f X left
held_first all f X left a h whole back =
    let apart : AreApart (h.front ++ left) = subst AreApart h.cut a in
    let front = agrees_each f [] h.front (apart_front h.front left apart) (record { same = λ q x y e g. (let before = look_before f.start h.front h.before q x e in let from = has_from f q y g in absurd (omega arith)) }) in
    record {
      apart = apart_back h.front left apart;
      from = h.after;
      whole = λ each. whole (subst (λ rs. Agree rs f) (sym h.cut) (each_agrees f (h.front ++ left) (all_append (λ r. AgreeOne r f) h.front left front each)));
      back = λ x. agrees_each f h.front left apart (subst (λ rs. Agree rs f) h.cut (back x));
    }

pub held_next : (f : RunValue) (X : Type 0) (r : RunValue) (left : List RunValue) → Held f X (r ∷ left) → AgreeOne r f → Held f X left
held_next f X r left h one = record { apart = h.apart.1.1; from = h.from.1; whole = λ each. h.whole (one, each); back = λ x. (h.back x).1 }

-- ---- the bytes below a place, with others

pub look_put : (m : maps.FinMap nat_cmp ℕ) (s : ℕ) (xs : List ℕ) (q : ℕ) → maps.get (with_bytes m s xs) q ≡ first_of (byte_in (run_at s xs) q) (maps.get m q)
look_put m s xs q = get-with_bytes m s xs q ∙ ap (λ o. first_of o (maps.get m q)) (find-placed s xs q)

-- a place that the bytes don't have
pub other_look : (m : maps.FinMap nat_cmp ℕ) (s : ℕ) (xs : List ℕ) (q : ℕ) → (q < s) ⊎ (s + length xs ≤ q) → maps.get (with_bytes m s xs) q ≡ maps.get m q
other_look m s xs q (inl h) = look_put m s xs q ∙ ap (λ o. first_of o (maps.get m q)) (byte_off (run_at s xs) q h)
other_look m s xs q (inr h) = look_put m s xs q ∙ ap (λ o. first_of o (maps.get m q)) (byte_past (run_at s xs) q h)

both_between : (look : ℕ → Option ℕ) (a b c : ℕ) (xs ys : List ℕ) → a ≤ b → b ≤ c → AreBetween look a b xs → AreBetween look b c ys → AreBetween look a c (xs ++ ys)
both_between look a b c xs ys l m h k = record {
  sized = omega (arith, length-append xs ys);
  each = λ q i e g. elim (cases_lt q b) [
    | inl low ↦ h.each q i e low ∙ sym (slice_get-front xs ys i (omega arith))
    | inr up ↦ k.each q (q - b) (omega arith) g ∙ sym (slice_get-back xs ys (q - b) i (omega arith))
  ];
}

pub made_between : (m : maps.FinMap nat_cmp ℕ) (s : ℕ) (xs : List ℕ) (end first count : ℕ) (front back : List ℕ) → first ≡ min s end → count ≡ min (length xs) (end - first) → AreBetween (maps.get m) 0 first front → AreBetween (maps.get m) (first + count) end back →
    AreBetween (maps.get (with_bytes m s xs)) 0 end (front ++ (take count xs ++ back))
made_between m s xs end first count front back e d a b =
    let look = maps.get (with_bytes m s xs) in
    let before : AreBetween look 0 first front = record { sized = a.sized; each = λ q k g l. other_look m s xs q (inl (omega arith)) ∙ a.each q k g l } in
    let after : AreBetween look (first + count) end back = record { sized = b.sized; each = λ q k g l. other_look m s xs q (inr (omega arith)) ∙ b.each q k g l } in
    let own : AreBetween look first (first + count) (take count xs) = record {
      sized = omega (arith, length-take count xs);
      each = λ q k g l. (
          let there = byte_within (run_at s xs) q (omega arith) (omega arith) in
          look_put m s xs q ∙ ap (λ o. first_of o (maps.get m q)) there.1
          ∙ sym there.1 ∙ byte_on (run_at s xs) q k (omega arith) ∙ sym (slice_get-take count xs k (omega arith)));
    } in
    both_between look 0 first end front (take count xs ++ back) (omega arith) (omega arith) before
    (both_between look first (first + count) end (take count xs) back (omega arith) (omega arith) own after)

-- ---- What is known of a datagram's data, kept as runs.

-- no bytes contradict none
pub empty_agrees : (m : maps.FinMap nat_cmp ℕ) (s : ℕ) (xs : List ℕ) → m ≡ maps.empty → list_all (λ (e : ℕ × ℕ). same_where (maps.get m e.0) e.1) (placed s xs) ≡ true
empty_agrees m s [] h = refl
empty_agrees m s (x ∷ xs) h = and_from _ _ (ap (λ o. same_where o x) (ap (λ n. maps.get n s) h ∙ maps.get-empty nat_cmp s)) (empty_agrees m (s + 1) xs h)

-- what fits agrees byte by byte
pub fit_agrees : (a : CoverFacts) (f : PieceParts) (s : ℕ) (xs : List ℕ) → CoversFit a (piece_cover f) → s ≡ f.offset → xs ≡ f.bytes → list_all (λ (e : ℕ × ℕ). same_where (maps.get a.bytes e.0) e.1) (placed s xs) ≡ true
fit_agrees a f s xs fit start bytes =
    ap₂ (λ i ys. list_all (λ (e : ℕ × ℕ). same_where (maps.get a.bytes e.0) e.1) (placed i ys)) start bytes
    ∙ bytes_agree_is a.bytes (maps.get a.bytes) f (λ q. refl)
    ∙ (and_parts _ _ (agree_of a (piece_cover f) fit)).0

pub put_is : (a : CoverFacts) (f : PieceParts) (s : ℕ) (xs : List ℕ) (m : maps.FinMap nat_cmp ℕ) (k : Marks) → CoversFit a (piece_cover f) → s ≡ f.offset → xs ≡ f.bytes → m ≡ with_bytes a.bytes s xs → k ≡ marks_together a.marks (piece_marks f) → ◌≡◌ {A = CoverFacts} (record { bytes = m; marks = k }) (covers_together a (piece_cover f))
put_is a f s xs m k fit start bytes put marks =
    let made = put ∙ ap₂ (with_bytes a.bytes) start bytes in
    (λ i. record { bytes = made i; marks = marks i }) ∙ with_is a f fit

pub whole_put : (a : CoverFacts) (f : PieceParts) (s : ℕ) (xs : List ℕ) (n : ℕ) (k : Marks) → CoversFit a (piece_cover f) → s ≡ f.offset → xs ≡ f.bytes → k.end ≡ Some n → k ≡ marks_together a.marks (piece_marks f) → bytes_below (with_bytes a.bytes s xs) n ≡ bytes_to (covers_together a (piece_cover f)).bytes (covers_together a (piece_cover f)).marks.end
whole_put a f s xs n k fit start bytes is marks =
    ap (bytes_to (with_bytes a.bytes s xs)) (sym is)
    ∙ ap (λ (c : CoverFacts). bytes_to c.bytes c.marks.end) (put_is a f s xs (with_bytes a.bytes s xs) k fit start bytes refl marks)

-- a run is kept
pub row_kept : (done new all : List RunValue) (n k : ℕ) (bs behind : List ℕ) (r : RunValue) (s : ℕ) (xs : List ℕ) → n ≡ suc k → r ≡ run_of bs → behind ≡ after_run bs → s ≡ r.start → xs ≡ r.bytes → new ≡ done ++ run_at s xs ∷ [] → done ++ row_of n bs ≡ all → new ++ row_of k behind ≡ all
row_kept done new all n k bs behind r s xs e same rest start bytes put h =
    let run : run_at s xs ≡ run_of bs = (λ i. record { start = start i; bytes = bytes i }) ∙ same in
    rw (put, append_assoc, run, rest) (rw e at h)
