-- Bytes put into a row of runs: on their own, joined with one run, or joined with several.
use Rattle.nb_entries.proofs.Common.{◌≡◌, ◌<◌, ◌≤◌, ◌+◌, ◌-◌, ◌++◌, ℕ, zero, suc, inl, inr, List, [], ◌∷◌, length, take, drop, min, max, slice_get, Option, Some, None, refl, sym, ap, ◌∙◌, arith, length-append, length-take, length-drop, subst, cases_lt, first_of, RunValue, run_end, AreApart, byte_in, grown, Meet, look_in, EndBefore, StartAfter, Agree, IsPut, slice_get-front, append-nil, first_either, first_of_three, none_from}
use Rattle.nb_entries.proofs.KeptRuns.RunRowLemmas.{byte_on, byte_off, byte_past, byte_within, has_below, has_from, look-append, look_before, look_past, apart_front, apart_back, apart_seam, apart_both}

-- ---- A run that has grown by another that overlaps or touches it.

pub slice_get-back : (xs ys : List ℕ) (k i : ℕ) → i ≡ length xs + k → slice_get (xs ++ ys) i ≡ slice_get ys k
slice_get-back [] ys k i e = let same : i ≡ k = omega arith in ap (slice_get ys) same
slice_get-back (x ∷ xs) ys k zero e = absurd (omega arith)
slice_get-back (x ∷ xs) ys k (suc i) e = slice_get-back xs ys k i (omega arith)

pub slice_get-drop : (n : ℕ) (xs : List ℕ) (k i : ℕ) → i ≡ n + k → slice_get (drop n xs) k ≡ slice_get xs i
slice_get-drop zero xs k i e = let same : k ≡ i = omega arith in ap (slice_get xs) same
slice_get-drop (suc n) [] k i e = refl
slice_get-drop (suc n) (x ∷ xs) k zero e = absurd (omega arith)
slice_get-drop (suc n) (x ∷ xs) k (suc i) e = slice_get-drop n xs k i (omega arith)

pub slice_get-take : (n : ℕ) (xs : List ℕ) (k : ℕ) → k < n → slice_get (take n xs) k ≡ slice_get xs k
slice_get-take zero xs k h = absurd (omega arith)
slice_get-take (suc n) [] k h = refl
slice_get-take (suc n) (x ∷ xs) zero h = refl
slice_get-take (suc n) (x ∷ xs) (suc k) h = slice_get-take n xs k (omega arith)

front_size : (r f : RunValue) → Meet r f → length (take (r.start - f.start) f.bytes) ≡ r.start - f.start
front_size r f m = let before = m.before in omega (arith, before, length-take (r.start - f.start) f.bytes)

pub grown_size : (r f : RunValue) → Meet r f → length (grown r f).bytes ≡ max (run_end r) (run_end f) - min f.start r.start
grown_size r f m = let before = m.before in let after = m.after in simp (length-append, length-take, length-drop) (omega (arith, before, after))

pub grown_end : (r f : RunValue) → Meet r f → run_end (grown r f) ≡ max (run_end r) (run_end f)
grown_end r f m = let before = m.before in let after = m.after in omega (arith, before, after, grown_size r f m)

-- ---- what it has at a place

at_front : (r f : RunValue) → Meet r f → (q : ℕ) → q < r.start → byte_in (grown r f) q ≡ byte_in f q
at_front r f m q h = elim (cases_lt q f.start) [
  | inl off ↦ byte_off (grown r f) q (omega (arith, off, h)) ∙ sym (byte_off f q off)
  | inr on ↦
      let k : ℕ = q - f.start in
      let size = front_size r f m in
      let inside : k < length (take (r.start - f.start) f.bytes) = omega (arith, size, on, h) in
      let fits : k < r.start - f.start = omega (arith, on, h) in
      rw (byte_on (grown r f) q k (omega (arith, on, h)), byte_on f q k (omega (arith, on)), slice_get-front, slice_get-take)
]

at_own : (r f : RunValue) → Meet r f → (q : ℕ) → r.start ≤ q → q < run_end r → byte_in (grown r f) q ≡ byte_in r q
at_own r f m q h l =
    let k : ℕ = q - r.start in
    let front = take (r.start - f.start) f.bytes in
    let size = front_size r f m in
    let inside : k < length r.bytes = omega (arith, h, l) in
    rw (byte_on (grown r f) q (length front + k) (omega (arith, size, h)), byte_on r q k (omega (arith, h)), slice_get-back front (r.bytes ++ drop (run_end r - f.start) f.bytes) k (length front + k) refl, slice_get-front)

at_back : (r f : RunValue) → Meet r f → (q : ℕ) → run_end r ≤ q → byte_in (grown r f) q ≡ byte_in f q
at_back r f m q h =
    let after = m.after in
    let k : ℕ = q - run_end r in
    let front = take (r.start - f.start) f.bytes in
    let back = drop (run_end r - f.start) f.bytes in
    let size = front_size r f m in
    byte_on (grown r f) q (length front + (length r.bytes + k)) (omega (arith, size, h))
    ∙ slice_get-back front (r.bytes ++ back) (length r.bytes + k) _ refl
    ∙ slice_get-back r.bytes back k _ refl
    ∙ slice_get-drop (run_end r - f.start) f.bytes k _ refl
    ∙ sym (byte_on f q (run_end r - f.start + k) (omega (arith, h, after)))

alone : (o p : Option ℕ) → o ≡ None → p ≡ first_of p o
alone o None e = sym e
alone o (Some x) e = refl

same : (o p : Option ℕ) (x : ℕ) → o ≡ Some x → ((y : ℕ) → p ≡ Some y → x ≡ y) → o ≡ first_of p o
same o None x e h = refl
same o (Some y) x e h = e ∙ ap Some (h y refl)

-- a run that has grown has the bytes of both
pub grown_look : (r f : RunValue) → Meet r f → ((q x y : ℕ) → byte_in r q ≡ Some x → byte_in f q ≡ Some y → x ≡ y) → (q : ℕ) → byte_in (grown r f) q ≡ first_of (byte_in f q) (byte_in r q)
grown_look r f m agree q = elim (cases_lt q r.start) [
  | inl front ↦ at_front r f m q front ∙ alone (byte_in r q) (byte_in f q) (byte_off r q front)
  | inr from ↦ elim (cases_lt q (run_end r)) [
    | inl inside ↦
        let own = byte_within r q from inside in
        at_own r f m q from inside ∙ same (byte_in r q) (byte_in f q) own.0 own.1 (λ y e. agree q own.0 y own.1 e)
    | inr back ↦ at_back r f m q back ∙ alone (byte_in r q) (byte_in f q) (byte_past r q back)
  ]
]

-- what meets a run and other bytes meets both in one
pub meet_grown : (t f u : RunValue) → Meet t f → Meet f u → Meet t (grown f u)
meet_grown t f u m n =
    let end = grown_end f u n in
    let before = m.before in
    let after = m.after in record { before = omega (arith, end, before); after = omega (arith, after) }

-- of two that agree either may come first
pub swap : (o p r : Option ℕ) → ((x y : ℕ) → o ≡ Some x → p ≡ Some y → x ≡ y) → first_of o (first_of p r) ≡ first_of p (first_of o r)
swap None p r h = refl
swap (Some x) None r h = refl
swap (Some x) (Some y) r h = ap Some (h x y refl refl)

-- what runs that start after n have lies past it
pub look_after : (n : ℕ) (rs : List RunValue) → StartAfter n rs → (q x : ℕ) → look_in rs q ≡ Some x → n < q
look_after n [] h q x e = absurd (cc)
look_after n (r ∷ rs) h q x e = elim (first_either (byte_in r q) (look_in rs q) x e) [
  | inl g ↦ let from = has_from r q x g in let starts = h.0 in omega (arith, from, starts)
  | inr g ↦ look_after n rs h.1 q x g
]

-- ---- a row in parts

-- between two places of the two parts of a row lies another one
parts_apart : (bs ss : List RunValue) → AreApart (bs ++ ss) → (p q x y : ℕ) → look_in bs p ≡ Some x → look_in ss q ≡ Some y → p + 1 < q
parts_apart bs [] a p q x y e f = absurd (cc)
parts_apart bs (t ∷ ss) a p q x y e f = look_past (p + 1) (t ∷ ss) (look_before t.start bs (apart_seam bs t ss a) p x e) (apart_back bs (t ∷ ss) a) q y f

-- what a part of a row has, the row has
back_look : (bs ss : List RunValue) → AreApart (bs ++ ss) → (q x : ℕ) → look_in ss q ≡ Some x → look_in (bs ++ ss) q ≡ Some x
back_look bs ss a q x e =
    let none = none_from (look_in bs q) (λ y f. (let past = parts_apart bs ss a q q y x f e in absurd (omega (arith, past)))) in
    look-append bs ss q ∙ ap (λ o. first_of o (look_in ss q)) none ∙ e

pub in_row : (bs : List RunValue) (t : RunValue) (ss : List RunValue) → AreApart (bs ++ t ∷ ss) → (q x : ℕ) → byte_in t q ≡ Some x → look_in (bs ++ t ∷ ss) q ≡ Some x
in_row bs t ss a q x e = back_look bs (t ∷ ss) a q x (ap (λ o. first_of o (look_in ss q)) e)

-- and agrees with what the row agrees with
pub part_agrees : (bs ms ss : List RunValue) (f : RunValue) → AreApart (bs ++ (ms ++ ss)) → Agree (bs ++ (ms ++ ss)) f → Agree ms f
part_agrees bs ms ss f a h = record { same = λ q x y e g. h.same q x y (back_look bs (ms ++ ss) a q x (look-append ms ss q ∙ ap (λ o. first_of o (look_in ss q)) e)) g }

-- parts between whose places another one lies are apart
apart_parts : (bs ss : List RunValue) → AreApart bs → AreApart ss → ((p q x y : ℕ) → look_in bs p ≡ Some x → look_in ss q ≡ Some y → p + 1 < q) → AreApart (bs ++ ss)
apart_parts bs [] a b h = subst AreApart (sym (append-nil bs)) a
apart_parts bs (t ∷ ss) a b h =
    let some = b.0 in
    let first = byte_within t t.start (omega arith) (omega (arith, some)) in
    apart_both bs t ss a (ends_before t.start bs a (λ p x e. h p t.start x first.0 e (ap (λ o. first_of o (look_in ss t.start)) first.1))) some b.1.0 b.1.1
  where
    ends_before : (n : ℕ) (rs : List RunValue) → AreApart rs → ((p x : ℕ) → look_in rs p ≡ Some x → p + 1 < n) → EndBefore n rs
    ends_before n [] a h = tt
    ends_before n (r ∷ rs) a h =
        let some = a.0 in
        let last = byte_within r (run_end r - 1) (omega (arith, some)) (omega (arith, some)) in
        let ends = h (run_end r - 1) last.0 (ap (λ o. first_of o (look_in rs (run_end r - 1))) last.1) in
        (omega (arith, some, ends), ends_before n rs a.1.1 (λ p x e. h p x (back_look (r ∷ []) rs a p x e)))

-- ---- bytes put into one of the parts

put_back : (ms new ss : List RunValue) (f : RunValue) → AreApart (ms ++ ss) → StartAfter (run_end f) ss → IsPut ms f new → IsPut (ms ++ ss) f (new ++ ss)
put_back ms new ss f a after put = record {
  apart = apart_parts new ss put.apart (apart_back ms ss a) (λ p q x y e g. elim (first_either (byte_in f p) (look_in ms p) x (sym (put.look p) ∙ e)) [
    | inl h ↦ let below = has_below f p x h in let from = look_after (run_end f) ss after q y g in omega (arith, below, from)
    | inr h ↦ parts_apart ms ss a p q x y h g
  ]);
  look = λ q. rw (look-append new ss q, look-append ms ss q, put.look q) (first_of_three (byte_in f q) (look_in ms q) (look_in ss q));
}

put_front : (bs ms new : List RunValue) (f : RunValue) → AreApart (bs ++ ms) → EndBefore f.start bs → IsPut ms f new → IsPut (bs ++ ms) f (bs ++ new)
put_front bs ms new f a before put = record {
  apart = apart_parts bs new (apart_front bs ms a) put.apart (λ p q x y e g. elim (first_either (byte_in f q) (look_in ms q) y (sym (put.look q) ∙ g)) [
    | inl h ↦ let ends = look_before f.start bs before p x e in let from = has_from f q y h in omega (arith, ends, from)
    | inr h ↦ parts_apart bs ms a p q x y e h
  ]);
  look = λ q. rw (look-append bs new q, look-append bs ms q, put.look q)
      (swap (look_in bs q) (byte_in f q) (look_in ms q) (λ x y g h. (let ends = look_before f.start bs before q x g in let from = has_from f q y h in absurd (omega (arith, ends, from)))));
}

-- a row is put into where a part of it is, and the bytes lie between the others
pub put_part : (bs ms new ss : List RunValue) (f : RunValue) → AreApart (bs ++ (ms ++ ss)) → EndBefore f.start bs → StartAfter (run_end f) ss → IsPut ms f new → IsPut (bs ++ (ms ++ ss)) f (bs ++ (new ++ ss))
put_part bs ms new ss f a before after put = put_front bs (ms ++ ss) (new ++ ss) f a before (put_back ms new ss f (apart_back bs (ms ++ ss) a) after put)

-- ---- bytes put into runs that they all meet

pub put_alone : (f g : RunValue) → 0 < length f.bytes → g ≡ f → IsPut [] f (g ∷ [])
put_alone f g some e = rw e (record { apart = (some, (tt, tt)); look = λ q. refl })

pub put_one : (t f : RunValue) → 0 < length t.bytes → Meet t f → Agree (t ∷ []) f → IsPut (t ∷ []) f (grown t f ∷ [])
put_one t f some m agree = record {
  apart = (let size = grown_size t f m in let before = m.before in let after = m.after in omega (arith, size, before, after, some), (tt, tt));
  look = λ q. ap (λ o. first_of o None) (grown_look t f m (λ q x y g h. agree.same q x y (ap (λ o. first_of o None) g) h) q)
      ∙ first_of_three (byte_in f q) (byte_in t q) None;
}

-- what two runs and bytes have is all that is there: each has only what is there, and where they have nothing, nothing is
all_there : (t u f o : Option ℕ) → ((x y : ℕ) → o ≡ Some x → f ≡ Some y → x ≡ y) → ((x : ℕ) → t ≡ Some x → o ≡ Some x) → ((x : ℕ) → u ≡ Some x → o ≡ Some x) → (t ≡ None → u ≡ None → f ≡ None → o ≡ None) →
    first_of (first_of u f) (first_of t None) ≡ first_of f o
all_there t (Some x) (Some y) o agree first last none = ap Some (agree x y (last x refl) refl)
all_there t (Some x) None o agree first last none = sym (last x refl)
all_there t None (Some y) o agree first last none = refl
all_there (Some x) None None o agree first last none = sym (first x refl)
all_there None None None o agree first last none = sym (none refl refl refl)

pub put_more : (t : RunValue) (ms : List RunValue) (u f : RunValue) → AreApart (t ∷ (ms ++ u ∷ [])) → Meet t f → Meet u f → Agree (t ∷ (ms ++ u ∷ [])) f → IsPut (t ∷ (ms ++ u ∷ [])) f (grown t (grown f u) ∷ [])
put_more t ms u f a m n agree =
    let met : Meet f u = record { before = n.after; after = n.before } in
    let first : (q x : ℕ) → byte_in t q ≡ Some x → look_in (t ∷ (ms ++ u ∷ [])) q ≡ Some x = in_row [] t (ms ++ u ∷ []) a in
    let last : (q x : ℕ) → byte_in u q ≡ Some x → look_in (t ∷ (ms ++ u ∷ [])) q ≡ Some x = in_row (t ∷ ms) u [] a in
    let grows = grown_look f u met (λ q x y g h. sym (agree.same q y x (last q y h) g)) in
    let put = put_one t (grown f u) a.0 (meet_grown t f u m met) (record {
      same = λ q x y g h. elim (first_either (byte_in u q) (byte_in f q) y (sym (grows q) ∙ h)) [
        | inl k ↦ (let one = first q x (only t q x g) in let other = last q y k in cc)
        | inr k ↦ agree.same q x y (first q x (only t q x g)) k
      ];
    }) in record {
      apart = put.apart;
      look = λ q. put.look q
          ∙ ap (λ o. first_of o (first_of (byte_in t q) None)) (grows q)
          ∙ all_there (byte_in t q) (byte_in u q) (byte_in f q) (look_in (t ∷ (ms ++ u ∷ [])) q) (λ x y g h. agree.same q x y g h) (first q) (last q)
          (λ g h k. rw (g, look-append ms (u ∷ []) q, between q k, h));
    }
  where
    only : (r : RunValue) (q x : ℕ) → look_in (r ∷ []) q ≡ Some x → byte_in r q ≡ Some x
    only r q x e = elim (first_either (byte_in r q) None x e) [ inl g ↦ g | inr g ↦ absurd (cc) ]

    -- where the bytes have none, the runs between the first and the last have none
    between : (q : ℕ) → byte_in f q ≡ None → look_in ms q ≡ None
    between q none = none_from (look_in ms q) (λ x h. (
        let back : AreApart (ms ++ u ∷ []) = a.1.1 in
        let own = apart_front ms (u ∷ []) back in
        let past = look_past (run_end t) (ms ++ u ∷ []) a.1.0 back q x (look-append ms (u ∷ []) q ∙ ap (λ o. first_of o (first_of (byte_in u q) None)) h) in
        let before = look_before u.start ms (apart_seam ms u [] back) q x h in
        let from = m.after in
        let to = n.before in
        let there = byte_within f q (omega (arith, past, from)) (omega (arith, before, to)) in
        let both : Some there.0 ≡ None = sym there.1 ∙ none in
        cc both))
