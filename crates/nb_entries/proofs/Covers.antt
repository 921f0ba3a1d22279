-- Where a promise lies: past the places that its fragment covers.
use Rattle.nb_entries.proofs.Common.{◌<◌, ◌≤◌, ◌-◌, inl, inr, ℕ, get_or, sym, subst, arith, ◌≡◌, ◌+◌, slice_get, List, [], ◌∷◌, Bool, true, false, cond, Option, Some, None, refl, ◌∙◌, ap, ◌==◌, ◌||◌, suc, length, cases_lt, lt-leb, eqb-true, eq-eqb, slice_get-get_or, Core, Covers, reach, GoesOnFrom, Promises, PieceParts, piece_reach, piece_marks, marks_together, same_where, placed, CoverFacts, CoversFit, AreCoverFacts, IsCover, piece_cover, bytes_agree, bytes_lie_below, covers_together, covers_below, find-placed, nat_cmp, eq_by_cmp, nat_cmp_total, both_ways, first_of, Spoilt, Held, with_bytes, Holds, is_there, one_key, all_entries_found, all_entries_from, sorted_entries, nat_tests, T, nat_le, nat_lt, list_all, in_union, same_cover, agree_of, same_at, at_same, either_first, first_alone, run_below, sorted_placed, join_cover_formed, append-nil}
use Rattle.std.specs.FinMap as maps
use Rattle.std.specs.FinMap.{nat_cmp-IsAntisymmetric, is_sorted}
use Rattle.std.specs.Option.{option_or}

-- all places up to its reach are covered
pub up_to_reach : (f : Core) (i : ℕ) → f.offset ≤ i → i < reach f → (x : ℕ) × Covers f i x
up_to_reach f i from below = (get_or f.bytes (i - f.offset) 0, (from, slice_get-get_or f.bytes (i - f.offset) 0 (omega (arith, from, below))))

pub goes_on : (f : Core) (r : ℕ) → Promises f r → GoesOnFrom f r
goes_on f r p = let at = p.1 in record {
  more = p.0;
  from = omega (arith, at);
  covered = λ i from below. up_to_reach f i from (subst (λ n. i < n) (sym at) below);
  over = λ i x c. subst (λ n. i < n) at (covers_below f i x c);
}

pub goes_on_at : (f : Core) (r : ℕ) → GoesOnFrom f r → Promises f r
goes_on_at f r g = (
  g.more,
  elim (cases_lt r (reach f)) [
    | inl less ↦ let there = up_to_reach f r g.from less in let over = g.over r there.0 there.1 in absurd (omega (arith, over))
    | inr most ↦ elim (cases_lt (reach f) r) [
      | inl more ↦
          let there = g.covered (reach f) (omega arith) more in
          let over = covers_below f (reach f) there.0 there.1 in
          absurd (omega (arith, over))
      | inr least ↦ omega (arith, most, least)
    ]
  ],
)

pub ruleset goes_on_from = (goes_on, goes_on_at)

-- ---- Bytes put into a map from a place on, and the bytes that a fragment has.

find_before : (q i : ℕ) (xs : List ℕ) → q < i → maps.find nat_cmp q (placed i xs) ≡ None
find_before q i xs h = find-placed i xs q ∙ ap (λ b. cond b (slice_get xs (q - i)) None) (lt-leb i q h)

-- what a place has once the bytes are put
pub get-with_bytes : (m : maps.FinMap nat_cmp ℕ) (i : ℕ) (xs : List ℕ) (q : ℕ) → maps.get (with_bytes m i xs) q ≡ first_of (maps.find nat_cmp q (placed i xs)) (maps.get m q)
get-with_bytes m i [] q = refl
get-with_bytes m i (x ∷ xs) q =
    get-with_bytes (maps.insert m i x) (i + 1) xs q
    ∙ ap (first_of (maps.find nat_cmp q (placed (i + 1) xs))) (maps.get-insert nat_cmp_total m i x q)
    ∙ step (eq_by_cmp nat_cmp q i) refl
  where
    step : (b : Bool) → eq_by_cmp nat_cmp q i ≡ b → first_of (maps.find nat_cmp q (placed (i + 1) xs)) (cond b (Some x) (maps.get m q)) ≡ first_of (cond b (Some x) (maps.find nat_cmp q (placed (i + 1) xs))) (maps.get m q)
    step true e =
        let here : q ≡ i = one_key nat_cmp-IsAntisymmetric q i e in
        ap (λ o. first_of o (Some x)) (find_before q (i + 1) xs (omega (arith, here)))
    step false e = refl

-- bytes put into the empty map are what the fragment says
pub put_alone : (i : ℕ) (xs : List ℕ) → with_bytes maps.empty i xs ≡ maps.from_entries (placed i xs)
put_alone i xs = maps.same_map nat_cmp_total nat_cmp-IsAntisymmetric _ _ (λ q.
    get-with_bytes maps.empty i xs q
    ∙ ap (first_of (maps.find nat_cmp q (placed i xs))) (maps.get-empty nat_cmp q)
    ∙ first_alone (maps.find nat_cmp q (placed i xs))
    ∙ sym (maps.get-from_entries nat_cmp_total (placed i xs) q))

-- ---- What the bytes of a piece, one place after the other, say of the cover that they make; and what a
-- cover holds of another.

-- ---- each byte of a piece

-- a piece's cover has its bytes, in order
entries_placed : (f : PieceParts) → maps.entries (piece_cover f).bytes ≡ placed f.offset f.bytes
entries_placed f =
    sorted_entries nat_cmp_total nat_cmp-IsAntisymmetric _
    (subst (λ (es : List (ℕ × ℕ)). T (is_sorted nat_cmp es)) (append-nil (placed f.offset f.bytes)) (sorted_placed f.offset f.bytes [] tt (λ k l. tt)))

-- a test of each byte of a piece holds exactly if it holds of what each look-up finds
covered_from_all : (P : ℕ → ℕ → Bool) (f : PieceParts) → list_all (λ e. P e.0 e.1) (placed f.offset f.bytes) ≡ true → (q x : ℕ) → maps.get (piece_cover f).bytes q ≡ Some x → P q x ≡ true
covered_from_all P f h = all_entries_found nat_cmp-IsAntisymmetric P (piece_cover f).bytes (ap (list_all (λ (e : ℕ × ℕ). P e.0 e.1)) (entries_placed f) ∙ h)

all_from_covered : (P : ℕ → ℕ → Bool) (f : PieceParts) → ((q x : ℕ) → maps.get (piece_cover f).bytes q ≡ Some x → P q x ≡ true) → list_all (λ e. P e.0 e.1) (placed f.offset f.bytes) ≡ true
all_from_covered P f h = ap (list_all (λ (e : ℕ × ℕ). P e.0 e.1)) (sym (entries_placed f)) ∙ all_entries_from nat_cmp_total nat_cmp-IsAntisymmetric P (piece_cover f).bytes h

-- ---- bytes that agree

-- the bytes of a piece agree with a map where the map agrees with them
pub bytes_agree_is : (m : maps.FinMap nat_cmp ℕ) (look : ℕ → Option ℕ) (f : PieceParts) → ((q : ℕ) → maps.get m q ≡ look q) → list_all (λ e. same_where (look e.0) e.1) (placed f.offset f.bytes) ≡ bytes_agree m (piece_cover f).bytes
bytes_agree_is m look f same = both_ways _ _
    (λ h. all_entries_from nat_cmp_total nat_cmp-IsAntisymmetric (λ i v. same_where (maps.get (piece_cover f).bytes i) v) m
    (λ q y e. at_same (maps.get (piece_cover f).bytes q) y
    (λ x g. sym (same_at (look q) x y (covered_from_all (λ i v. same_where (look i) v) f h q x g) (sym (same q) ∙ e)))))
    (λ h. all_from_covered (λ i v. same_where (look i) v) f
    (λ q x g. at_same (look q) x
    (λ y e. sym (same_at (maps.get (piece_cover f).bytes q) y x (all_entries_found nat_cmp-IsAntisymmetric (λ i v. same_where (maps.get (piece_cover f).bytes i) v) m h q y (same q ∙ e)) g))))

-- ---- bytes that are held

there_is : (o : Option ℕ) (x : ℕ) → is_there o x ≡ true → o ≡ Some x
there_is None x h = absurd (cc)
there_is (Some z) x h = ap Some (eqb-true z x h)

is_there_from : (o : Option ℕ) (x : ℕ) → o ≡ Some x → is_there o x ≡ true
is_there_from None x h = absurd (cc)
is_there_from (Some z) x h = let one : z ≡ x = cc in eq-eqb z x one

pub held_from_all : (look : ℕ → Option ℕ) (f : PieceParts) → list_all (λ e. is_there (look e.0) e.1) (placed f.offset f.bytes) ≡ true → (q x : ℕ) → maps.get (piece_cover f).bytes q ≡ Some x → look q ≡ Some x
held_from_all look f h q x g = there_is (look q) x (covered_from_all (λ i v. is_there (look i) v) f h q x g)

pub all_from_held : (look : ℕ → Option ℕ) (f : PieceParts) → ((q x : ℕ) → maps.get (piece_cover f).bytes q ≡ Some x → look q ≡ Some x) → list_all (λ e. is_there (look e.0) e.1) (placed f.offset f.bytes) ≡ true
all_from_held look f h = all_from_covered (λ i v. is_there (look i) v) f (λ q x g. is_there_from (look q) x (h q x g))

-- ---- what lies below an end

-- a piece's bytes lie below a place that its reach is at most, or there are none
pub piece_ends_by : (f : PieceParts) (n : ℕ) → bytes_lie_below n (piece_cover f).bytes ≡ ((length f.bytes == 0) || nat_le (piece_reach f) n)
piece_ends_by f n = ap (list_all (λ (e : ℕ × ℕ). nat_lt e.0 n)) (entries_placed f) ∙ step f.offset f.bytes
  where
    step : (s : ℕ) (xs : List ℕ) → list_all (λ (e : ℕ × ℕ). nat_lt e.0 n) (placed s xs) ≡ ((length xs == 0) || nat_le (s + length xs) n)
    step s [] = refl
    step s (x ∷ xs) = run_below n (record { start = s; bytes = x ∷ xs }) (omega arith) ∙ some (length xs) (nat_le (s + suc (length xs)) n)
      where
        some : (k : ℕ) (b : Bool) → b ≡ ((suc k == 0) || b)
        some k b = grind (arith, nat_tests)

-- ---- what is held

-- what is held adds nothing, and what adds nothing is held
pub together_holds : (a b : CoverFacts) → CoversFit a b → covers_together a b ≡ a → Holds a b
together_holds a b fit same = record {
  bytes = λ i x g. at (maps.get a.bytes i) x refl (fit.bytes i) g (sym (in_union a b i) ∙ ap (λ (c : CoverFacts). maps.get c.bytes i) same);
  marks = ap (λ (c : CoverFacts). c.marks) same;
}
  where
    at : (o : Option ℕ) (x : ℕ) {p r : Option ℕ} → o ≡ r → ((u v : ℕ) → r ≡ Some u → p ≡ Some v → u ≡ v) → p ≡ Some x → first_of o p ≡ r → r ≡ Some x
    at None x e f g h = sym h ∙ g
    at (Some y) x e f g h = sym e ∙ ap Some (f y x (sym e) g)

-- ---- a piece put into a cover that it agrees with

pub or_is : (o p : Option ℕ) → option_or o p ≡ first_of o p
or_is None p = refl
or_is (Some x) p = refl

pub with_is : (a : CoverFacts) (f : PieceParts) → CoversFit a (piece_cover f) →
    ◌≡◌ {A = CoverFacts} (record { bytes = with_bytes a.bytes f.offset f.bytes; marks = marks_together a.marks (piece_marks f) }) (covers_together a (piece_cover f))
with_is a f fit = same_cover _ _
    (λ q. get-with_bytes a.bytes f.offset f.bytes q
    ∙ ap (λ o. first_of o (maps.get a.bytes q)) (sym (maps.get-from_entries nat_cmp_total (placed f.offset f.bytes) q))
    ∙ sym (either_first (maps.get a.bytes q) (maps.get (piece_cover f).bytes q) (fit.bytes q))
    ∙ sym (in_union a (piece_cover f) q))
    refl

-- two that agree are well formed together if each is
pub together_formed : (a b : CoverFacts) → CoversFit a b → AreCoverFacts a → AreCoverFacts b → AreCoverFacts (covers_together a b)
together_formed a b fit f g = subst IsCover (ap (λ t. cond t (Held (covers_together a b)) Spoilt) (agree_of a b fit)) (join_cover_formed (Held a) (Held b) f g)
