-- A segment's bytes part after part: put, compared, handed on.
use Rattle.std.proofs.Common.{ℕ, suc, ◌≡◌, ◌≤◌, ◌<◌, ◌+◌, ◌-◌, ◌⊎◌, inl, inr, false, List, [], ◌∷◌, length, length-drop, drop, take, get_or, None, Some, sym, ◌∙◌, ap, subst, arith}
use Rattle.std.specs.Prelude.{◌==◌}
use Rattle.std.specs.Cmp.Lexicographic.{pointwise}
use Rattle.std.proofs.lemmas.Bool.{cases_lt, and_cases, eqb-false}
use Rattle.std.proofs.lemmas.List.{get_or-take, length-take-le}
use Rattle.nb_tcp.specs.Order.{among, or_else}
use Rattle.nb_tcp.specs.Runs.{in_runs, AreKnown, Puts, Contradicts}
use Rattle.nb_tcp.proofs.ByteLemmas.{or_else_none, some_stays, among_in, among_either, among_back, among_front, inside}

stays_by : (runs : List (ℕ × List ℕ)) (at : ℕ) (known bytes : List ℕ) (count i : ℕ) → AreKnown runs at known → count ≤ length known
    → (among count at bytes i ≡ None) ⊎ ((at ≤ i) × (i < at + count)) → in_runs runs i ≡ or_else (in_runs runs i) (among count at bytes i)
stays_by runs at known bytes count i k le (inl e) = sym (ap (λ z. or_else (in_runs runs i) z) e ∙ or_else_none (in_runs runs i))
stays_by runs at known bytes count i k le (inr h) =
    let same : at + (i - at) ≡ i = omega (arith, h) in
    let s : in_runs runs i ≡ Some (get_or known (i - at) 0) = ap (λ n. in_runs runs n) (sym same) ∙ k.each (i - at) (omega (arith, h)) in
    s ∙ sym (some_stays (in_runs runs i) (among count at bytes i) _ s)

-- where bytes came before, none is put
pub puts_known : (runs : List (ℕ × List ℕ)) (at : ℕ) (known bytes : List ℕ) (count : ℕ) → AreKnown runs at known → count ≤ length known
    → Puts runs at bytes count runs
puts_known runs at known bytes count k le i = stays_by runs at known bytes count i k le (among_either count at bytes i)

-- ---- bytes that contradict
agreed_by : (runs : List (ℕ × List ℕ)) (place : ℕ) (bytes : List ℕ) (n more : ℕ) → (Contradicts runs place bytes n → ⊥)
    → (Contradicts runs (place + n) (drop n bytes) more → ⊥)
    → (h : Contradicts runs place bytes (n + more)) → (h.0 < place + n) ⊎ (place + n ≤ h.0) → ⊥
agreed_by runs place bytes n more first then h (inl lt) = first (
  h.0,
  (
    h.1.0,
    h.1.1,
    h.1.2,
    among_front n more place bytes h.0 lt
        ∙ h.1.3,
    h.1.4,
  ),
)
agreed_by runs place bytes n more first then h (inr le) = then (
  h.0,
  (
    h.1.0,
    h.1.1,
    h.1.2,
    among_back n more place bytes h.0 le
        ∙ h.1.3,
    h.1.4,
  ),
)

pub agreed_more : (runs : List (ℕ × List ℕ)) (place : ℕ) (bytes : List ℕ) (n more : ℕ) → (Contradicts runs place bytes n → ⊥)
    → (Contradicts runs (place + n) (drop n bytes) more → ⊥) → Contradicts runs place bytes (n + more) → ⊥
agreed_more runs place bytes n more first then h = agreed_by runs place bytes n more first then h (cases_lt h.0 (place + n))

pub contradicts_later : (runs : List (ℕ × List ℕ)) (place : ℕ) (bytes : List ℕ) (n : ℕ) → n ≤ length bytes
    → Contradicts runs (place + n) (drop n bytes) (length (drop n bytes)) → Contradicts runs place bytes (length bytes)
contradicts_later runs place bytes n le h =
    let r : (place + n ≤ h.0) × (h.0 < place + n + length (drop n bytes)) = inside (length (drop n bytes)) (place + n)
    (drop n bytes) h.0 h.1.1 h.1.3 in
    let size : n + length (drop n bytes) ≡ length bytes = omega (arith, length-drop n bytes) in (
      h.0,
      (
        h.1.0,
        h.1.1,
        h.1.2,
        ap (λ k. among k place bytes h.0) (sym size)
            ∙ (sym (among_back n (length (drop n bytes)) place bytes h.0 r.0) ∙ h.1.3),
        h.1.4,
      ),
    )

known_byte : (runs : List (ℕ × List ℕ)) (at : ℕ) (known : List ℕ) (i : ℕ) → AreKnown runs at known → at ≤ i → i < at + length known
    → in_runs runs i ≡ Some (get_or known (i - at) 0)
known_byte runs at known i k lo hi =
    let same : at + (i - at) ≡ i = omega arith in
    ap (λ n. in_runs runs n) (sym same) ∙ k.each (i - at) (omega arith)

-- where the first bytes are those that came before, none contradicts
pub agrees : (runs : List (ℕ × List ℕ)) (at : ℕ) (known bytes : List ℕ) (count : ℕ) → AreKnown runs at known → count ≤ length known
    → take count known ≡ take count bytes → Contradicts runs at bytes count → ⊥
agrees runs at known bytes count k le same h =
    let r : (at ≤ h.0) × (h.0 < at + count) = inside count at bytes h.0 h.1.1 h.1.3 in
    let lt : h.0 - at < count = omega (arith, r) in
    let a : in_runs runs h.0 ≡ Some (get_or known (h.0 - at) 0) = known_byte runs at known h.0 k r.0 (omega (arith, r)) in
    let b : among count at bytes h.0 ≡ Some (get_or bytes (h.0 - at) 0) = among_in count at bytes h.0 r.0 r.1 in
    let c : get_or known (h.0 - at) 0 ≡ get_or bytes (h.0 - at) 0 = sym (get_or-take count known (h.0 - at) 0 lt)
    ∙ (ap (λ l. get_or l (h.0 - at) 0) same ∙ get_or-take count bytes (h.0 - at) 0 lt) in
    let x : get_or known (h.0 - at) 0 ≡ h.1.0 = grind (arith, sym a ∙ h.1.2) in
    let y : get_or bytes (h.0 - at) 0 ≡ h.1.1 = grind (arith, sym b ∙ h.1.3) in
    h.1.4 (sym x ∙ (c ∙ y))

-- the place at which two lists of one length differ
differ_by : (x y : ℕ) (xs ys : List ℕ) → (pointwise ◌==◌ xs ys ≡ false → (j : ℕ) × (j < length xs) × (get_or xs j 0 ≡ get_or ys j 0 → ⊥))
    → ((x == y) ≡ false) ⊎ (pointwise ◌==◌ xs ys ≡ false)
    → (j : ℕ) × (j < length (x ∷ xs)) × (get_or (x ∷ xs) j 0 ≡ get_or (y ∷ ys) j 0 → ⊥)
differ_by x y xs ys rec (inl e) = (0, omega arith, eqb-false x y e)
differ_by x y xs ys rec (inr e) = let r : (j : ℕ) × (j < length xs) × (get_or xs j 0 ≡ get_or ys j 0 → ⊥) = rec e in
    (suc r.0, omega (arith, r.1), r.2)

differ_at : (xs ys : List ℕ) → length xs ≡ length ys → pointwise ◌==◌ xs ys ≡ false
    → (j : ℕ) × (j < length xs) × (get_or xs j 0 ≡ get_or ys j 0 → ⊥)
differ_at [] [] n e = absurd (cc)
differ_at [] (y ∷ ys) n e = absurd (omega (arith, n))
differ_at (x ∷ xs) [] n e = absurd (omega (arith, n))
differ_at (x ∷ xs) (y ∷ ys) n e = differ_by x y xs ys (differ_at xs ys (omega (arith, n))) (and_cases (x == y) (pointwise ◌==◌ xs ys) e)

pub disagrees : (runs : List (ℕ × List ℕ)) (at : ℕ) (known bytes : List ℕ) (count : ℕ) → AreKnown runs at known → count ≤ length known
    → count ≤ length bytes
    → pointwise ◌==◌ (take count known) (take count bytes) ≡ false → Contradicts runs at bytes (length bytes)
disagrees runs at known bytes count k le less e =
    let size : length (take count known) ≡ count = length-take-le count known le in
    let r : (j : ℕ) × (j < length (take count known)) × (get_or (take count known) j 0 ≡ get_or (take count bytes) j 0 → ⊥) = differ_at
    (take count known) (take count bytes) (size ∙ sym (length-take-le count bytes less)) e in
    let lt : r.0 < count = omega (arith, r.1, size) in
    let same : at + r.0 - at ≡ r.0 = omega arith in (
      at + r.0,
      (
        get_or known r.0 0,
        get_or bytes r.0 0,
        k.each r.0 (omega arith),
        among_in (length bytes) at bytes (at + r.0) (omega arith) (omega arith) ∙ ap (λ n. Some (get_or bytes n 0)) same,
        λ q. r.2 (get_or-take count known r.0 0 lt ∙ (q ∙ sym (get_or-take count bytes r.0 0 lt))),
      ),
    )

pub agreed_rest : (runs : List (ℕ × List ℕ)) (place : ℕ) (bytes rest : List ℕ) (n more : ℕ) → rest ≡ drop n bytes
    → (Contradicts runs place bytes n → ⊥) → (Contradicts runs (place + n) rest more → ⊥) → Contradicts runs place bytes (n + more) → ⊥
agreed_rest runs place bytes rest n more e first then = agreed_more runs place bytes n more first
    (λ h. then (subst (λ (r : List ℕ). Contradicts runs (place + n) r more) (sym e) h))

pub contradicts_rest : (runs : List (ℕ × List ℕ)) (place : ℕ) (bytes rest : List ℕ) (n : ℕ) → rest ≡ drop n bytes → n ≤ length bytes
    → Contradicts runs (place + n) rest (length rest) → Contradicts runs place bytes (length bytes)
contradicts_rest runs place bytes rest n e le h = contradicts_later runs place bytes n le
    (subst (λ (r : List ℕ). Contradicts runs (place + n) r (length r)) e h)
