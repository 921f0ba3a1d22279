use Rattle.nb_calls.proofs.Common.{◌≡◌, ◌∙◌, ◌==◌, ℕ, true, false, List, [], ◌∷◌, ◌++◌, length, get_or, take, drop, inl, inr, refl, ap, sym, arith, append_assoc, and_parts, cases_Bool, list_all, spelling, is_letter, are_letters, take-append_seam, netbios_number}
use Rattle.std.proofs.lemmas.Bool.{eqb-true}
use Rattle.nb_calls.proofs.service_reading.netbios_number.Goals.{else-bytes-eq-LETTERS-via-then-bytes-eq-LETTERS+else-are_letters, else-bytes-eq-LETTERS-via-else-bytes-eq-LETTERS}
use Rattle.nb_calls.proofs.service_reading.netbios_number.Goals as goal

-- the first label, after its length byte
first_there : (first : List ℕ) (more : List (List ℕ)) (rest bytes : List ℕ) → bytes ≡ spelling (first ∷ more) ++ rest → length first ≡ 32
    → take 32 (drop 1 bytes) ≡ first
first_there first more rest bytes is long =
    ap (λ (b : List ℕ). take 32 (drop 1 b)) is
    ∙ ap (take 32) (append_assoc first (spelling more) rest)
    ∙ ap (λ n. take n (first ++ (spelling more ++ rest))) (sym long)
    ∙ take-append_seam first (spelling more ++ rest)

a_name : (labels : List (List ℕ)) (rest bytes : List ℕ) → bytes ≡ spelling labels ++ rest → get_or bytes 0 0 ≡ 32
    → are_letters (take 32 (drop 1 bytes)) ≡ true → 1 ≡ netbios_number labels
a_name [] rest bytes is long good = absurd (omega (arith, ap (λ (b : List ℕ). get_or b 0 0) is, long))
a_name (first ∷ more) rest bytes is long good =
    let size = sym (ap (λ (b : List ℕ). get_or b 0 0) is) ∙ long in
    let letters = ap are_letters (sym (first_there first more rest bytes is size)) ∙ good in
    rw letters refl

no_name : (labels : List (List ℕ)) (rest bytes : List ℕ) → bytes ≡ spelling labels ++ rest
    → (get_or bytes 0 0 ≡ 32 → are_letters (take 32 (drop 1 bytes)) ≡ false) → 0 ≡ netbios_number labels
no_name [] rest bytes is bad = refl
no_name (first ∷ more) rest bytes is bad = elim (cases_Bool (are_letters first)) [
  | inl good ↦
      let size = eqb-true (length first) 32 (and_parts (length first == 32) (list_all is_letter first) good).0 in
      let letters = bad (ap (λ (b : List ℕ). get_or b 0 0) is ∙ size) in
      absurd (cc (letters, ap are_letters (first_there first more rest bytes is size), good))
  | inr none ↦ rw none refl
]

pub returns-then-are_letters : goal.returns-then-are_letters
returns-then-are_letters c labels rest is =
    a_name labels rest _ is c.if-bytes-eq-LETTERS.true (sym c.are_letters.ensures ∙ c.if-are_letters.true)

pub returns-else-bytes-eq-LETTERS : goal.returns-else-bytes-eq-LETTERS
returns-else-bytes-eq-LETTERS c labels rest is = elim c.else-bytes-eq-LETTERS.branch [
  | else-bytes-eq-LETTERS-via-then-bytes-eq-LETTERS+else-are_letters w ↦
      no_name labels rest _ is (λ long. sym w.are_letters.ensures ∙ w.if-are_letters.false)
  | else-bytes-eq-LETTERS-via-else-bytes-eq-LETTERS w ↦ no_name labels rest _ is (λ long. absurd (w.if-bytes-eq-LETTERS.false long))
]
