-- The bytes at a place, of some that stand one after another.
use Rattle.std.proofs.Common.{ℕ, ◌≡◌, ◌≤◌, ◌<◌, ◌+◌, ◌-◌, ◌⊎◌, inl, inr, List, length, drop, take, get_or, Option, None, Some, IsSome, refl, sym, ◌∙◌, ap, arith}
use Rattle.std.proofs.lemmas.Bool.{cases_lt}
use Rattle.std.proofs.lemmas.List.{get_or-drop, get_or-take, length-take-le}
use Rattle.std.proofs.lemmas.Grind.{common_steps}
use Rattle.nb_tcp.specs.Order.{among, or_else}

pub or_else_none : (x : Option ℕ) → or_else x None ≡ x
or_else_none None = refl
or_else_none (Some x) = refl

pub or_else_assoc : (x y z : Option ℕ) → or_else (or_else x y) z ≡ or_else x (or_else y z)
or_else_assoc None y z = refl
or_else_assoc (Some x) y z = refl

pub none_left : (x y : Option ℕ) → or_else x y ≡ None → x ≡ None
none_left None y e = refl
none_left (Some x) y e = absurd (cc)

pub none_right : (x y : Option ℕ) → or_else x y ≡ None → y ≡ None
none_right None y e = e
none_right (Some x) y e = absurd (cc)

pub some_right : (x y : Option ℕ) → IsSome y → IsSome (or_else x y)
some_right None y h = h
some_right (Some x) y h = refl

pub some_stays : (x y : Option ℕ) (b : ℕ) → x ≡ Some b → or_else x y ≡ Some b
some_stays None y b e = absurd (cc)
some_stays (Some x) y b e = e

pub or_else_swaps : (x y : Option ℕ) → (x ≡ None) ⊎ (y ≡ None) → or_else x y ≡ or_else y x
or_else_swaps x y (inl e) = ap (λ z. or_else z y) e ∙ (sym (or_else_none y) ∙ ap (λ z. or_else y z) (sym e))
or_else_swaps x y (inr e) = ap (λ z. or_else x z) e ∙ (or_else_none x ∙ ap (λ z. or_else z x) (sym e))

pub among_in : (n place : ℕ) (bytes : List ℕ) (i : ℕ) → place ≤ i → i < place + n
    → among n place bytes i ≡ Some (get_or bytes (i - place) 0)
among_in n place bytes i lo hi = grind (arith, common_steps)

pub among_low : (n place : ℕ) (bytes : List ℕ) (i : ℕ) → i < place → among n place bytes i ≡ None
among_low n place bytes i h = grind (arith, common_steps)

pub among_high : (n place : ℕ) (bytes : List ℕ) (i : ℕ) → place + n ≤ i → among n place bytes i ≡ None
among_high n place bytes i h = grind (arith, common_steps)

outside_by : (n place : ℕ) (bytes : List ℕ) (i : ℕ) → among n place bytes i ≡ None → place ≤ i → (i < place + n) ⊎ (place + n ≤ i)
    → place + n ≤ i
outside_by n place bytes i e lo (inl hi) = let s : among n place bytes i ≡ Some
    (get_or bytes (i - place) 0) = among_in n place bytes i lo hi in absurd (cc)
outside_by n place bytes i e lo (inr hi) = hi

pub outside : (n place : ℕ) (bytes : List ℕ) (i : ℕ) → among n place bytes i ≡ None → place ≤ i → place + n ≤ i
outside n place bytes i e lo = outside_by n place bytes i e lo (cases_lt i (place + n))

inside_by : (n place : ℕ) (bytes : List ℕ) (i y : ℕ) → among n place bytes i ≡ Some y → (i < place) ⊎ (place ≤ i)
    → (i < place + n) ⊎ (place + n ≤ i) → (place ≤ i) × (i < place + n)
inside_by n place bytes i y e (inl lt) d = let s : among n place bytes i ≡ None = among_low n place bytes i lt in absurd (cc)
inside_by n place bytes i y e (inr lo) (inl hi) = (lo, hi)
inside_by n place bytes i y e (inr lo) (inr le) = let s : among n place bytes i ≡ None = among_high n place bytes i le in absurd (cc)

pub inside : (n place : ℕ) (bytes : List ℕ) (i y : ℕ) → among n place bytes i ≡ Some y → (place ≤ i) × (i < place + n)
inside n place bytes i y e = inside_by n place bytes i y e (cases_lt i place) (cases_lt i (place + n))

among_either_by : (n place : ℕ) (bytes : List ℕ) (i : ℕ) → (i < place) ⊎ (place ≤ i) → (i < place + n) ⊎ (place + n ≤ i)
    → (among n place bytes i ≡ None) ⊎ ((place ≤ i) × (i < place + n))
among_either_by n place bytes i (inl lt) d = inl (among_low n place bytes i lt)
among_either_by n place bytes i (inr lo) (inl hi) = inr (lo, hi)
among_either_by n place bytes i (inr lo) (inr le) = inl (among_high n place bytes i le)

pub among_either : (n place : ℕ) (bytes : List ℕ) (i : ℕ) → (among n place bytes i ≡ None) ⊎ ((place ≤ i) × (i < place + n))
among_either n place bytes i = among_either_by n place bytes i (cases_lt i place) (cases_lt i (place + n))

-- ---- bytes in two parts
back_in : (n more place : ℕ) (bytes : List ℕ) (i : ℕ) → place + n ≤ i → i < place + n + more
    → among more (place + n) (drop n bytes) i ≡ among (n + more) place bytes i
back_in n more place bytes i lo hi =
    let e : n + (i - (place + n)) ≡ i - place = omega arith in
    among_in more (place + n) (drop n bytes) i lo hi
    ∙ (ap (λ z. Some z) (get_or-drop n bytes (i - (place + n)) 0 ∙ ap (λ k. get_or bytes k 0) e)
    ∙ sym (among_in (n + more) place bytes i (omega arith) (omega arith)))

back_by : (n more place : ℕ) (bytes : List ℕ) (i : ℕ) → place + n ≤ i → (i < place + n + more) ⊎ (place + n + more ≤ i)
    → among more (place + n) (drop n bytes) i ≡ among (n + more) place bytes i
back_by n more place bytes i lo (inl hi) = back_in n more place bytes i lo hi
back_by n more place bytes i lo (inr le) = among_high more (place + n) (drop n bytes) i le
    ∙ sym (among_high (n + more) place bytes i (omega arith))

pub among_back : (n more place : ℕ) (bytes : List ℕ) (i : ℕ) → place + n ≤ i
    → among more (place + n) (drop n bytes) i ≡ among (n + more) place bytes i
among_back n more place bytes i lo = back_by n more place bytes i lo (cases_lt i (place + n + more))

front_by : (n more place : ℕ) (bytes : List ℕ) (i : ℕ) → i < place + n → (i < place) ⊎ (place ≤ i)
    → among n place bytes i ≡ among (n + more) place bytes i
front_by n more place bytes i hi (inl lt) = among_low n place bytes i lt ∙ sym (among_low (n + more) place bytes i lt)
front_by n more place bytes i hi (inr lo) = among_in n place bytes i lo hi ∙ sym (among_in (n + more) place bytes i lo (omega arith))

pub among_front : (n more place : ℕ) (bytes : List ℕ) (i : ℕ) → i < place + n → among n place bytes i ≡ among (n + more) place bytes i
among_front n more place bytes i hi = front_by n more place bytes i hi (cases_lt i place)

take_by : (n place : ℕ) (bytes : List ℕ) (i : ℕ) → (among n place bytes i ≡ None) ⊎ ((place ≤ i) × (i < place + n))
    → (among n place (take n bytes) i ≡ None) ⊎ ((place ≤ i) × (i < place + n)) → among n place (take n bytes) i ≡ among n place bytes i
take_by n place bytes i (inr h) d = among_in n place (take n bytes) i h.0 h.1
    ∙ (ap (λ z. Some z) (get_or-take n bytes (i - place) 0 (omega (arith, h))) ∙ sym (among_in n place bytes i h.0 h.1))
take_by n place bytes i (inl e) (inl f) = f ∙ sym e
take_by n place bytes i (inl e) (inr h) = let s : among n place bytes i ≡ Some
    (get_or bytes (i - place) 0) = among_in n place bytes i h.0 h.1 in absurd (cc)

-- the first n bytes, as a list of their own
pub among_take : (n place : ℕ) (bytes : List ℕ) (i : ℕ) → n ≤ length bytes
    → among (length (take n bytes)) place (take n bytes) i ≡ among n place bytes i
among_take n place bytes i le = ap (λ k. among k place (take n bytes) i) (length-take-le n bytes le)
    ∙ take_by n place bytes i (among_either n place bytes i) (among_either n place (take n bytes) i)
