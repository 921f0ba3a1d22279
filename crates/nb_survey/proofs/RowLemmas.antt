-- A row, after one more word.
use Rattle.std.proofs.Common.{ℕ, ◌≡◌, ◌==◌, ◌+◌, ◌-◌, ◌^◌, min, refl, ◌∙◌, ap, List, [], ◌∷◌, ◌++◌, Bool, true, false, cond, filter, filter_map, append-nil, arith, Option, Some, None, unwrap_or, ◌⊎◌, inl, inr, ⊎_elim}
use Rattle.std.specs.List.{last_or, cons_option}
use Rattle.std.specs.Option.{option_or}
use Rattle.std.proofs.lemmas.List.Elements.{filter-append, filter_map-append}
use Rattle.nb_survey.specs.declared.heard.Said.{Said}
use Rattle.nb_survey.specs.declared.key.Key.{Key}
use Rattle.nb_survey.specs.Code.Steps.{after, counted, grown, is_last}
use Rattle.nb_survey.specs.Keys.{has_key}
use Rattle.nb_survey.specs.Rows.{claimed_of, frame_where, granted_of, is_claim, IsWitnessed, latest_of, mac_of, others_of, own_of, packets, refuses, row_at, row_from, row_of, tally}
use Rattle.nb_survey.specs.Words.{is_own}

last_one_more : {A : Type 0} (o : Option A) (xs : List A) (x : A) → last_or o (xs ++ x ∷ []) ≡ Some x
last_one_more o [] x = refl
last_one_more o (y ∷ ys) x = last_one_more (Some y) ys x

last_more : {A : Type 0} (o : Option A) (xs : List A) → last_or None (xs ++ cons_option o []) ≡ option_or o (last_or None xs)
last_more None xs = ap (last_or None) (append-nil xs)
last_more (Some x) xs = last_one_more None xs x

pub latest_of-more : {A : Type 0} (f : Said → Option A) (xs : List Said) (s : Said) → latest_of f (xs ++ s ∷ []) ≡ option_or (f s) (latest_of f xs)
latest_of-more f xs s = ap (last_or None) (filter_map-append f xs (s ∷ [])) ∙ last_more (f s) (filter_map f xs)

one_packet : (same before : Bool) (n m : ℕ) → n ≡ cond before m (m + 1) → cond same n (n + 1) ≡ cond before (cond same m (m + 1)) (cond same m (m + 1) + 1)
one_packet true true n m e = e
one_packet true false n m e = e
one_packet false true n m e = ap (λ k. k + 1) e
one_packet false false n m e = ap (λ k. k + 1) e

packets-more : (xs : List ℕ) (x : ℕ) → packets (xs ++ x ∷ []) ≡ cond (is_last x (last_or None xs)) (packets xs) (packets xs + 1)
packets-more [] x = refl
packets-more (y ∷ []) x = refl
packets-more (y ∷ (z ∷ zs)) x =
    one_packet (y == z) (is_last x (last_or None (z ∷ zs))) (packets ((z ∷ zs) ++ x ∷ [])) (packets (z ∷ zs)) (packets-more (z ∷ zs) x)

counted_by : (b : Bool) (m n : ℕ) → n ≡ cond b m (m + 1) → min n (2 ^ 64 - 1) ≡ cond b (min m (2 ^ 64 - 1)) (min (min m (2 ^ 64 - 1) + 1) (2 ^ 64 - 1))
counted_by true m n e = ap (λ k. min k (2 ^ 64 - 1)) e
counted_by false m n e = omega (arith, e)

tally_by : (o : Option ℕ) (xs : List ℕ) →
    record { packets = min (packets (xs ++ cons_option o [])) (2 ^ 64 - 1); last = last_or None (xs ++ cons_option o []) }
    ≡ counted (record { packets = min (packets xs) (2 ^ 64 - 1); last = last_or None xs }) o
tally_by None xs = rw append-nil refl
tally_by (Some x) xs = λ i. record {
  packets = counted_by (is_last x (last_or None xs)) (packets xs) (packets (xs ++ x ∷ [])) (packets-more xs x) i;
  last = last_one_more None xs x i;
}

tally-more : (p : Said → Bool) (xs : List Said) (s : Said) → tally p (xs ++ s ∷ []) ≡ counted (tally p xs) (frame_where p s)
tally-more p xs s =
    ap (λ (frames : List ℕ). record { packets = min (packets frames) (2 ^ 64 - 1); last = last_or None frames }) (filter_map-append (frame_where p) xs (s ∷ []))
    ∙ tally_by (frame_where p s) (filter_map (frame_where p) xs)

pub row_from-more : (first : ℕ) (xs : List Said) (s : Said) → row_from first (xs ++ s ∷ []) ≡ after (row_from first xs) s
row_from-more first xs s = λ i. record {
  first = first;
  group = latest_of-more (λ x. x.group) xs s i;
  own = latest_of-more own_of xs s i;
  others = latest_of-more others_of xs s i;
  is_own_later = ap (λ o. unwrap_or o false) (latest_of-more (λ x. Some (is_own x.word)) xs s) i;
  claims = tally-more is_claim xs s i;
  refusals = tally-more refuses xs s i;
  claimed = latest_of-more claimed_of xs s i;
  granted = latest_of-more granted_of xs s i;
  mac = latest_of-more mac_of xs s i;
}

row_of-more : (xs : List Said) (s : Said) → row_of (xs ++ s ∷ []) ≡ Some (grown (row_of xs) s)
row_of-more [] s = refl
row_of-more (x ∷ xs) s = ap Some (row_from-more x.facts.frame.number (x ∷ xs) s)

grown_by : (b : Bool) (xs : List Said) (s : Said) → row_of (xs ++ cond b (s ∷ []) []) ≡ cond b (Some (grown (row_of xs) s)) (row_of xs)
grown_by true xs s = row_of-more xs s
grown_by false xs s = ap row_of (append-nil xs)

-- a row, after one more word of the name
pub row_at-more : (key_of : Said → Option Key) (key : Key) (said : List Said) (s : Said)
    → row_at key_of key (said ++ s ∷ []) ≡ cond (has_key key (key_of s)) (Some (grown (row_at key_of key said) s)) (row_at key_of key said)
row_at-more key_of key said s =
    ap row_of (filter-append (λ x. has_key key (key_of x)) said (s ∷ [])) ∙ grown_by (has_key key (key_of s)) (filter (λ x. has_key key (key_of x)) said) s

-- ---- what a row has is a word's

witness_past : {A : Type 0} (f : Said → Option A) (s : Said) (xs : List Said) (x : A) → IsWitnessed f xs x → IsWitnessed f (s ∷ xs) x
witness_past f s xs x w = record { before = s ∷ w.before; word = w.word; later = w.later; stands = ap (λ ys. s ∷ ys) w.stands; has = w.has }

witness_by : {A : Type 0} (f : Said → Option A) (s : Said) (xs : List Said) (o : Option A) (x : A) (v : Option A) → f s ≡ v
    → ((p : Option A) → last_or p (filter_map f xs) ≡ Some x → (p ≡ Some x) ⊎ IsWitnessed f xs x)
    → last_or o (cons_option v (filter_map f xs)) ≡ Some x → (o ≡ Some x) ⊎ IsWitnessed f (s ∷ xs) x
witness_by f s xs o x None e rest is = ⊎_elim (λ p. inl p) (λ w. inr (witness_past f s xs x w)) (rest o is)
witness_by f s xs o x (Some y) e rest is =
    ⊎_elim (λ p. inr (record { before = []; word = s; later = xs; stands = refl; has = e ∙ p })) (λ w. inr (witness_past f s xs x w)) (rest (Some y) is)

witness_of : {A : Type 0} (f : Said → Option A) (xs : List Said) (x : A) (o : Option A) → last_or o (filter_map f xs) ≡ Some x → (o ≡ Some x) ⊎ IsWitnessed f xs x
witness_of f [] x o is = inl is
witness_of f (s ∷ xs) x o is = witness_by f s xs o x (f s) refl (witness_of f xs x) is

pub witnessed : {A : Type 0} (f : Said → Option A) (xs : List Said) (x : A) → latest_of f xs ≡ Some x → IsWitnessed f xs x
witnessed f xs x is = ⊎_elim (λ p. absurd (cc p)) (λ w. w) (witness_of f xs x None is)
