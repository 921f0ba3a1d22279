-- What is found in a list stands in the list that is made of it.
use Rattle.nb_calls.proofs.Common.{◌≡◌, refl, List, [], ◌∷◌, map, Option, Some, option_map, Bool, true, false, if◌then◌else◌, find}

module _ {A B : Type 0} (f : A → B) where
  here_or_later : (is_here : Bool) (x : A) (rest : Option A) (made : Option B) → made ≡ option_map f rest
      → (if is_here then Some (f x) else made) ≡ option_map f (if is_here then Some x else rest)
  here_or_later true x rest made later = refl
  here_or_later false x rest made later = later

  pub found_made : (test : B → Bool) (xs : List A) → find test (map f xs) ≡ option_map f (find (λ x. test (f x)) xs)
  found_made test [] = refl
  found_made test (x ∷ xs) = here_or_later (test (f x)) x (find (λ y. test (f y)) xs) (find test (map f xs)) (found_made test xs)
