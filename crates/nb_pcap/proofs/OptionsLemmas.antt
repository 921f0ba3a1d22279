-- What options say, as far as a walk along them has come.
use Rattle.std.proofs.Common.{◌≡◌, ◌<◌, ◌≤◌, ◌+◌, ◌-◌, ◌∷◌, ℕ, zero, suc, min, List, [], take, drop, length, Option, Some, None, false, nat_eq, refl, sym, ◌∙◌, ap, arith, option_map}
use Rattle.std.specs.Int.{w16}
use Rattle.std.proofs.lemmas.Bool.{ne_eqb}
use Rattle.std.proofs.lemmas.List.{drop_min, length-drop, take_all}
use Rattle.nb_pcap.specs.declared.numbers.Order.{Order}
use Rattle.nb_pcap.specs.Numbers.{number}
use Rattle.nb_pcap.specs.Options.{OptionValue, SaidValue, noted, padded, said_after, options_within, options_said}

-- what is said so far, and what is left
pub record IsWalking (order : Order) (bytes left : List ℕ) (s : SaidValue) : Type 0 where
  pub fuel : ℕ
  pub enough : length left ≤ fuel
  pub rest : option_map (said_after order s) (options_within fuel order left) ≡ options_said order bytes

-- an option more
one_more : (order : Order) (s : SaidValue) (o : OptionValue) (others : Option (List OptionValue))
    → option_map (said_after order s) (option_map (λ os. o ∷ os) others) ≡ option_map (said_after order (noted order s o.code o.value)) others
one_more order s o None = refl
one_more order s o (Some os) = refl

-- options end where fewer than four bytes are left
none_left : (fuel : ℕ) (order : Order) (left : List ℕ) → length left < 4 → options_within fuel order left ≡ Some []
none_left zero order left short = refl
none_left (suc n) order left short = grind (arith, short)

-- the option at the front
first_option : (n : ℕ) (order : Order) (left : List ℕ) → 4 ≤ length left → nat_eq (number order w16 left 0) 0 ≡ false
    → number order w16 left 2 ≤ length left - 4
    → options_within (suc n) order left
    ≡ option_map (λ os. record { code = number order w16 left 0; value = take (number order w16 left 2) (drop 4 left) } ∷ os)
    (options_within n order (drop (4 + padded (number order w16 left 2)) left))
first_option n order left long goes_on within = grind (arith, long, goes_on, within)

-- the option that ends them
ended : (fuel : ℕ) (order : Order) (left : List ℕ) → length left ≤ fuel → 4 ≤ length left → number order w16 left 0 ≡ 0 → options_within fuel order left ≡ Some []
ended zero order left enough long ends = absurd (omega (arith, enough, long))
ended (suc n) order left enough long ends = grind (arith, long, ends)

-- ---- the walk

-- where no option is left, all is said
said_all : (order : Order) (bytes left : List ℕ) (s : SaidValue) (w : IsWalking order bytes left s) → options_within w.fuel order left ≡ Some []
    → Some s ≡ options_said order bytes
said_all order bytes left s w none = ap (option_map (said_after order s)) (sym none) ∙ w.rest

pub all_said : (order : Order) (bytes left : List ℕ) (s : SaidValue) → IsWalking order bytes left s → length left < 4 → Some s ≡ options_said order bytes
all_said order bytes left s w short = said_all order bytes left s w (none_left w.fuel order left short)

pub said_to_end : (order : Order) (bytes left : List ℕ) (s : SaidValue) → IsWalking order bytes left s → 4 ≤ length left
    → number order w16 left 0 ≡ 0 → Some s ≡ options_said order bytes
said_to_end order bytes left s w long ends = said_all order bytes left s w (ended w.fuel order left w.enough long ends)

walked_from : (fuel : ℕ) (order : Order) (bytes left : List ℕ) (s : SaidValue) → length left ≤ fuel
    → option_map (said_after order s) (options_within fuel order left) ≡ options_said order bytes
    → 4 ≤ length left → nat_eq (number order w16 left 0) 0 ≡ false → number order w16 left 2 ≤ length left - 4
    → IsWalking order bytes (drop (4 + padded (number order w16 left 2)) left)
    (noted order s (number order w16 left 0) (take (number order w16 left 2) (drop 4 left)))
walked_from zero order bytes left s enough rest long goes_on within = absurd (omega (arith, enough, long))
walked_from (suc n) order bytes left s enough rest long goes_on within =
    let next : ℕ = 4 + padded (number order w16 left 2) in
    let others : Option (List OptionValue) = options_within n order (drop next left) in
    let first : OptionValue = record { code = number order w16 left 0; value = take (number order w16 left 2) (drop 4 left) } in
    record {
      fuel = n;
      enough = omega (arith, enough, long, length-drop next left);
      rest = sym (one_more order s first others) ∙ ap (option_map (said_after order s)) (sym (first_option n order left long goes_on within)) ∙ rest;
    }

-- what a step of the walk found
pub record IsStep (order : Order) (left : List ℕ) (s : SaidValue) (code size next : ℕ) (value : List ℕ) (t : SaidValue) : Type 0 where
  pub long : 4 ≤ length left
  pub code_is : code ≡ number order w16 left 0
  pub goes_on : code ≡ 0 → ⊥
  pub size_is : size ≡ number order w16 left 2
  pub within : size ≤ length left - 4
  pub value_is : value ≡ take size (drop 4 left)
  pub next_is : next ≡ padded size
  pub noted : t ≡ noted order s code value

-- the walk goes on behind an option
pub walked : (order : Order) (bytes left : List ℕ) (s : SaidValue) (code size next : ℕ) (value : List ℕ) (t : SaidValue)
    → IsWalking order bytes left s → IsStep order left s code size next value t → IsWalking order bytes (drop (4 + next) left) t
walked order bytes left s code size next value t w p =
    let goes_on : nat_eq (number order w16 left 0) 0 ≡ false = ap (λ (n : ℕ). nat_eq n 0) (sym p.code_is) ∙ ne_eqb code 0 p.goes_on in
    rw (p.noted, p.value_is, p.next_is, p.code_is, p.size_is)
    (walked_from w.fuel order bytes left s w.enough w.rest p.long goes_on (omega (arith, p.within, p.size_is)))

-- the bytes from a place on, as many as there are
pub rest_from : (n k : ℕ) (xs : List ℕ) → k ≡ min n (length xs) → take (length xs - k) (drop k xs) ≡ drop n xs
rest_from n k xs is = take_all (length xs - k) (drop k xs) (omega (arith, length-drop k xs)) ∙ ap (λ (i : ℕ). drop i xs) is ∙ drop_min n xs
