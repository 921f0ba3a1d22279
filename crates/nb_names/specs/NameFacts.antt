-- Lemmas on names, for the laws of traits and for proofs in the crates above: when two are equal.
use Rattle.std.proofs.Common.{◌≡◌, ℕ, ◌<◌, List, [], ◌∷◌, ◌++◌, length, refl, ap, arith, length-append}
use Rattle.std.specs.Bool.{Decides}
use Rattle.nb_streams.specs.DecidedFacts.{bytes_decide, decided_both, decided_by_view}
use Rattle.nb_names.specs.DomainName.{spelling, domain_eq}
use Rattle.nb_names.specs.Name.{NetbiosName, name_eq}

-- ---- labels

pub spelling-some : (labels : List (List ℕ)) → 0 < length (spelling labels)
spelling-some [] = omega arith
spelling-some (l ∷ ls) = omega arith

-- rows of bytes that are equal, and have fronts of one length
pub fronts_same : (xs ys more others : List ℕ) → length xs ≡ length ys → xs ++ more ≡ ys ++ others → (xs ≡ ys) × (more ≡ others)
fronts_same [] [] more others size e = (refl, e)
fronts_same [] (y ∷ ys) more others size e = absurd (omega arith)
fronts_same (x ∷ xs) [] more others size e = absurd (omega arith)
fronts_same (x ∷ xs) (y ∷ ys) more others size e =
    let rest = fronts_same xs ys more others (omega arith) (cc) in (cc (rest.0), rest.1)

-- two lists of labels with one spelling are one
pub spelling-injective : (labels others : List (List ℕ)) → spelling labels ≡ spelling others → labels ≡ others
spelling-injective [] [] e = refl
spelling-injective [] (k ∷ ks) e = absurd (omega (arith, ap length e, length-append k (spelling ks), spelling-some ks))
spelling-injective (l ∷ ls) [] e = absurd (omega (arith, ap length e, length-append l (spelling ls), spelling-some ls))
spelling-injective (l ∷ ls) (k ∷ ks) e =
    let size : length l ≡ length k = cc in
    let behind : l ++ spelling ls ≡ k ++ spelling ks = cc in
    let parts = fronts_same l k (spelling ls) (spelling ks) size behind in
    cc (parts.0, spelling-injective ls ks parts.1)

pub domain_eq_decides : (labels others : List (List ℕ)) → Decides (domain_eq labels others) (labels ≡ others)
domain_eq_decides labels others = (
  λ h. spelling-injective labels others ((bytes_decide (spelling labels) (spelling others)).0 h),
  λ e. (bytes_decide (spelling labels) (spelling others)).1 (ap spelling e),
)

-- ---- names

-- names are equal where their bytes and their labels are
pub name_eq_decides : (a b : NetbiosName) → Decides (name_eq a b) (a ≡ b)
name_eq_decides =
    decided_by_view (λ (n : NetbiosName). (n.bytes, n.scope)) (λ p. record { bytes = p.0; scope = p.1 }) (λ _. refl)
    (decided_both bytes_decide domain_eq_decides)
