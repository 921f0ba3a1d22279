-- Names that stand at one place of an order are one.
use Rattle.std.proofs.Common.{ℕ, ◌≡◌, List, true}
use Rattle.std.specs.Cmp.{Equal-is, eq_by_cmp_equiv}
use Rattle.std.specs.FinMap.{IsAntisymmetric, nat_cmp-IsAntisymmetric, slice_cmp-IsAntisymmetric}
use Rattle.nb_names.specs.DomainName.{domain_cmp}
use Rattle.nb_names.specs.NameFacts.{spelling-injective}
use Rattle.nb_survey.specs.KeyFacts.{domain_cmp_total}
use Rattle.nb_survey.specs.Places.{same_name}

pub domain_cmp_exact : IsAntisymmetric domain_cmp
domain_cmp_exact a b e = spelling-injective a b (slice_cmp-IsAntisymmetric nat_cmp-IsAntisymmetric _ _ e)

pub name_exact : (a b : List (List ℕ)) → same_name a b ≡ true → a ≡ b
name_exact a b h = domain_cmp_exact a b ((Equal-is (domain_cmp a b)).0 h)

pub name_self : (a : List (List ℕ)) → same_name a a ≡ true
name_self = (eq_by_cmp_equiv domain_cmp_total).refl
