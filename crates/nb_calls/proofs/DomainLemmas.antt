-- A domain name in RDATA is answered by its one spelling, or by its one fault.
use Rattle.nb_calls.proofs.Common.{◌≡◌, ◌≢◌, ◌∙◌, ◌==◌, ℕ, ◌+◌, ◌-◌, ◌≤◌, true, false, List, Option, Some, None, Ok, Err, refl, ap, arith, sym, eq-eqb, eqb-true, not-false, not, SomeIff, Followed, spelling, NameAt, domain_no_fault, one_domain_fault, domain_there, of_domain, DomainFails, Refusal, HasOne, one_reading, ServiceFault, NS, ReadsDomain, service_refusal}
use Rattle.std.specs.Option.{option_eq}

-- where the bytes up to what follows a name aren't so many, it ends elsewhere
pub ends_elsewhere : (rest : Option ℕ) (next at size : ℕ) → SomeIff rest (at ≤ next) (next - at)
    → not (option_eq ◌==◌ rest (Some size)) ≡ true → next ≢ at + size
ends_elsewhere None next at size less other same = less (omega (arith, same))
ends_elsewhere (Some long) next at size less other same =
    absurd (cc (other, ap not (eq-eqb long size (omega (arith, less.1, same)))))

-- and where they are so many, it ends there
pub ends_there : (rest : Option ℕ) (next at size : ℕ) → SomeIff rest (at ≤ next) (next - at)
    → not (option_eq ◌==◌ rest (Some size)) ≡ false → next ≡ at + size
ends_there None next at size less same = absurd (cc same)
ends_there (Some long) next at size less same =
    omega (arith, less.0, less.1, eqb-true long size (not-false (long == size) same))

module _ (payload : List ℕ) (at size : ℕ) where
  not_both : (labels : List (List ℕ)) (fault : ServiceFault) → NameAt payload Followed at labels (at + size) → ¬ DomainFails payload at size fault
  not_both labels fault there fails =
      domain_no_fault payload at size NS (of_domain labels) fault (domain_there labels refl there) refl fails

  pub one_domain : HasOne (ReadsDomain payload at size)
  one_domain (Ok a) (Ok b) (labels, there, e) (others, also, d) =
      ap (λ (bytes : List ℕ). Ok bytes) (e ∙ ap spelling (one_reading payload Followed at at labels others (at + size) (at + size) there also).0 ∙ sym d)
  one_domain (Ok a) (Err r) (labels, there, e) (fault, fails, d) = absurd (not_both labels fault there fails)
  one_domain (Err r) (Ok a) (fault, fails, d) (labels, there, e) = absurd (not_both labels fault there fails)
  one_domain (Err r) (Err q) (f, fails, e) (g, fail, d) =
      ap (λ (x : Refusal). Err x) (e ∙ ap service_refusal (one_domain_fault payload at size f g fails fail) ∙ sym d)
