use Rattle.nb_entries.proofs.Common.{sym, subst, AreCoverFacts, fit_of, and_parts}
use Rattle.nb_entries.proofs.Covers.{together_formed}
use Rattle.nb_entries.proofs.cover.uniting.CoverFactsFacts.together.Goals as goal

pub together-requires : goal.together-requires
together-requires c = let agree = rw (← c.self.view_is, ← c.other.view_is) at c.requires in (and_parts _ _ agree).0

pub returns-clause-value : goal.returns-clause-value
returns-clause-value c =
    let bytes = c.in_ok-bytes.ensures in
    let marks = c.together-marks.ensures in
    rw (← c.self.view_is, ← c.other.view_is) (λ i. record { bytes = bytes i; marks = marks i })

pub returns-clause-formed : goal.returns-clause-formed
returns-clause-formed c =
    subst AreCoverFacts (sym (returns-clause-value c))
    (together_formed _ _ (fit_of _ _ c.requires) (subst AreCoverFacts c.self.view_is c.self.invariant) (subst AreCoverFacts c.other.view_is c.other.invariant))

pub invariant_of-result : goal.invariant_of-result
invariant_of-result c = returns-clause-formed c
