use Rattle.nb_entries.proofs.Common.{List, [], ◌∷◌, length, arith, sym, ap, ◌∙◌, subst, RunValue, AreApart, runs_of_map, values_of, runs_back}
use Rattle.nb_entries.proofs.cover.runs.Runs.count.Invariants.{FewTo}
use Rattle.nb_entries.proofs.cover.runs.Runs.count.Goals as goal

few_none : (rs : List RunValue) → FewTo 0 rs
few_none [] = tt
few_none (r ∷ rs) = omega arith

pub loop-run-init : goal.loop-run-init
loop-run-init c =
    let order = ap values_of (c.into_iter-run-iterator.ensures.into_iter_gives ∙ c.of-run-items.ensures) in
    let same = ap length (order ∙ sym (runs_back _ c.self.invariant.1) ∙ ap runs_of_map c.self.view_is) in
    record { apart = subst AreApart (sym order) c.self.invariant.1; few = few_none _; left = omega (arith, same) }
