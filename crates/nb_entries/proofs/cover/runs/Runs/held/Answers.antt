use Rattle.nb_entries.proofs.Common.{arith, ap, ◌∙◌, held_in, values_of}
use Rattle.std.specs.FinMap as maps
use Rattle.nb_entries.proofs.Runs.{held-runs}
use Rattle.nb_entries.proofs.cover.runs.Runs.held.Goals as goal

pub loop-run-init : goal.loop-run-init
loop-run-init c =
    let order = ap (λ rs. held_in (values_of rs)) (c.into_iter-run-iterator.ensures.into_iter_gives ∙ c.of-run-items.ensures) in
    let same = order ∙ held-runs _ c.self.invariant.1 ∙ ap (maps.len {X = _}) c.self.view_is in omega (arith, same)
