use Rattle.nb_entries.proofs.Common.{ap, ◌∙◌, bytes_agree, places_of, values_of}
use Rattle.nb_entries.proofs.KeptRuns.RunMapLemmas.{agree_at, agree_each}
use Rattle.nb_entries.proofs.cover.runs.Runs.agree_all.Goals as goal

pub loop-run-init : goal.loop-run-init
loop-run-init c =
    ap (λ rs. agree_at c.args.self.now (places_of (values_of rs))) (c.into_iter-run-iterator.ensures.into_iter_gives ∙ c.of-run-items.ensures)
    ∙ agree_each c.args.self.now _ c.other.invariant.1 ∙ ap (bytes_agree c.args.self.now) c.other.view_is
