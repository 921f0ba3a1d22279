use Rattle.nb_entries.proofs.Common.{◌+◌, ◌∙◌, ap, max, min, length, value_of, run_at}
use Rattle.nb_entries.proofs.KeptRuns.RunReadLemmas.{agrees_is}
use Rattle.nb_entries.proofs.cover.runs.reading.agrees.Goals as goal

pub returns : goal.returns
returns c =
    agrees_is (value_of c.args.run.now) (run_at c.args.start c.args.bytes.now) c.max-from.result c.min-to.result c.bytes.result.now c.eq.result c.bytes.ensures (c.max-from.ensures ∙ ap (λ n. max n c.args.start) c.start-own.ensures)
    (c.min-to.ensures ∙ ap (λ n. min n (c.args.start + length c.args.bytes.now)) c.end.ensures) (rw c.start-own.ensures at c.eq.ensures)
