use Rattle.nb_table.proofs.Common.{refl, ap, Second, entries_bytes, keyed_bytes}
use Rattle.nb_entries.specs.Shared.PuttingLemmas.{told, stop}
use Rattle.nb_table.proofs.saved.entries.put_entries.Goals as goal

pub returns-in_err-put_entry-clause-puts : goal.returns-in_err-put_entry-clause-puts
returns-in_err-put_entry-clause-puts g c =
    let first = keyed_bytes Second (c.in-Some.key.now, c.in-Some.entry.now) in
    let laws = g.met.S.ByteSink.laws in
    let left = told laws _ _ (ap (entries_bytes Second) c.in-Some.ensures.steps) c.loop-key.invariant.left in
    stop laws first (entries_bytes Second c.next.new.self) left refl c.in_err-put_entry.ensures.puts _ c.from_residual.result c.from_residual.ensures.1
