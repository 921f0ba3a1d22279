use Rattle.nb_entries.proofs.Common.{length, subst, arith, refl, StartsPast, values_of}
use Rattle.nb_entries.proofs.KeptRuns.RowsLemmas.{rows_after, none_after}
use Rattle.nb_entries.proofs.cover.runs.inserting.rows_to.Goals as goal

pub returns-then-starts_after-clause-after : goal.returns-then-starts_after-clause-after
returns-then-starts_after-clause-after c =
    rows_after c.args.rows.now c.args.place c.loop-index.index c.index-rows-index.result c.requires.some c.requires.apart (omega (arith, c.loop-index-test.true)) c.index-rows-index.is
    (subst (λ xs. StartsPast c.args.place (values_of xs)) c.deref.ensures.value (c.if-starts_after.ensures refl))

pub returns-clause-after : goal.returns-clause-after
returns-clause-after c = none_after c.args.rows.now c.args.place (length c.args.rows.now) (omega arith)
