use Rattle.std.proofs.Common.{◌∙◌}
use Rattle.nb_survey.proofs.FailedLemmas.{row_turn}
use Rattle.nb_survey.proofs.query_row.row_of.Goals as goal

pub queries-preserved : goal.queries-preserved
queries-preserved c =
    c.row_after-row.ensures ∙ row_turn c.args.query.now c.args.queries.now c.queries.other-index _ c.queries.row c.queries.invariant c.queries-test.true
