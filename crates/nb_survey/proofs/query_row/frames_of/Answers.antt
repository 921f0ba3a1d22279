use Rattle.std.proofs.Common.{◌∙◌}
use Rattle.nb_survey.proofs.FailedLemmas.{frames_turn}
use Rattle.nb_survey.proofs.query_row.frames_of.Goals as goal

pub queries-preserved : goal.queries-preserved
queries-preserved c =
    c.in_ok-push_frames.ensures
    ∙ frames_turn c.args.query.now c.args.queries.now c.queries.other-index _ c.queries.frames.items c.queries.invariant c.queries-test.true
