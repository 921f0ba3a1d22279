use Rattle.std.proofs.Common.{◌∙◌, ap, arith, slice_set}
use Rattle.std.proofs.lemmas.List.Edits.{map_over_more}
use Rattle.nb_survey.specs.Queries.{taken}
use Rattle.nb_survey.proofs.query.take_each.Goals as goal

pub queries-preserved : goal.queries-preserved
queries-preserved c =
    ap (slice_set c.queries.queries.items c.queries.place) c.taken.ensures
    ∙ map_over_more (taken c.args.turn c.args.heard.now) c.args.queries.now.items c.queries.queries.items c.queries.place c.index.result.now
    (omega (arith, c.queries-test.true, c.len-place-end.ensures)) c.queries.invariant c.index.ensures
