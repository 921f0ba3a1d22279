use Rattle.std.proofs.Common.{◌≡◌, take}
use Rattle.nb_survey.specs.QueryRows.{frames_of}
use Rattle.nb_survey.proofs.query_row.frames_of.Given as goal

abbrev pub invariant-queries : goal.invariant-queries
invariant-queries l = l.frames.items ≡ frames_of l.query (take l.other-index l.queries)
