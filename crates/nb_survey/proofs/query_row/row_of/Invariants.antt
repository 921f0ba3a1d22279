use Rattle.std.proofs.Common.{◌≡◌, take}
use Rattle.nb_survey.specs.QueryRows.{row_of}
use Rattle.nb_survey.proofs.query_row.row_of.Given as goal

abbrev pub invariant-queries : goal.invariant-queries
invariant-queries l = l.row ≡ row_of l.query (take l.other-index l.queries)
