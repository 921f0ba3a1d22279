use Rattle.std.proofs.Common.{◌≡◌, ◌++◌, drop, map, take}
use Rattle.nb_survey.specs.Queries.{taken}
use Rattle.nb_survey.proofs.query.take_each.Given as goal

abbrev pub invariant-queries : goal.invariant-queries
invariant-queries l = l.queries.items ≡ map (taken l.turn l.heard) (take l.place l.fn.queries.items) ++ drop l.place l.fn.queries.items
