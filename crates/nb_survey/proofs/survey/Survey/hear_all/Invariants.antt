use Rattle.std.proofs.Common.{[], take}
use Rattle.nb_survey.specs.Sums.{IsBounded, Takes}
use Rattle.nb_survey.proofs.survey.Survey.hear_all.Given as goal

abbrev pub invariant-words : goal.invariant-words
invariant-words l = Takes l.fn.self l.self (take l.one-index l.said) [] × (IsBounded l.fn.self → IsBounded l.self)
