use Rattle.nb_streams.specs.Growth.{own_front, only_adds}
use Rattle.nb_streams.proofs.laws.what_only_adds_keeps_the_text.Goals as goal

pub returns-clause-kept : goal.returns-clause-kept
returns-clause-kept c old new adds = adds old (own_front old)

pub returns-clause-only : goal.returns-clause-only
returns-clause-only c old new front = only_adds old new front
