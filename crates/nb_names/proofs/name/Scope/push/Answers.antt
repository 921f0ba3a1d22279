use Rattle.nb_names.proofs.SpellingLemmas.{IsScope-pushed}
use Rattle.nb_names.proofs.name.Scope.push.Goals as goal

pub invariant_of-self : goal.invariant_of-self
invariant_of-self c = IsScope-pushed _ _ _ _ c.push_within.ensures c.self.invariant
