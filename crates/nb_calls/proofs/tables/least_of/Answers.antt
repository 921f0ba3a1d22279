use Rattle.nb_calls.proofs.DifferLemmas.{narrows_on, narrowed_all}
use Rattle.nb_calls.proofs.tables.least_of.Goals as goal

pub loop-key-preserved : goal.loop-key-preserved
loop-key-preserved c = narrows_on _ _ _ _ _ _ _ _ _ c.in-Some.ensures.steps c.narrowed-least.ensures c.loop-key.invariant

pub returns : goal.returns
returns c = narrowed_all _ _ _ _ _ _ c.in-None.ensures.steps.0 c.loop-key.invariant
