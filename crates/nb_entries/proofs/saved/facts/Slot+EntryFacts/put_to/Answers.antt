use Rattle.nb_entries.proofs.Common.{refl, after, broken}
use Rattle.nb_entries.proofs.saved.facts.Slot+EntryFacts.put_to.Goals as goal

pub returns-in_err-put-in-Held-clause-puts : goal.returns-in_err-put-in-Held-clause-puts
returns-in_err-put-in-Held-clause-puts g c =
    rw c.in-Held.is (broken g.met.S.ByteSink.laws _ refl c.in_err-put-in-Held.ensures _ _ c.from_residual.ensures.1)

pub returns-in_ok-put-in-Held-clause-puts : goal.returns-in_ok-put-in-Held-clause-puts
returns-in_ok-put-in-Held-clause-puts g c = rw c.in-Held.is (after g.met.S.ByteSink.laws _ _ refl c.in_ok-put-in-Held.ensures _ c.put_to.ensures.puts)
