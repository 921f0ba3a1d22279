use Rattle.nb_calls.proofs.Common.{◌∙◌, sym, true≢false, same, differs}
use Rattle.nb_calls.proofs.tables.narrowed.Goals as goal

pub returns-then-same_at : goal.returns-then-same_at
returns-then-same_at c = same (c.same_at.ensures.0 c.if-same_at.true)

pub returns-in-None : goal.returns-in-None
returns-in-None c = rw c.in-None.is (differs (λ is. absurd (true≢false (sym (c.same_at.ensures.1 is) ∙ c.if-same_at.false))))

pub returns-in-Some : goal.returns-in-Some
returns-in-Some c = rw (c.in-Some.is, c.min.ensures) (differs (λ is. absurd (true≢false (sym (c.same_at.ensures.1 is) ∙ c.if-same_at.false))))
