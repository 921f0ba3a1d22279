use Rattle.nb_entries.proofs.Common.{refl, after, broken}
use Rattle.nb_entries.proofs.cover.CoverFacts.put_to.Goals as goal

pub returns-in_err-put_marks : goal.returns-in_err-put_marks
returns-in_err-put_marks g c =
    rw (← c.self.view_is) (broken g.met.S.ByteSink.laws _ refl c.in_err-put_marks.ensures _ _ c.from_residual.ensures.1)

pub returns : goal.returns
returns g c = rw (← c.self.view_is) (after g.met.S.ByteSink.laws _ _ refl c.in_ok-put_marks.ensures _ c.put_to.ensures)
