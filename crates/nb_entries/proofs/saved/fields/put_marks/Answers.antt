use Rattle.nb_entries.proofs.Common.{refl, after, broken}
use Rattle.nb_entries.proofs.saved.fields.put_marks.Goals as goal

pub returns-in_err-put_end : goal.returns-in_err-put_end
returns-in_err-put_end g c = broken g.met.S.ByteSink.laws _ refl c.in_err-put_end.ensures _ _ c.from_residual.ensures.1

pub returns : goal.returns
returns g c = after g.met.S.ByteSink.laws _ _ refl c.in_ok-put_end.ensures _ c.put_end-2.ensures
