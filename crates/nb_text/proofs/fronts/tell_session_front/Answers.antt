use Rattle.std.proofs.Common.{[], refl}
use Rattle.nb_text.specs.TellsFront.{session}
use Rattle.nb_text.proofs.fronts.tell_session_front.Goals as goal

pub returns-in-Whole-clause-told : goal.returns-in-Whole-clause-told
returns-in-Whole-clause-told g c port a b = ([], session port _ _ a b c.in-Whole.ensures.stands, refl)
