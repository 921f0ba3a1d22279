use Rattle.nb_capture.proofs.CaptureLemmas.LineValues.{one_value, not_blank}
use Rattle.nb_capture.proofs.laws.a_line_has_one_value.Goals as goal

pub returns-clause-one : goal.returns-clause-one
returns-clause-one c = λ line value other h k. one_value line value other h.says k.says

pub returns-clause-alone : goal.returns-clause-alone
returns-clause-alone c = λ line value h n. not_blank line value h.says n.blank
