use Rattle.nb_member.proofs.DeliveryLemmas.Answered.{answer_delivers, answer_errs}
use Rattle.nb_member.proofs.laws.an_answer_shows_what_is_handed_out.Goals as goal

pub returns : goal.returns
returns c = record { delivery = answer_delivers; error = answer_errs }
