use Rattle.nb_session.proofs.CuttingLemmas.{one_cut}
use Rattle.nb_session.proofs.TotalityLemmas.{all_cut}
use Rattle.nb_session.proofs.laws.one_cut.Goals as goal

pub returns-clause-some : goal.returns-clause-some
returns-clause-some c = all_cut

pub returns-clause-one : goal.returns-clause-one
returns-clause-one c = one_cut
