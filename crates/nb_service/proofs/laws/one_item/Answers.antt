use Rattle.nb_service.proofs.NumberedLemmas.{item_no_fault, one_item_fault}
use Rattle.nb_service.proofs.laws.one_item.Goals as goal

pub returns-clause-alone : goal.returns-clause-alone
returns-clause-alone c bytes header number at fault item next fails stands = item_no_fault bytes header number at item next fault stands fails

pub returns-clause-one_fault : goal.returns-clause-one_fault
returns-clause-one_fault c = one_item_fault
