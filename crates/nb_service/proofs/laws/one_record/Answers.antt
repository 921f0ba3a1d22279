use Rattle.nb_service.proofs.ItemLemmas.{one_record, record_no_fault}
use Rattle.nb_service.proofs.laws.one_record.Goals as goal

pub returns-clause-one : goal.returns-clause-one
returns-clause-one c = one_record

pub returns-clause-alone : goal.returns-clause-alone
returns-clause-alone c bytes at fault item next fails stands = record_no_fault bytes at item next fault stands fails
