use Rattle.nbt_reassembly.proofs.Common.{ap, sym, fault_of_join}
use Rattle.nbt_reassembly.proofs.JoinedLemmas.{join_fails}
use Rattle.nbt_reassembly.proofs.tables.join_tables.Goals as goal

pub returns-in-Err-default-Full-clause-fault : goal.returns-in-Err-default-Full-clause-fault
returns-in-Err-default-Full-clause-fault c =
    join_fails _ _ _ c.in-Err-default-Full.field-0-1 _ c.in-Err-default-Full.ensures.fault c.in-Err-default-Full.ensures.before (sym (ap fault_of_join c.in-Err-default-Full.field-0-1-is))

pub returns-in-Err-default-NoMemory-clause-fault : goal.returns-in-Err-default-NoMemory-clause-fault
returns-in-Err-default-NoMemory-clause-fault c =
    join_fails _ _ _ c.in-Err-default-NoMemory.field-0-1 _ c.in-Err-default-NoMemory.ensures.fault c.in-Err-default-NoMemory.ensures.before (sym (ap fault_of_join c.in-Err-default-NoMemory.field-0-1-is))

pub returns-in-Err-default-TooLong-clause-fault : goal.returns-in-Err-default-TooLong-clause-fault
returns-in-Err-default-TooLong-clause-fault c =
    join_fails _ _ _ c.in-Err-default-TooLong.field-0-1 _ c.in-Err-default-TooLong.ensures.fault c.in-Err-default-TooLong.ensures.before (sym (ap fault_of_join c.in-Err-default-TooLong.field-0-1-is))

pub returns-in-Err-default-FullSource-clause-fault : goal.returns-in-Err-default-FullSource-clause-fault
returns-in-Err-default-FullSource-clause-fault c =
    join_fails _ _ _ c.in-Err-default-FullSource.field-0-1 _ c.in-Err-default-FullSource.ensures.fault c.in-Err-default-FullSource.ensures.before (sym (ap fault_of_join c.in-Err-default-FullSource.field-0-1-is))
