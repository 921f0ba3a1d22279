use Rattle.nbt_reassembly.proofs.SavingTurns.{payload_full, payload_full_source, payload_memory}
use Rattle.nbt_reassembly.proofs.save.take_payload.Goals as goal

pub returns-in-Err-Table-FullSource-clause-stops : goal.returns-in-Err-Table-FullSource-clause-stops
returns-in-Err-Table-FullSource-clause-stops c =
    let f = c.in-Err-Table-FullSource in
    payload_full_source _ _ _ _ _ f.field-0-0-0 c.hold.ensures.refused (cc (f.is, f.field-0-is, f.field-0-0-is))

pub returns-in-Err-Table-Full-clause-stops : goal.returns-in-Err-Table-Full-clause-stops
returns-in-Err-Table-Full-clause-stops c =
    let f = c.in-Err-Table-Full in
    payload_full _ _ _ _ _ f.field-0-0-0 c.hold.ensures.refused (cc (f.is, f.field-0-is, f.field-0-0-is))

pub returns-in-Err-Table-NoMemory-clause-stops : goal.returns-in-Err-Table-NoMemory-clause-stops
returns-in-Err-Table-NoMemory-clause-stops c =
    let f = c.in-Err-Table-NoMemory in
    payload_memory _ _ _ _ _ c.hold.ensures.refused (cc (f.is, f.field-0-is, f.field-0-0-is))
