use Rattle.nb_pcap.proofs.StepLemmas.{read_full, read_ok, read_failed, read_no_memory}
use Rattle.nb_pcap.proofs.part_reading.read_once.Goals as goal

pub returns-then-is_full : goal.returns-then-is_full
returns-then-is_full g c = read_full _ _ _ (c.is_full.ensures.0 c.if-is_full.true)

pub returns-in-Ok : goal.returns-in-Ok
returns-in-Ok g c = read_ok _ _ _ _ _ _ _ c.in-Ok.ensures

pub returns-in-Err-Read : goal.returns-in-Err-Read
returns-in-Err-Read g c =
    read_failed _ _ _ _ _ _ (λ full. let is = c.is_full.ensures.1 full in absurd (cc)) (rw c.in-Err-Read.field-0-is at c.in-Err-Read.ensures)

pub returns-in-Err-NoMemory : goal.returns-in-Err-NoMemory
returns-in-Err-NoMemory g c = read_no_memory _ _ _ _ _ _ (rw c.in-Err-NoMemory.field-0-is at c.in-Err-NoMemory.ensures)
