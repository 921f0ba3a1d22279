use Rattle.nb_names.proofs.text_reading.name_from_text.Goals as goal

pub returns-clause-fault : goal.returns-clause-fault
returns-clause-fault c = let same = c.as_bytes.ensures.value in rw same at c.name_from_bytes.ensures.fault
