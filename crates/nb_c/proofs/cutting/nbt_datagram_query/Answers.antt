use Rattle.nb_c.proofs.cutting.nbt_datagram_query.Goals as goal

pub returns : goal.returns
returns c = rw (← c.key_from-key.ensures) (_, (_, c.name_of_text.ensures, c.query_of-answer.ensures), c.write_answer.ensures)
