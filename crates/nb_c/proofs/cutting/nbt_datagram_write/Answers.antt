use Rattle.nb_c.proofs.cutting.nbt_datagram_write.Goals as goal

pub returns : goal.returns
returns c = (_, (_, _, c.name_of_text-source.ensures, c.name_of_text-destination.ensures, c.packets-answer.ensures), c.write_answer.ensures)
