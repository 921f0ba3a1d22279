use Rattle.nb_c.proofs.names.nbt_name_spell.Goals as goal

pub returns : goal.returns
returns c = (_, (_, c.name_of_text.ensures, c.spelling_of.ensures), c.write_answer.ensures)
