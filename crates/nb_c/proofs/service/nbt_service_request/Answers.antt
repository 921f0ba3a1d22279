use Rattle.nb_c.proofs.service.nbt_service_request.Goals as goal

pub returns : goal.returns
returns c = (_, (_, c.name_of_text.ensures, c.request_of.ensures), c.write_answer.ensures)
