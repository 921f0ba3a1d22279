use Rattle.nb_text.specs.SaysPacket.{IsSaid}
use Rattle.nb_text.specs.Shown.{Shown}
use Rattle.nb_text.specs.Tells.{IsObject}
use Rattle.nb_calls.proofs.CaptureLemmas.{one_line}
use Rattle.nb_calls.proofs.ObjectLemmas.{one_made, one_object}
use Rattle.nb_calls.proofs.laws.answers.payloads_have_one_text.Goals as goal

pub returns-clause-text : goal.returns-clause-text
returns-clause-text c payload port = one_made (Shown payload port) (c.one_telling.ensures.text payload port)

pub returns-clause-phrase : goal.returns-clause-phrase
returns-clause-phrase c payload port = one_made (IsSaid payload port) (c.one_telling.ensures.phrase payload port)

pub returns-clause-object : goal.returns-clause-object
returns-clause-object c payload port =
    one_made (IsObject payload port) (one_object payload port (c.one_telling.ensures.fields payload port))

pub returns-clause-line : goal.returns-clause-line
returns-clause-line c line = one_line line (c.a_line_has_one_value.ensures.one line) (c.a_line_has_one_value.ensures.alone line)
