use Rattle.nb_datagram.specs.Fronts.{no_name, source_alone, both_names}
use Rattle.nb_datagram.proofs.front.read_names.Goals as goal

pub returns-in_default : goal.returns-in_default
returns-in_default c = no_name _ c.in_default.ensures.fault

pub returns-in-Ok-read_lent_name : goal.returns-in-Ok-read_lent_name
returns-in-Ok-read_lent_name c =
    both_names c.in-Ok.source c.in-Ok-read_lent_name.destination c.in-Ok.next c.in-Ok-read_lent_name.field-0-1 c.in-Ok.ensures.name.0 c.in-Ok-read_lent_name.ensures.name.0
    c.in-Ok.ensures.found c.in-Ok-read_lent_name.ensures.found

pub returns-in-Err : goal.returns-in-Err
returns-in-Err c = source_alone c.in-Ok.source c.in-Ok.next _ c.in-Ok.ensures.name.0 c.in-Ok.ensures.found c.in-Err.ensures.fault
