use Rattle.nb_names.proofs.PartsLemmas.{only_name}
use Rattle.nb_names.proofs.text_reading.name_from_bytes.Goals as goal

pub returns-clause-only : goal.returns-clause-only
returns-clause-only c =
    only_name c.args.text.now c.name_within_limits.result _ c.ok_or.result c.ok_or.ensures.value c.name_within_limits.ensures.found c.name_within_limits.ensures.none
