use Rattle.nb_building.proofs.MarkLemmas.{parts_from_call}
use Rattle.nb_building.proofs.arguments.parts.Goals as goal

pub returns : goal.returns
returns c = parts_from_call c.args.mark c.args.place c.args.text.now c.split_once.result c.ok_or.result c.requires c.ok_or.ensures.value c.split_once.ensures.byte
