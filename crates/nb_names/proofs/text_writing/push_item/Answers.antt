use Rattle.std.proofs.Common.{◌∙◌, sym}
use Rattle.nb_names.proofs.PushingLemmas.{plain_one}
use Rattle.nb_names.proofs.text_writing.push_item.Goals as goal

pub push_ascii-requires : goal.push_ascii-requires
push_ascii-requires c = plain_one c.args.byte (sym c.is_plain.ensures ∙ c.if-is_plain.true)
