use Rattle.nb_names.proofs.PushingLemmas.{plain_behind}
use Rattle.std.proofs.Common.{◌∙◌, sym}
use Rattle.nb_names.proofs.text_writing.add_plain.Goals as goal

pub returns-clause-ascii : goal.returns-clause-ascii
returns-clause-ascii c plain was = plain_behind c.args.row.now.items c.args.byte _ (sym c.is_plain.ensures ∙ c.if-not-is_plain.false) was c.push.ensures.items
