use Rattle.std.proofs.Common.{◌∙◌, sym, []}
use Rattle.nb_survey.proofs.RowLemmas.{row_from-more}
use Rattle.nb_survey.proofs.row.Row.first.Goals as goal

pub returns : goal.returns
returns c = c.after.ensures ∙ sym (row_from-more c.args.said.now.facts.frame.number [] c.args.said.now)
