use Rattle.nb_text.proofs.FormFields.{told_members}
use Rattle.nb_text.proofs.laws.fronts_are_members.Goals as goal

pub returns : goal.returns
returns c = told_members
