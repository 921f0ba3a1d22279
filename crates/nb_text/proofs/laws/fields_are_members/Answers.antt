use Rattle.nb_text.proofs.FormFields.{fields_members}
use Rattle.nb_text.proofs.laws.fields_are_members.Goals as goal

pub returns : goal.returns
returns c = fields_members
