use Rattle.nb_member.proofs.FieldLemmas.{result_members, passed_members, dropped_members, key_members}
use Rattle.nb_member.proofs.laws.fields_are_members.Goals as goal

pub returns : goal.returns
returns c = record { results = result_members; passed = passed_members; dropped = dropped_members; keys = key_members }
