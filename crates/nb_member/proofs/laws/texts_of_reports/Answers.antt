use Rattle.std.proofs.Common.{rules}
use Rattle.nb_member.proofs.FieldLemmas.{parts_same, result_same, dropped_same}
use Rattle.nb_member.proofs.laws.texts_of_reports.Goals as goal

pub returns : goal.returns
returns c = record { results = result_same; parts = parts_same; passed = search rules; dropped = dropped_same }
