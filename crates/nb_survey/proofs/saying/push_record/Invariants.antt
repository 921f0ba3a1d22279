use Rattle.std.proofs.Common.{◌≡◌, ◌++◌, take, map}
use Rattle.nb_survey.specs.Sayings.{of_entry}
use Rattle.nb_survey.proofs.saying.push_record.Given as goal

abbrev pub invariant-entries : goal.invariant-entries
invariant-entries l = l.said.items ≡ l.fn.said.items ++ map (of_entry l.heard l.name l.word) (take l.each-index l.heard.entries.items)
