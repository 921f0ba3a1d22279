use Rattle.nb_calls.proofs.Common.{◌-◌, ◌≤◌}
use Rattle.nb_calls.proofs.EntryLemmas.{Filling}
use Rattle.nb_calls.proofs.service_entries.fill_entries_by.Given as goal

abbrev pub invariant-entries : goal.invariant-entries
invariant-entries l = Filling l.names l.number l.place l.fn.into l.count l.at l.into × (l.count ≤ l.room)

abbrev pub decreases-entries : goal.decreases-entries
decreases-entries l = l.room - l.count
