use Rattle.std.proofs.Common.{◌≡◌, ◌+◌, ◌-◌, ◌*◌, ℕ, List, length}
use Rattle.nb_names.specs.DomainName.{spelling}
use Rattle.nb_names.proofs.ReadingLemmas.{IsReading}
use Rattle.nb_names.proofs.walking.walk.Given as goal

abbrev pub invariant-way : goal.invariant-way
invariant-way g l = (labels : List (List ℕ)) × IsReading l.packet l.pointers l.at labels l.start l.here l.next
    × (l.spelled ≡ length (spelling labels)) × g.T.Takes.has l.taken labels

abbrev pub decreases-way : goal.decreases-way
decreases-way g l = l.start * 256 + (256 - l.spelled)
