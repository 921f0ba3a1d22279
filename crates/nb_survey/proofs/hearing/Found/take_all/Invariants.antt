use Rattle.std.proofs.Common.{◌≡◌, ◌-◌, ◌≤◌, List, length}
use Rattle.nb_service.specs.declared.limits.TheConstants.{HEADER_LENGTH}
use Rattle.nb_service.specs.Header.{header_value}
use Rattle.nb_service.specs.Items.{PacketItem, ItemsAt}
use Rattle.nb_service.specs.ServiceFaults.{item_count}
use Rattle.nb_survey.specs.Code.Finding.{HasFound}
use Rattle.nb_survey.specs.Hearing.{records_in}
use Rattle.nb_survey.proofs.hearing.Found.take_all.Given as goal

abbrev pub invariant-items : goal.invariant-items
invariant-items l = (items : List PacketItem) × ItemsAt l.names (header_value l.header) 0 HEADER_LENGTH items l.at
    × (length items ≡ l.number) × (l.number ≤ item_count (header_value l.header)) × HasFound l.name l.self (records_in items)

abbrev pub decreases-items : goal.decreases-items
decreases-items l = item_count (header_value l.header) - l.number
