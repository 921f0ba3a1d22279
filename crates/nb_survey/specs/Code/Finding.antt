-- What the code has found in the records of a packet so far.
use Rattle.std.specs.Prelude.{◌≡◌, ℕ, nat_lt, Bool, not, List, Option, length}
use Rattle.std.specs.List.{flat_map}
use Rattle.nb_service.specs.Header.{PacketHeader}
use Rattle.nb_service.specs.Items.{PacketItem, HasItems}
use Rattle.nb_service.specs.Record.{ResourceRecord}
use Rattle.nb_service.specs.ServiceFaults.{item_count}
use Rattle.nb_survey.specs.declared.hearing.Found.{Found}
use Rattle.nb_survey.specs.Hearing.{first_of, listed_in, operation_in, own_entries, own_ttl, records_in}

-- HasFound name found records: this is what these records have of a packet about this name
pub record HasFound (name : Option (List (List ℕ))) (found : Found) (records : List ResourceRecord) : Type 0 where
  pub ttl : found.ttl ≡ first_of (own_ttl name) records
  pub entries : found.entries.items ≡ flat_map (own_entries name) records
  pub listed : found.listed.items ≡ flat_map listed_in records
  pub waits_for : found.waits_for ≡ first_of operation_in records

-- Finds payload header name found is_whole: this is what the records of a payload have that stand whole, and whether all of its items do
pub record Finds (payload : List ℕ) (header : PacketHeader) (name : Option (List (List ℕ))) (found : Found) (is_whole : Bool) : Type 0 where
  pub items : List PacketItem
  pub next : ℕ
  pub stands : HasItems payload header items next
  pub whole : is_whole ≡ not (nat_lt (length items) (item_count header))
  pub has : HasFound name found (records_in items)
