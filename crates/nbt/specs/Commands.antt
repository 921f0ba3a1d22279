-- The command that the matches of clap name, and how it ended (our choice).
use Rattle.std.specs.Prelude.{◌≡◌, ℕ, List, Result, Ok, Err, codes}
use Rattle.std.specs.Io.KnownBytes.{Keeps}
use Rattle.clap.specs.Words.{Text, subcommand_name_of, subcommand_of, subcommand_rows_of}
use Rattle.clap.specs.declared.parser.matches.ArgMatches.{ArgMatches}
use Rattle.nbt_command.specs.declared.fault.Fault.{Fault}
use Rattle.nbt_command.specs.declared.fault.Fault.TheVariants.{Arguments}
use Rattle.nbt_command.specs.declared.fault.Status.{Status}
use Rattle.nbt_command.specs.declared.fault.Status.TheVariants.{Done, Failed}
use Rattle.nbt_command.specs.FaultTexts.{status_after}
use Rattle.nbt_command.specs.Streams.{Streams}
use Rattle.nbt_packets.specs.Commands.{BuildCommand, NameCommand, ShowCommand}
use Rattle.nbt_reassembly.specs.Commands.{AgreeCommand, ListCommand, MergeCommand, ReplayCommand, SaveCommand}
use Rattle.nbt_usage.specs.CommandLine.{IsCommand, Picks, nbt_app}

-- the status of a command that is done where it has no fault
abbrev pub with_status : {A : Type 0} → Result A Fault → Result Status Fault
with_status (Ok done) = Ok Done
with_status (Err fault) = Err fault

-- Ended matches s outcome: the command that the matches name ended so
pub data Ended (matches : ArgMatches) (s : Streams) : Result Status Fault → Type 0 where
  name : (inner : ArgMatches) (r : Result Unit Fault) → Picks matches (codes "name") inner → NameCommand inner s r → Ended matches s (with_status r)
  show : (inner : ArgMatches) (r : Result Unit Fault) → Picks matches (codes "show") inner → ShowCommand inner s r → Ended matches s (with_status r)
  build : (inner : ArgMatches) (r : Result Unit Fault) → Picks matches (codes "build") inner → BuildCommand inner s r → Ended matches s (with_status r)
  replay : (inner : ArgMatches) (r : Result Unit Fault) → Picks matches (codes "replay") inner → ReplayCommand inner s r → Ended matches s (with_status r)
  save : (inner : ArgMatches) (r : Result ℕ Fault) → Picks matches (codes "save") inner → SaveCommand inner s r → Ended matches s (with_status r)
  merge : (inner : ArgMatches) (r : Result Unit Fault) → Picks matches (codes "merge") inner → MergeCommand inner s r → Ended matches s (with_status r)
  list : (inner : ArgMatches) (r : Result Unit Fault) → Picks matches (codes "list") inner → ListCommand inner s r → Ended matches s (with_status r)
  agree : (inner : ArgMatches) (r : Result Status Fault) → Picks matches (codes "agree") inner → AgreeCommand inner s r → Ended matches s r
  other : ¬ IsCommand (subcommand_name_of matches) → Keeps s.old_in s.new_in → Keeps s.old_out s.new_out → Ended matches s (Err Arguments)

-- EndedBy words s status: the command that clap takes the words for ended with this status, or memory ran out before it, and
-- nothing was read or printed
pub data EndedBy (words : List Text) (s : Streams) (status : Status) : Type 0 where
  no_memory : status ≡ Failed → Keeps s.old_in s.new_in → Keeps s.old_out s.new_out → EndedBy words s status
  ended : (matches : ArgMatches) (outcome : Result Status Fault) → subcommand_rows_of matches ≡ subcommand_of nbt_app words
      → Ended matches s outcome → status ≡ status_after outcome → EndedBy words s status
