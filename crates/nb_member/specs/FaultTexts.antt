-- The texts of faults (our choice).
use Rattle.std.specs.Prelude.{ℕ, List, codes, Option, None}
use Rattle.nb_member.specs.declared.local_names.AddFault.{AddFault}
use Rattle.nb_member.specs.declared.local_names.AddFault.TheVariants as adding
use Rattle.nb_datagram.specs.FaultTexts.{datagram_fault_place, datagram_fault_text}
use Rattle.nb_table.specs.FaultTexts.{table_fault_text}
use Rattle.nb_member.specs.declared.outcome.MemberFault.{MemberFault}
use Rattle.nb_member.specs.declared.outcome.MemberFault.TheVariants.{Packet, Table}

-- the text of the fault of a name that isn't added
abbrev pub add_fault_text : AddFault → List ℕ
add_fault_text adding.Present = codes "present"
add_fault_text adding.TooMany = codes "too many names"
add_fault_text adding.NoMemory = codes "memory"

-- the text of the fault of a payload that is refused: that of the packet's or the table's fault
abbrev pub member_fault_text : MemberFault → List ℕ
member_fault_text (Packet fault error) = datagram_fault_text fault
member_fault_text (Table fault) = table_fault_text fault

-- its place, the number with which the text ends; a table's fault has none
abbrev pub member_fault_place : MemberFault → Option ℕ
member_fault_place (Packet fault error) = datagram_fault_place fault
member_fault_place (Table fault) = None
