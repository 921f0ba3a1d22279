-- The texts of the program's faults, and the exit status of each (our choice). Numbers are decimal.
use Rattle.std.specs.Prelude.{ℕ, List, ◌++◌, codes, Result, Ok, Err}
use Rattle.std.specs.Fmt.{decimal}
use Rattle.nb_names.specs.FaultTexts.{name_fault_text}
use Rattle.nb_names.specs.TextFaults.{text_fault_text}
use Rattle.nb_entries.specs.FaultTexts.{load_fault_text}
use Rattle.nb_entries.specs.declared.saved.LoadFault.TheVariants as loads
use Rattle.nb_building.specs.FaultTexts.{build_fault_text}
use Rattle.nb_building.specs.declared.build_fault.BuildFault.TheVariants as builds
use Rattle.nbt_command.specs.declared.fault.Fault.{Fault}
use Rattle.nbt_command.specs.declared.fault.Fault.TheVariants.{Text, Name, BadHex, TrailingBytes, Build, Arguments, TooLong, Line, FullSource, Full, TooManyNames, Load, NoTables, TwoTablesWanted, Read, Write, Memory}
use Rattle.nbt_command.specs.declared.fault.Status.{Status}
use Rattle.nbt_command.specs.declared.fault.Status.TheVariants.{Refused, Failed}

-- what is reported of a fault, after `nbt: `
abbrev pub fault_text : Fault → List ℕ
fault_text (Text fault) = text_fault_text fault
fault_text (Name fault) = name_fault_text fault
fault_text BadHex = codes "bad hex"
fault_text (TrailingBytes at) = codes "trailing bytes " ++ decimal at
fault_text (Build fault) = build_fault_text fault
fault_text Arguments = codes "arguments"
fault_text TooLong = codes "too long"
fault_text (Line number) = codes "line " ++ decimal number
fault_text FullSource = codes "full source"
fault_text Full = codes "full"
fault_text TooManyNames = codes "too many names"
fault_text (Load fault) = load_fault_text fault
fault_text NoTables = codes "no tables"
fault_text TwoTablesWanted = codes "two tables wanted"
fault_text Read = codes "read"
fault_text Write = codes "write"
fault_text Memory = codes "memory"

-- the line of a fault
abbrev pub fault_line : Fault → List ℕ
fault_line fault = codes "nbt: " ++ (fault_text fault ++ codes "\n")

-- the exit status that goes with a fault: 3 where a device or memory failed
abbrev pub status_of : Fault → Status
status_of (Build builds.Memory) = Failed
status_of (Load loads.NoMemory) = Failed
status_of Read = Failed
status_of Write = Failed
status_of Memory = Failed
status_of _ = Refused

-- the exit status of a command that ended so
abbrev pub status_after : Result Status Fault → Status
status_after (Ok status) = status
status_after (Err fault) = status_of fault
