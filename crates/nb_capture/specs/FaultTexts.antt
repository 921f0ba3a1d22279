-- The texts of faults (our choice).
use Rattle.std.specs.Prelude.{ℕ, List, ◌++◌, codes}
use Rattle.std.specs.Fmt.{decimal}
use Rattle.nb_capture.specs.declared.fault.LineFault.{LineFault}
use Rattle.nb_capture.specs.declared.fault.LineFault.TheVariants.{BadLine, NoMemory}
use Rattle.nb_capture.specs.declared.fault.PrintFault.{PrintFault}
use Rattle.nb_capture.specs.declared.fault.PrintFault.TheVariants as printing

-- the text of a line's fault
abbrev pub line_fault_text : LineFault → List ℕ
line_fault_text BadLine = codes "bad line"
line_fault_text NoMemory = codes "memory"

-- the text of the fault for which not all lines are printed
abbrev pub print_fault_text : PrintFault → List ℕ
print_fault_text (printing.Line n) = codes "line " ++ decimal n
print_fault_text printing.Read = codes "read"
print_fault_text printing.Write = codes "write"
print_fault_text printing.NoMemory = codes "memory"
