-- What the program reports where a call of a library refuses (our choice).
use Rattle.nb_building.specs.declared.build_fault.BuildFault.{BuildFault}
use Rattle.nb_building.specs.declared.build_fault.BuildFault.TheVariants as built
use Rattle.nb_capture.specs.declared.fault.CaptureFault.{CaptureFault}
use Rattle.nb_capture.specs.declared.fault.CaptureFault.TheVariants as captures
use Rattle.nb_capture.specs.declared.fault.PrintFault.{PrintFault}
use Rattle.nb_capture.specs.declared.fault.PrintFault.TheVariants as printing
use Rattle.nb_streams.specs.declared.hexadecimal.DigitsFault.{DigitsFault}
use Rattle.nb_streams.specs.declared.hexadecimal.DigitsFault.TheVariants as digits
use Rattle.nbt_command.specs.declared.fault.Fault.{Fault}
use Rattle.nbt_command.specs.declared.fault.Fault.TheVariants.{Build, BadHex, Line, Read, Write, Memory}

-- of words that name no packet
abbrev pub of_building : BuildFault → Fault
of_building built.Memory = Memory
of_building fault = Build fault

-- of a text that isn't hexadecimal
abbrev pub of_digits : DigitsFault → Fault
of_digits digits.BadDigits = BadHex
of_digits digits.NoMemory = Memory

-- of a capture whose lines weren't all taken
abbrev pub of_capture : CaptureFault → Fault
of_capture (captures.Line n) = Line n
of_capture captures.Read = Read
of_capture captures.NoMemory = Memory

-- of a capture whose lines weren't all printed
abbrev pub of_printing : PrintFault → Fault
of_printing (printing.Line n) = Line n
of_printing printing.Read = Read
of_printing printing.Write = Write
of_printing printing.NoMemory = Memory
