-- How a command ends that prints the lines of a capture.
use Rattle.nbt_command.proofs.Common.{◌≡◌, ℕ, Result, Err, Counts, ShowsWriteFault, Fault, Read, Write}
use Rattle.nb_capture.specs.declared.fault.PrintFault.{PrintFault}
use Rattle.nb_capture.specs.declared.fault.PrintFault.TheVariants as printing
use Rattle.nbt_command.specs.Reported.{of_printing}

-- a fault in reading is one of the printing in reading
pub ends_unread : (X : Type 0) (answer : Result ℕ PrintFault) (why : PrintFault) → (answer ≡ Err printing.Read → X) → answer ≡ Err why
    → ◌≡◌ {A = Result Unit Fault} (Err (of_printing why)) (Err Read) → X
ends_unread X answer (printing.Line n) cut is unread = absurd (cc unread)
ends_unread X answer printing.Read cut is unread = cut is
ends_unread X answer printing.Write cut is unread = absurd (cc unread)
ends_unread X answer printing.NoMemory cut is unread = absurd (cc unread)

-- a write is at fault only where the calls of the output show it
pub ends_written : (answer : Result ℕ PrintFault) (why : PrintFault) (writes after : Counts) → (answer ≡ Err printing.Write → ShowsWriteFault writes after) → answer ≡ Err why
    → of_printing why ≡ Write → ShowsWriteFault writes after
ends_written answer (printing.Line n) writes after shows is write = absurd (cc write)
ends_written answer printing.Read writes after shows is write = absurd (cc write)
ends_written answer printing.Write writes after shows is write = shows is
ends_written answer printing.NoMemory writes after shows is write = absurd (cc write)
