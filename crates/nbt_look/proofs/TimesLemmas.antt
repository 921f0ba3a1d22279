-- Dates and times of day.
use Rattle.std.proofs.Common.{◌≡◌, ◌∙◌, ℕ, List, false, Some, pos}
use Rattle.jiff_core.specs.declared.timestamp.Timestamp.{Timestamp}
use Rattle.jiff_fmt.specs.declared.temporal.printer.DateTimePrinter.{DateTimePrinter}
use Rattle.jiff_fmt.specs.Printer.{IsTimestampText}
use Rattle.nbt_look.specs.Times.{IsUtc}

-- what a printer with these options writes of an instant
pub utc_from : (printer : DateTimePrinter) (instant : Timestamp) (at : ℕ) (said : List ℕ) → printer.lowercase ≡ false → printer.separator ≡ 84
    → printer.precision ≡ Some 6 → instant.nanosecond ≡ pos at → IsTimestampText printer instant said → IsUtc at said
utc_from printer instant at said low between places is text = (text.0, text.1 ∙ is, rw (low, between, places) at text.2)
