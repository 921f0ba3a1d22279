-- The exit statuses of the program (our choice): 0 done, 1 refused input, 2 a bad command line, 3 a device or
-- memory failed.
use Rattle.std.specs.Prelude.{ℕ}
use Rattle.nbt_command.specs.declared.fault.Status.{Status}
use Rattle.nbt_command.specs.declared.fault.Status.TheVariants.{Done, Refused, BadUsage, Failed}

-- the number of a status
abbrev pub code_of : Status → ℕ
code_of Done = 0
code_of Refused = 1
code_of BadUsage = 2
code_of Failed = 3
