use Rattle.nbt_usage.proofs.Common.{rules}
use Rattle.std.specs.Fmt.{digits}
use Rattle.nbt_usage.proofs.command_line.arg_of.Goals as goal

pub returns-in-Keys-clause-rule : goal.returns-in-Keys-clause-rule
unfolding digits
returns-in-Keys-clause-rule c = search rules
