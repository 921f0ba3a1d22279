use Rattle.nbt_usage.proofs.Common.{◌≡◌, take, fold, App, app_of}
use Rattle.nbt_usage.specs.Code.CommandForms.{with_form}
use Rattle.nbt_usage.proofs.command_line.with_commands.Given as goal

abbrev pub invariant-loop-form : goal.invariant-loop-form
invariant-loop-form l = (app : App) → app_of l.fn.command ≡ app → app_of l.command ≡ fold with_form app (take l.form-index l.forms)
