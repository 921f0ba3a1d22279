use Rattle.nbt_usage.proofs.Common.{◌≡◌, take, fold, app_of, false}
use Rattle.clap.specs.declared.builder.command.Command.TheViews.{out-Command as fields_of}
use Rattle.nbt_usage.specs.Code.CommandForms.{with_argument}
use Rattle.nbt_usage.proofs.command_line.with_arguments.Given as goal

abbrev pub invariant-loop-argument : goal.invariant-loop-argument
invariant-loop-argument l = record {
  app : app_of l.command ≡ fold with_argument (app_of l.fn.command) (take l.argument-index l.arguments);
  local : (fields_of l.fn.command).has_globals ≡ false → (fields_of l.command).has_globals ≡ false;
}
