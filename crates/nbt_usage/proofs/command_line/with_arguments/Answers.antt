use Rattle.nbt_usage.proofs.Common.{◌∙◌, ◌||◌, ap₂, sym, with_rule}
use Rattle.std.proofs.lemmas.List.Sums.{fold_more}
use Rattle.nbt_usage.specs.Code.CommandForms.{with_argument}
use Rattle.nbt_usage.proofs.command_line.with_arguments.Goals as goal

pub loop-argument-preserved : goal.loop-argument-preserved
loop-argument-preserved c = record {
  app =
      c.in_ok-command.ensures.shape c.arg_of.ensures.local
      ∙ ap₂ with_rule c.loop-argument.invariant.app c.arg_of.ensures.rule
      ∙ sym (fold_more with_argument _ c.args.arguments.now c.loop-argument.argument-index _ c.loop-argument-test.true);
  local = λ none. c.in_ok-command.ensures.globals ∙ ap₂ ◌||◌ (c.loop-argument.invariant.local none) c.arg_of.ensures.local;
}
