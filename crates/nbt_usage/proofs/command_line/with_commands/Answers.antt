use Rattle.nbt_usage.proofs.Common.{◌∙◌, ap, ap₂, sym, arith, List, fold, App, with_subcommand}
use Rattle.std.proofs.lemmas.List.{take_all}
use Rattle.std.proofs.lemmas.List.Sums.{fold_more}
use Rattle.nbt_usage.specs.Code.CommandForms.{with_form}
use Rattle.nbt_usage.specs.declared.command_forms.CommandForm.{CommandForm}
use Rattle.nbt_usage.proofs.command_line.with_commands.Goals as goal

pub loop-form-preserved : goal.loop-form-preserved
loop-form-preserved c app is =
    c.in_ok-command.ensures.shape c.in_ok-command_of.ensures.local
    ∙ ap₂ (λ (whole sub : App). with_subcommand whole sub.top) (c.loop-form.invariant app is) c.in_ok-command_of.ensures.app
    ∙ sym (fold_more with_form app c.args.forms.now c.loop-form.form-index _ c.loop-form-test.true)

pub returns : goal.returns
returns c app is =
    c.loop-form.invariant app is
    ∙ ap (λ (forms : List CommandForm). fold with_form app forms)
    (take_all c.loop-form.form-index c.args.forms.now (omega (arith, c.loop-form-test.false)))
