use Rattle.nbt_usage.proofs.Common.{ap, ◌∙◌, true, app_of_fields, on_top}
use Rattle.nbt_usage.specs.CommandLine.{top_app}
use Rattle.nbt_usage.proofs.command_line.command.Goals as goal

pub returns : goal.returns
returns c =
    c.with_commands.ensures top_app
    (ap app_of_fields c.subcommand_required-top.ensures
    ∙ ap (on_top (λ s. record s { subcommand_required = true }))
    (ap app_of_fields c.version.ensures
    ∙ ap (on_top (λ s. record s { has_version = true })) c.described.ensures.app))
