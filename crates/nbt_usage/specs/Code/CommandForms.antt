-- The commands as the code keeps them, and what clap makes of them.
use Rattle.std.specs.List.{fold}
use Rattle.clap.specs.Words.{App, Rule, new_app, with_rule, with_subcommand}
use Rattle.nbt_usage.specs.CommandLine.{flag_rule, keys_rule, number_rule, some_rule, value_rule, words_rule}
use Rattle.nbt_usage.specs.declared.command_forms.Argument.{Argument}
use Rattle.nbt_usage.specs.declared.command_forms.Argument.TheVariants.{Flag, Word, Words, SomeWords, Keys, Number}
use Rattle.nbt_usage.specs.declared.command_forms.CommandForm.{CommandForm}

-- the rule of an argument
abbrev pub argument_rule : Argument → Rule
argument_rule (Flag name help) = flag_rule name.now
argument_rule (Word name help) = value_rule name.now
argument_rule (Words name help) = words_rule name.now 0
argument_rule (SomeWords name help) = some_rule name.now
argument_rule Keys = keys_rule
argument_rule (Number name value help most) = number_rule name.now most

-- a command with an argument more
abbrev pub with_argument : App → Argument → App
with_argument app argument = with_rule app (argument_rule argument)

-- the command of a form
abbrev pub form_app : CommandForm → App
form_app form = fold with_argument (new_app form.name.now) form.arguments.now

-- a command with that of a form as a subcommand more
abbrev pub with_form : App → CommandForm → App
with_form app form = with_subcommand app (form_app form).top
