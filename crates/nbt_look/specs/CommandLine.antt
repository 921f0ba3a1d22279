-- The program's command line, as clap reads it (our choice).
use Rattle.std.specs.Prelude.{◌-◌, ◌^◌, Some, true, codes}
use Rattle.clap.specs.Words.{App, Rule, Text, new_app, new_rule, with_rule}
use Rattle.clap.specs.Simple.{on_top}
use Rattle.clap.specs.declared.builder.action.ArgAction.TheVariants.{Append, Set, SetTrue}
use Rattle.clap.specs.declared.builder.value_parser.ValueParser.TheVariants.{Unsigned}

-- an option of this name without a value
abbrev pub flag_rule : Text → Rule
flag_rule name = record (new_rule name) { long = Some name; action = Some SetTrue }

-- one with a value, which is given once
abbrev pub once_rule : Text → Rule
once_rule name = record (new_rule name) { long = Some name; action = Some Set; value_names = 1 }

-- one with a value, any number of times
abbrev pub repeated_rule : Text → Rule
repeated_rule name = record (new_rule name) { long = Some name; action = Some Append; value_names = 1 }

-- `--port PORT`, a number of sixteen bits
abbrev pub port_rule : Rule
port_rule = record (repeated_rule (codes "port")) { parser = Some (Unsigned 0 65_535) }

-- `-c N`, from 1 to the greatest number of 64 bits
abbrev pub count_rule : Rule
count_rule = record (new_rule (codes "count")) {
  short = Some 99;
  action = Some Set;
  value_names = 1;
  parser = Some (Unsigned 1 (2 ^ 64 - 1));
}

-- `-r FILE`, any number of times
abbrev pub read_rule : Rule
read_rule = record (new_rule (codes "read")) { short = Some 114; action = Some Append; value_names = 1 }

-- the words FILE
abbrev pub files_rule : Rule
files_rule = record (new_rule (codes "FILE")) {
  action = Some Append;
  range = Some (record { start_inclusive = 0; end_inclusive = 18446744073709551615 });
}

-- the program has a version, and no argument
abbrev pub top_app : App
top_app = on_top (λ s. record s { has_version = true }) (new_app (codes "nbt-look"))

-- the same with `--quiet`, and the options of what is wanted: `--name TEXT`, `--host ADDRESS`, `--port PORT`, `--kind KIND,..`, `-c N`
abbrev pub with_filters : App
with_filters =
    with_rule (with_rule (with_rule (with_rule (with_rule (with_rule top_app (flag_rule (codes "quiet"))) (repeated_rule (codes "name")))
    (repeated_rule (codes "host"))) port_rule) (repeated_rule (codes "kind"))) count_rule

-- the same with how packets are shown: `--time WHEN`, `--color WHEN`, `--json`
abbrev pub with_forms : App
with_forms = with_rule (with_rule (with_rule with_filters (once_rule (codes "time"))) (once_rule (codes "color"))) (flag_rule (codes "json"))

-- the whole command line: with `--lines`, `--bare`, `--no-ticks`, `--cut`, for the text of a capture, and the files, `-r FILE` and FILE
abbrev pub look_app : App
look_app =
    with_rule (with_rule (with_rule (with_rule (with_rule (with_rule with_forms (flag_rule (codes "lines"))) (flag_rule (codes "bare")))
    (flag_rule (codes "no-ticks"))) (flag_rule (codes "cut"))) read_rule) files_rule
