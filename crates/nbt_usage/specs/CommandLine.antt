-- The program's command line, as clap reads it (our choice).
use Rattle.std.specs.Prelude.{◌≡◌, ◌⊎◌, ℕ, List, [], ◌∷◌, ◌++◌, Option, Some, true, codes, ◌≢◌}
use Rattle.std.specs.Fmt.{decimal}
use Rattle.nbt_usage.specs.declared.limits.TheConstants.{KEYS, MOST_INPUT, MOST_KEYS}
use Rattle.nbt_usage.specs.declared.command_forms.Subcommand.{Subcommand}
use Rattle.nbt_usage.specs.declared.command_forms.Subcommand.TheVariants as commands
use Rattle.clap.specs.Words.{App, Rule, Text, found_of, new_app, new_rule, rows_of, subcommand_rows_of, with_rule, with_subcommand}
use Rattle.clap.specs.declared.parser.matches.ArgMatches.{ArgMatches}
use Rattle.clap.specs.Simple.{on_top}
use Rattle.clap.specs.declared.builder.action.ArgAction.TheVariants.{Set, SetTrue, Append}
use Rattle.clap.specs.declared.builder.value_parser.ValueParser.TheVariants.{Unsigned}
use Rattle.std.specs.List.{fold}
use Rattle.std.specs.Io.KnownBytes.{Keeps}
use Rattle.clap.specs.Faults.{fault_of}
use Rattle.clap.specs.Kinds.{IsAmong}
use Rattle.clap.specs.declared.error.kind.ErrorKind.{ErrorKind}
use Rattle.clap.specs.declared.error.kind.ErrorKind.TheVariants.{DisplayHelp, DisplayVersion, OutOfMemory}
use Rattle.nbt_usage.specs.declared.command_line.ClapAnswer.{ClapAnswer}
use Rattle.nbt_usage.specs.declared.command_line.ClapAnswer.TheVariants.{Asked, Misused, NoMemory}
use Rattle.nbt_command.specs.declared.fault.Status.{Status}
use Rattle.nbt_command.specs.declared.fault.Status.TheVariants.{Done, BadUsage, Failed}

-- an option that is given or not
abbrev pub flag_rule : Text → Rule
flag_rule name = record (new_rule name) { long = Some name; action = Some SetTrue }

-- a word that is required
abbrev pub value_rule : Text → Rule
value_rule name = record (new_rule name) { required = true; action = Some Set }

-- words, at least so many, which may be none
abbrev pub words_rule : Text → ℕ → Rule
words_rule name least = record (new_rule name) {
  action = Some Append;
  range = Some (record { start_inclusive = least; end_inclusive = 18446744073709551615 });
}

-- words, at least one
abbrev pub some_rule : Text → Rule
some_rule name = record (words_rule name 1) { required = true }

-- an option that is a decimal number from 1 to the greatest that it may be; none where it isn't given
abbrev pub number_rule : Text → ℕ → Rule
number_rule name most = record (new_rule name) {
  long = Some name;
  action = Some Set;
  value_names = 1;
  parser = Some (Unsigned 1 most);
}

-- `--keys N`, to the limit on keys, and the usual number of them where it isn't given
abbrev pub keys_rule : Rule
keys_rule = record (number_rule (codes "keys") MOST_KEYS) { defaults = decimal KEYS ∷ [] }

-- `--per-source N`, to the same limit
abbrev pub per_source_rule : Rule
per_source_rule = number_rule (codes "per-source") MOST_KEYS

-- `--input-limit BYTES`, to the greatest number of 64 bits
abbrev pub input_limit_rule : Rule
input_limit_rule = number_rule (codes "input-limit") MOST_INPUT

-- with_rules app rules: with these arguments more, in this order
abbrev pub with_rules : App → List Rule → App
with_rules app rules = fold with_rule app rules

-- the options for the limits of a table
abbrev pub limit_rules : List Rule
limit_rules = keys_rule ∷ per_source_rule ∷ []

-- the options of a command that reads a capture
abbrev pub capture_rules : List Rule
capture_rules = input_limit_rule ∷ flag_rule (codes "comments") ∷ []

-- `name [--bytes] VALUE`
abbrev pub name_app : App
name_app = with_rules (new_app (codes "name")) (flag_rule (codes "bytes") ∷ value_rule (codes "VALUE") ∷ [])

-- `show [--input-limit BYTES] [--comments] [--brief] [--partial] [--json]`
abbrev pub show_app : App
show_app =
    with_rules (new_app (codes "show"))
    (capture_rules ++ (flag_rule (codes "brief") ∷ flag_rule (codes "partial") ∷ flag_rule (codes "json") ∷ []))

-- `build [--broadcast] WHAT ARG..`
abbrev pub build_app : App
build_app =
    with_rules (new_app (codes "build")) (flag_rule (codes "broadcast") ∷ value_rule (codes "WHAT") ∷ words_rule (codes "ARG") 0 ∷ [])

-- `replay [--keys N] [--per-source N] [--input-limit BYTES] [--comments] [--json] NAME..`
abbrev pub replay_app : App
replay_app =
    with_rules (new_app (codes "replay")) (limit_rules ++ (capture_rules ++ (flag_rule (codes "json") ∷ some_rule (codes "NAME") ∷ [])))

-- `save [--keys N] [--per-source N] [--input-limit BYTES]`
abbrev pub save_app : App
save_app = with_rules (new_app (codes "save")) (limit_rules ++ (input_limit_rule ∷ []))

-- `merge [--keys N] [--per-source N]`
abbrev pub merge_app : App
merge_app = with_rules (new_app (codes "merge")) limit_rules

-- `list [--keys N] [--per-source N] [--json]`
abbrev pub list_app : App
list_app = with_rules (new_app (codes "list")) (limit_rules ++ (flag_rule (codes "json") ∷ []))

-- `agree [--list]`
abbrev pub agree_app : App
agree_app = with_rules (new_app (codes "agree")) (flag_rule (codes "list") ∷ [])

-- the program itself has a version, and asks for a subcommand
abbrev pub top_app : App
top_app = on_top (λ s. record s { subcommand_required = true }) (on_top (λ s. record s { has_version = true }) (new_app (codes "nbt")))

-- a command with a subcommand more
abbrev pub with_command : App → App → App
with_command app command = with_subcommand app command.top

-- the whole command line
abbrev pub nbt_app : App
nbt_app = fold with_command top_app (name_app ∷ show_app ∷ build_app ∷ replay_app ∷ save_app ∷ merge_app ∷ list_app ∷ agree_app ∷ [])

-- a subcommand that may stand alone
abbrev pub IsAlone : Text → Type 0
IsAlone word = (word ≡ codes "show") ⊎ ((word ≡ codes "save") ⊎ ((word ≡ codes "merge") ⊎ ((word ≡ codes "list") ⊎ (word ≡ codes "agree"))))

-- the matches' subcommand is one that reads the input
abbrev pub DoesRead : Option Text → Type 0
DoesRead name =
    (name ≡ Some (codes "show"))
    ⊎ ((name ≡ Some (codes "replay")) ⊎ ((name ≡ Some (codes "save"))
    ⊎ ((name ≡ Some (codes "merge")) ⊎ ((name ≡ Some (codes "list")) ⊎ (name ≡ Some (codes "agree"))))))

-- the matches' subcommand is one of the program's
abbrev pub IsCommand : Option Text → Type 0
IsCommand name = (name ≡ Some (codes "name")) ⊎ ((name ≡ Some (codes "build")) ⊎ DoesRead name)

-- the word that names a command
abbrev pub word_of : Subcommand → Text
word_of commands.Name = codes "name"
word_of commands.Show = codes "show"
word_of commands.Build = codes "build"
word_of commands.Replay = codes "replay"
word_of commands.Save = codes "save"
word_of commands.Merge = codes "merge"
word_of commands.List = codes "list"
word_of commands.Agree = codes "agree"

-- Picks matches name inner: clap entered the subcommand of this name, and these are its own matches
abbrev pub Picks : ArgMatches → Text → ArgMatches → Type 0
Picks matches name inner = subcommand_rows_of matches ≡ Some (name, rows_of (found_of inner))

-- the program's name and one word more, which is a subcommand that may stand alone
abbrev pub AreAlone : List Text → Type 0
AreAlone words = (program : Text) × (word : Text) × (words ≡ program ∷ word ∷ []) × IsAlone word

-- ---- what the program makes of clap's answer, where it has no matches of the words (our choice)

-- help and the version are asked for; all else is a bad command line, unless memory ran out
abbrev pub answer_to : ErrorKind → ClapAnswer
answer_to DisplayHelp = Asked
answer_to DisplayVersion = Asked
answer_to OutOfMemory = NoMemory
answer_to _ = Misused

-- Reports answer status old new: the answer leaves this status, and these bytes on the output that
-- held the old ones
abbrev pub Reports : ClapAnswer → Status → Option (List ℕ) → Option (List ℕ) → Type 0
Reports Asked status old new = (status ≡ Done) ⊎ (status ≡ Failed)
Reports Misused status old new = (status ≡ BadUsage) × Keeps old new
Reports NoMemory status old new = (status ≡ Failed) × Keeps old new

-- clap refuses the words, and they ask for no help and no version
pub record AreMisused (words : List Text) : Type 0 where
  pub refused : fault_of nbt_app words ≢ []
  pub no_help : ¬ IsAmong DisplayHelp (fault_of nbt_app words)
  pub no_version : ¬ IsAmong DisplayVersion (fault_of nbt_app words)
