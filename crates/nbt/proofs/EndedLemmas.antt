-- How a command ended, by what was made of the words.
use Rattle.std.proofs.Common.{◌≡◌, List, None, OnSome, Option, Result, Some, subst, sym}
use Rattle.std.specs.Io.KnownBytes.{Keeps}
use Rattle.clap.specs.Words.{App, HasMatchesOf, Text}
use Rattle.clap.specs.declared.parser.matches.ArgMatches.{ArgMatches}
use Rattle.clap.specs.declared.error.kind.ErrorKind.{ErrorKind}
use Rattle.clap.specs.declared.error.kind.ErrorKind.TheVariants.{OutOfMemory}
use Rattle.nbt_command.specs.declared.fault.Fault.{Fault}
use Rattle.nbt_command.specs.declared.fault.Status.{Status}
use Rattle.nbt_command.specs.FaultTexts.{status_after}
use Rattle.nbt_command.specs.Streams.{Streams}
use Rattle.nbt_usage.specs.CommandLine.{Picks, Reports, answer_to, nbt_app, word_of}
use Rattle.nbt_usage.specs.Shared.TakenWords.{rows_of_words}
use Rattle.nbt_usage.specs.declared.command_forms.Subcommand.{Subcommand}
use Rattle.nbt.specs.Commands.{Ended, EndedBy, ended, no_memory, with_status}

-- the command that was entered is this one
pub called : (m inner : ArgMatches) (command which : Subcommand) → Picks m (word_of command) inner → command ≡ which → Picks m (word_of which) inner
called m inner command which picks is = subst (λ (c : Subcommand). Picks m (word_of c) inner) is picks

-- the command that was entered is that of the words
pub ran_words : (app : App) (words : List Text) (m : ArgMatches) (s : Streams) (outcome : Result Status Fault) (status : Status) → app ≡ nbt_app → HasMatchesOf app words m
    → Ended m s outcome → status ≡ status_after outcome → EndedBy words s status
ran_words app words m s outcome status is has r same =
    ended m outcome (rows_of_words words m (subst (λ (a : App). HasMatchesOf a words m) is has)) r same

-- where clap takes the words, it fails for lack of memory alone
pub lacked_memory : (words : List Text) (s : Streams) (kind : ErrorKind) (status : Status) → kind ≡ OutOfMemory → Reports (answer_to kind) status s.old_out s.new_out
    → Keeps s.old_in s.new_in → EndedBy words s status
lacked_memory words s kind status is reported unread =
    let said : Reports (answer_to OutOfMemory) status s.old_out s.new_out = subst (λ (k : ErrorKind). Reports (answer_to k) status s.old_out s.new_out) is reported in
    no_memory said.0 unread said.1

-- a command that is done where it has no fault
pub ended_so : {A : Type 0} (m : ArgMatches) (s : Streams) (r : Result A Fault) (outcome : Result Status Fault) → outcome ≡ with_status r → Ended m s (with_status r) → Ended m s outcome
ended_so m s r outcome is so = subst (Ended m s) (sym is) so

-- what holds of what there is
pub on_some : {A P : Type 0} (found : Option A) (a : A) → found ≡ Some a → OnSome found P → P
on_some None a is p = absurd (cc is)
on_some (Some b) a is p = p
