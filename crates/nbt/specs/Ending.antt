-- How the program ends, and what it does with its streams, which tell their bytes alone (our choice).
use Rattle.std.specs.Prelude.{◌≡◌, ◌≢◌, ◌≤◌, ◌⊎◌, ℕ, List, Option, true}
use Rattle.std.specs.Io.KnownBytes.{Keeps}
use Rattle.clap.specs.Words.{Text, takes}
use Rattle.nb_streams.specs.Counted.{Counts, no_calls}
use Rattle.nbt_usage.specs.declared.errors.Audience.{Audience}
use Rattle.nbt_usage.specs.declared.errors.Audience.TheVariants.{Programs}
use Rattle.nbt_command.specs.declared.fault.Status.{Status}
use Rattle.nbt_usage.specs.CommandLine.{AreMisused, AreAlone, nbt_app}
use Rattle.nbt.specs.Commands.{EndedBy}
use Rattle.nbt_command.specs.Status.{code_of}

-- EndedOver words old_in new_in old_out new_out code: the command that clap takes the words for ended with this exit
-- status, whatever the counts of its reads and writes
pub record EndedOver (words : List Text) (old_in new_in old_out new_out : Option (List ℕ)) (code : ℕ) : Type 0 where
  pub reads : Counts
  pub writes : Counts
  pub status : Status
  pub ran : EndedBy words (record {
    old_in = old_in;
    new_in = new_in;
    reads = no_calls;
    reads_after = reads;
    old_out = old_out;
    new_out = new_out;
    writes = no_calls;
    writes_after = writes;
  }) status
  pub is : code ≡ code_of status

-- a bad command line: nothing is read or printed, and the exit status is 2, or 3 where memory ran out
abbrev pub IsMisuse : ℕ → Option (List ℕ) → Option (List ℕ) → Option (List ℕ) → Option (List ℕ) → Type 0
IsMisuse code old_in new_in old_out new_out = ((code ≡ 2) ⊎ (code ≡ 3)) × Keeps old_in new_in × Keeps old_out new_out

-- Ends words old_in new_in old_out new_out code: what the program with these words left of its input and on its output, and its exit status
pub record Ends (words : List Text) (old_in new_in old_out new_out : Option (List ℕ)) (code : ℕ) : Type 0 where
  pub ran : takes nbt_app words ≡ true → EndedOver words old_in new_in old_out new_out code
  pub alone : AreAlone words → code ≢ 2
  pub usage : code ≡ 2 → Keeps old_out new_out
  pub misused : AreMisused words → IsMisuse code old_in new_in old_out new_out
  pub within : code ≤ 3

-- where all was done, standard error is as it was, but for a person
abbrev pub IsQuiet : {E : Type 0} → Audience → ℕ → E → E → Type 0
IsQuiet audience code old new = audience ≡ Programs → code ≡ 0 → new ≡ old
