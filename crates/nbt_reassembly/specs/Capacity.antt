-- How much a table may hold (our choice).
use Rattle.std.specs.Prelude.{◌≡◌, ◌⊎◌, ℕ, [], ◌∷◌, codes}
use Rattle.clap.specs.declared.parser.matches.ArgMatches.{ArgMatches}
use Rattle.nb_member.specs.declared.settings.Settings.{Settings}
use Rattle.nbt_command.specs.Options.{HasNoNumber, IsNumberOf}
use Rattle.nbt_reassembly.specs.declared.capacity.Capacity.{Capacity}

-- program_settings c: the settings of a member that may hold so much
abbrev pub program_settings : Capacity → Settings
program_settings c = record { ip = 0 ∷ 0 ∷ 0 ∷ 0 ∷ []; port = 138; keys = c.keys; per_source = c.per_source; longest = 65535 }

-- as many keys as a table can hold, whatever their addresses
abbrev pub most_keys : Capacity
most_keys = record { keys = 4294967295; per_source = 4294967295 }

-- the number of `--per-source`, or 4,294,967,295 where none is held
abbrev pub IsSourceLimit : ArgMatches → ℕ → Type 0
IsSourceLimit matches n =
    IsNumberOf 32 matches (codes "per-source") n ⊎ (HasNoNumber 32 matches (codes "per-source") × (n ≡ 4294967295))

-- IsCapacity matches c: as many keys as `--keys` says, and of each address as many as `--per-source` says
pub record IsCapacity (matches : ArgMatches) (c : Capacity) : Type 0 where
  pub keys : IsNumberOf 32 matches (codes "keys") c.keys
  pub per_source : IsSourceLimit matches c.per_source

-- no capacity is given
abbrev pub HasNoCapacity : (Capacity → Type 0) → Type 0
HasNoCapacity IsGiven = (c : Capacity) → ¬ IsGiven c
