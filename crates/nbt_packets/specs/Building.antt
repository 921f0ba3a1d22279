-- What `nbt build` prints: a line of a capture for each packet that its words name (our choice).
use Rattle.std.specs.Prelude.{◌≡◌, ℕ, Bool, List, [], Some, option_map, unwrap_or, codes}
use Rattle.clap.specs.Words.{first_value, found_of, matched_of, raw_values}
use Rattle.clap.specs.declared.parser.matches.ArgMatches.{ArgMatches}
use Rattle.nb_building.specs.Building.{AreLinesOf}
use Rattle.nb_building.specs.Refusals.{GiveTooMuch}
use Rattle.nbt_command.specs.Options.{IsGiven}

-- AreWords matches broadcast what words: the matches hold these words, and `broadcast` is what they hold for `--broadcast`
pub record AreWords (matches : ArgMatches) (broadcast : Bool) (what : List ℕ) (words : List (List ℕ)) : Type 0 where
  pub has_flag : (given : Bool) → IsGiven matches (codes "broadcast") given → broadcast ≡ given
  pub has_what : first_value (found_of matches) (codes "WHAT") ≡ Some what
  pub has_words : unwrap_or (option_map raw_values (matched_of (found_of matches) (codes "ARG"))) [] ≡ words

-- AreBuilt matches bytes: the bytes are the lines of the packets that the matches' words name
pub record AreBuilt (matches : ArgMatches) (bytes : List ℕ) : Type 0 where
  pub broadcast : Bool
  pub what : List ℕ
  pub words : List (List ℕ)
  pub given : AreWords matches broadcast what words
  pub built : AreLinesOf broadcast what words bytes

-- AreTooMuch matches: the matches' words give a packet more data than it may have
pub record AreTooMuch (matches : ArgMatches) : Type 0 where
  pub broadcast : Bool
  pub what : List ℕ
  pub words : List (List ℕ)
  pub given : AreWords matches broadcast what words
  pub too_much : GiveTooMuch what words

-- AreNone matches what: WHAT and the matches' other words name no packets
pub record AreNone (matches : ArgMatches) (what : List ℕ) : Type 0 where
  pub broadcast : Bool
  pub words : List (List ℕ)
  pub given : AreWords matches broadcast what words
  pub none : (bytes : List ℕ) → ¬ AreLinesOf broadcast what words bytes

-- NameNone matches: the matches' words name no packets, if there are any
abbrev pub NameNone : ArgMatches → Type 0
NameNone matches = (what : List ℕ) → first_value (found_of matches) (codes "WHAT") ≡ Some what → AreNone matches what

-- Builds matches IsPrinted: the lines of the packets that the matches' words name were printed, as IsPrinted says of
-- the bytes
pub record Builds (matches : ArgMatches) (IsPrinted : List ℕ → Type 0) : Type 0 where
  pub lines : List ℕ
  pub built : AreBuilt matches lines
  pub printed : IsPrinted lines
