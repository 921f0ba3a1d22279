-- The member with which `nbt replay` begins, by its words (our choice).
use Rattle.std.specs.Prelude.{◌≡◌, ◌≤◌, ◌<◌, ◌⊎◌, ◌++◌, ◌∷◌, ℕ, List, [], length, Contains, Some, option_map, codes}
use Rattle.clap.specs.Words.{found_of, matched_of, raw_values}
use Rattle.clap.specs.declared.parser.matches.ArgMatches.{ArgMatches}
use Rattle.nb_names.specs.Name.{NetbiosName}
use Rattle.nb_names.specs.NameText.{IsText, IsFaultOf}
use Rattle.nb_member.specs.declared.limits.TheConstants.{MAX_NAMES}
use Rattle.nb_member.specs.Member.{MemberValue, new_member}
use Rattle.nbt_reassembly.specs.declared.capacity.Capacity.{Capacity}
use Rattle.nbt_command.specs.declared.fault.Fault.{Fault}
use Rattle.nbt_command.specs.declared.fault.Fault.TheVariants.{Text, Arguments, TooManyNames, Memory}
use Rattle.nbt_reassembly.specs.Capacity.{HasNoCapacity, program_settings}

-- ---- the names

-- AreTexts matches texts: these are the words that the matches hold for NAME
abbrev pub AreTexts : ArgMatches → List (List ℕ) → Type 0
AreTexts matches texts = option_map raw_values (matched_of (found_of matches) (codes "NAME")) ≡ Some texts

-- AddsName old text new: the text stands for a name that is held already, or is now held after the others,
-- which are fewer than a member holds
pub record AddsName (old : List NetbiosName) (text : List ℕ) (new : List NetbiosName) : Type 0 where
  pub name : NetbiosName
  pub stands : IsText name text
  pub held : (Contains old name × (new ≡ old)) ⊎ ((¬ Contains old name) × (length old < MAX_NAMES) × (new ≡ old ++ name ∷ []))

-- AddsEach texts names: the names of the texts, each once, in the order in which they first come
pub data AddsEach : List (List ℕ) → List NetbiosName → Type 0 where
  none : AddsEach [] []
  more : (texts : List (List ℕ)) (text : List ℕ) (old new : List NetbiosName) → AddsEach texts old → AddsName old text new
      → AddsEach (texts ++ text ∷ []) new

-- IsRefusedName old text fault: why a member that holds the old names can't have the name of the text
abbrev pub IsRefusedName : List NetbiosName → List ℕ → Fault → Type 0
IsRefusedName old text (Text fault) = IsFaultOf text fault
IsRefusedName old text TooManyNames = (name : NetbiosName) × IsText name text × (¬ Contains old name) × (MAX_NAMES ≤ length old)
IsRefusedName old text Memory = Unit {0}
IsRefusedName old text _ = ⊥

-- IsNamesFault texts fault: why a member can't have the names of the texts: the first that is refused
-- besides those before it
pub record IsNamesFault (texts : List (List ℕ)) (fault : Fault) : Type 0 where
  pub before : List (List ℕ)
  pub text : List ℕ
  pub after : List (List ℕ)
  pub parts : texts ≡ before ++ text ∷ after
  pub names : List NetbiosName
  pub added : AddsEach before names
  pub refused : IsRefusedName names text fault

-- ---- the member that a replay begins with

-- Begins IsGiven AreWords m: m is a new member that may hold as much as is given, with the names of the words
pub record Begins (IsGiven : Capacity → Type 0) (AreWords : List (List ℕ) → Type 0) (m : MemberValue) : Type 0 where
  pub capacity : Capacity
  pub given : IsGiven capacity
  pub words : List (List ℕ)
  pub said : AreWords words
  pub names : List NetbiosName
  pub named : AddsEach words names
  pub is : m ≡ new_member (program_settings capacity) names

-- IsUnbegun IsGiven AreWords fault: why there is no such member: a word was refused, no capacity or no words are given, or
-- memory ran out
abbrev pub IsUnbegun : (Capacity → Type 0) → (List (List ℕ) → Type 0) → Fault → Type 0
IsUnbegun IsGiven AreWords (Text fault) = (words : List (List ℕ)) × AreWords words × IsNamesFault words (Text fault)
IsUnbegun IsGiven AreWords TooManyNames = (words : List (List ℕ)) × AreWords words × IsNamesFault words TooManyNames
IsUnbegun IsGiven AreWords Arguments = HasNoCapacity IsGiven ⊎ ((words : List (List ℕ)) → ¬ AreWords words)
IsUnbegun IsGiven AreWords Memory = Unit {0}
IsUnbegun IsGiven AreWords _ = ⊥
