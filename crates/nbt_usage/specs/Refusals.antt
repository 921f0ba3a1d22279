-- What the program says of its refusals (our choice).
use Rattle.std.specs.Borrow.{Bor}
use Rattle.std.specs.Prelude.{◌≡◌, ◌≢◌, ◌==◌, ◌⊎◌, ℕ, List, [], ◌∷◌, ◌++◌, cond, All, Contains, Option, None, Some, codes}
use Rattle.std.specs.Cmp.Lexicographic.{pointwise}
use Rattle.std.specs.List.{flat_map, join_by, list_any}
use Rattle.nbt_command.specs.declared.fault.Fault.{Fault}
use Rattle.nbt_command.specs.declared.fault.Fault.TheVariants.{Write, Memory}
use Rattle.nbt_usage.specs.declared.refusals.Refusal.{Refusal}

-- HasNone words refusals: no refusal has these words
abbrev pub HasNone : List ℕ → List Refusal → Type 0
HasNone words refusals = All (λ refusal. refusal.words.now ≢ words) refusals

-- IsFirstWith words refusals result: the result is one of the refusals that has these words, and none where none has them
abbrev pub IsFirstWith : List ℕ → List Refusal → Option (Bor Refusal) → Type 0
IsFirstWith words refusals None = HasNone words refusals
IsFirstWith words refusals (Some found) = Contains refusals found.now × (found.now.words.now ≡ words)

-- what is printed of a refusal: its words, its number, and what to do then
abbrev pub advice_line : Refusal → List ℕ
advice_line refusal = refusal.words.now ++ (refusal.number.now ++ (codes ": " ++ (refusal.advice.now ++ codes "\n")))

-- what the help of a command has of a refusal: its line after two spaces, if the command may say it
abbrev pub lines_by : List ℕ → Refusal → List ℕ
lines_by command refusal = cond (list_any (λ by. pointwise ◌==◌ by.now command) refusal.by.now) (codes "  " ++ advice_line refusal) []

-- what the help of a command has of all refusals
abbrev pub lines_of_all : List ℕ → List Refusal → List ℕ
lines_of_all command refusals = flat_map (lines_by command) refusals

-- why the line of a refusal isn't printed
abbrev pub IsPrintFault : Fault → Type 0
IsPrintFault fault = (fault ≡ Write) ⊎ (fault ≡ Memory)

-- the words are the program's name, `help`, and perhaps more
abbrev pub AsksHelp : List (List ℕ) → Type 0
AsksHelp words = (program : List ℕ) × (rest : List (List ℕ)) × (words ≡ program ∷ codes "help" ∷ rest)

-- the words are the program's name, `help`, and more words, which may be a refusal's
abbrev pub AsksRefusal : List (List ℕ) → Type 0
AsksRefusal words = (program text : List ℕ) × (rest : List (List ℕ)) × (words ≡ program ∷ codes "help" ∷ text ∷ rest)

-- words as one text, with a space between any two
abbrev pub spaced : List (List ℕ) → List ℕ
spaced words = join_by (λ word. word) (codes " ") words
