-- What the program does with files, and how it ends (our choice).
use Rattle.std.specs.Prelude.{◌≡◌, ◌++◌, ◌∷◌, [], ℕ, List, Option, Result, Ok, Err, codes, fold, max}
use Rattle.std.specs.Borrow.{Bor}
use Rattle.std.specs.Io.KnownBytes.{Appends, Keeps}
use Rattle.nb_streams.specs.Counted.{Counts as Calls}
use Rattle.nb_streams.specs.Devices.{AppendsFront, ShowsWriteFault}
use Rattle.nbt_look.specs.declared.asked.Asked.{Asked}
use Rattle.nbt_look.specs.declared.printing.PrintFault.{PrintFault}
use Rattle.nbt_look.specs.declared.signature.Sort.{Sort}
use Rattle.nbt_look.specs.FaultTexts.{fault_line, print_text, status_in}
use Rattle.nbt_look.specs.Printing.{Prints}
use Rattle.nbt_look.specs.Sources.{SourceValue}

-- Tells text before after writes written: standard error got this text, a front of it where a write failed, or nothing where memory ran out
pub data Tells (text : List ℕ) (before after : Option (List ℕ)) (writes written : Calls) : Type 0 where
  told : Appends before after text → Tells text before after writes written
  cut_short : AppendsFront before after text → ShowsWriteFault writes written → Tells text before after writes written
  no_memory : Keeps before after → Tells text before after writes written

-- faults_text titles sorts sources: the line of each file that couldn't be read to its end
abbrev pub faults_text : List (Bor (List ℕ)) → List Sort → List SourceValue → List ℕ
faults_text (title ∷ titles) (sort ∷ sorts) (s ∷ sources) = fault_line title.now sort s.waiting ++ faults_text titles sorts sources
faults_text titles sorts sources = []

-- report_text titles sorts sources outcome: what is said of faults
abbrev pub report_text : List (Bor (List ℕ)) → List Sort → List SourceValue → Result Unit PrintFault → List ℕ
report_text titles sorts sources (Ok done) = faults_text titles sorts sources
report_text titles sorts sources (Err why) = codes "nbt-look: " ++ (print_text why ++ codes "\n")

-- the greater of a status and that of a file
abbrev pub worse : ℕ → SourceValue → ℕ
worse status s = max status (status_in s.waiting)

-- the exit status
abbrev pub status_of : List SourceValue → Result Unit PrintFault → ℕ
status_of sources (Ok done) = fold worse 0 sources
status_of sources (Err why) = 3

-- Runs titles asked olds news before after writes written errors told tells all_told code: files of these titles were read, of which this
-- is asked; what was printed of them, what standard error got, and the exit status
pub record Runs (titles : List (Bor (List ℕ))) (asked : Asked) (olds news : List SourceValue) (before after : Option (List ℕ)) (writes written : Calls)
    (errors told : Option (List ℕ)) (tells all_told : Calls) (code : ℕ) : Type 0 where
  pub outcome : Result Unit PrintFault
  pub sorts : List Sort
  pub prints : Prints asked olds news before after writes written outcome
  pub reports : Tells (report_text titles sorts news outcome) errors told tells all_told
  pub status : code ≡ status_of news outcome
