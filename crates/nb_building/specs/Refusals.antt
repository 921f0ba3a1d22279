-- Why words are refused (our choice). The place of a word is how many stand before it.
use Rattle.std.specs.Prelude.{◌≡◌, ◌≢◌, ◌⊎◌, ◌++◌, ℕ, Bool, List, ◌∷◌, ◌<◌, ◌≤◌, [], length, codes, get_or, None, Some, MatchResult, Result}
use Rattle.std.specs.List.{AllByRecursion}
use Rattle.nb_streams.specs.declared.hexadecimal.DigitsFault.{DigitsFault}
use Rattle.nb_streams.specs.declared.hexadecimal.DigitsFault.TheVariants.{BadDigits, NoMemory}
use Rattle.nb_datagram.specs.declared.fault.CutFault.{CutFault}
use Rattle.nb_datagram.specs.declared.fault.CutFault.TheVariants as cut_fault
use Rattle.nb_building.specs.declared.build_fault.BuildFault.{BuildFault}
use Rattle.nb_building.specs.declared.build_fault.BuildFault.TheVariants.{What, Count, Word, Text, Memory, TooLong, ZeroPiece}
use Rattle.nb_streams.specs.Hexadecimal.{DataText}
use Rattle.nb_names.specs.declared.reading.Pointers.TheVariants.{Refused}
use Rattle.nb_names.specs.Labels.{NameAt}
use Rattle.nb_names.specs.declared.fault.TextFault.{TextFault}
use Rattle.nb_names.specs.Name.{NetbiosName}
use Rattle.nb_names.specs.NameText.{IsText, IsFaultOf}
use Rattle.nb_building.specs.declared.forms.WordKind.{WordKind}
use Rattle.nb_building.specs.Words.{IsFirstWrong, kinds_of}
use Rattle.nb_datagram.specs.declared.key.Kind.{Kind}
use Rattle.nb_datagram.specs.Fragment.{DatagramParts}
use Rattle.nb_datagram.specs.Pieces.{AreTooLong}
use Rattle.nb_datagram.specs.FaultTexts.{kind_text}
use Rattle.nb_service.specs.declared.kinds.TheConstants.{NS}
use Rattle.nb_building.specs.Built.{IsServiceBuilt, IsSessionBuilt, KeyText, NamesAny, NamesDatagrams, NumberText, WordText}

-- the fault of the word at a place, whose digits were refused
abbrev pub of_digits : ℕ → DigitsFault → BuildFault
of_digits place BadDigits = Word place
of_digits place NoMemory = Memory

-- the fault of a datagram that wasn't cut
abbrev pub of_cut : CutFault → BuildFault
of_cut cut_fault.ZeroPiece = ZeroPiece
of_cut cut_fault.TooLong = TooLong
of_cut cut_fault.NoMemory = Memory

-- ---- one word

-- NamesNone place Named fault: the fault is that of the word at the place, and no value is named
abbrev pub NamesNone : {A : Type 0} → ℕ → (A → Type 0) → BuildFault → Type 0
NamesNone {A} place Named fault = (fault ≡ Word place) × ((value : A) → ¬ Named value)

-- IsRefused place Named fault: the same, or memory ran out
abbrev pub IsRefused : {A : Type 0} → ℕ → (A → Type 0) → BuildFault → Type 0
IsRefused place Named fault = (fault ≡ Memory) ⊎ NamesNone place Named fault

-- Reads place Named result: a value is named, or the word at the place is refused so
abbrev pub Reads : {A : Type 0} → ℕ → (A → Type 0) → Result A BuildFault → Type 0
Reads place Named result = MatchResult result Named (IsRefused place Named)

-- Finds place Named result: the same, whatever memory there is
abbrev pub Finds : {A : Type 0} → ℕ → (A → Type 0) → Result A BuildFault → Type 0
Finds place Named result = MatchResult result Named (NamesNone place Named)

-- IsTextRefused place text fault: the fault is that of the text at this place, which stands for no name
pub record IsTextRefused (place : ℕ) (text : List ℕ) (fault : BuildFault) : Type 0 where
  pub of : TextFault
  pub is : fault ≡ Text place of
  pub told : IsFaultOf text of
  pub none : (name : NetbiosName) → ¬ IsText name text

-- SplitsAt mark text front behind: the text is what stands before its first such mark, the mark, and what stands behind it
abbrev pub SplitsAt : ℕ → List ℕ → List ℕ → List ℕ → Type 0
SplitsAt mark text front behind = (text ≡ front ++ mark ∷ behind) × AllByRecursion (λ byte. byte ≢ mark) front

-- ---- the words that are refused as `too long` (RFC 1002 sections 4.2.1.3, 4.3.1 and 4.4.2): more data than the
-- length of a record, a message or a fragment can count
-- That of a fragment counts its names too.

-- HasMore most text: the text stands for more than so many bytes
abbrev pub HasMore : ℕ → List ℕ → Type 0
HasMore most text = (bytes : List ℕ) × DataText bytes text × (most < length bytes)

-- GiveTooMuch what words: these words give a packet more data than it may have
pub data GiveTooMuch : List ℕ → List (List ℕ) → Type 0 where
  rdata : (kind : ℕ) (a b c d e f : List ℕ) → WordText kind d → kind ≢ NS → HasMore 65535 f
      → GiveTooMuch (codes "response") (a ∷ b ∷ c ∷ d ∷ e ∷ f ∷ [])
  message : (a : List ℕ) → HasMore 131071 a → GiveTooMuch (codes "message") (a ∷ [])
  datagram : (kind : Kind) (a b c e f : List ℕ) → HasMore 65535 e → GiveTooMuch (kind_text kind) (a ∷ b ∷ c ∷ e ∷ f ∷ [])
  piece : (d : DatagramParts) (most : ℕ) (a b c e f : List ℕ) → KeyText d.key a → IsText d.source b → IsText d.destination c
      → DataText d.bytes e → NumberText 65535 most f → 1 ≤ most → AreTooLong d most
      → GiveTooMuch (kind_text d.kind) (a ∷ b ∷ c ∷ e ∷ f ∷ [])

-- ---- all of the words

-- Unnamed Named fault: unless memory ran out, nothing is named
abbrev pub Unnamed : {A : Type 0} → (A → Type 0) → BuildFault → Type 0
Unnamed {A} Named fault = fault ≢ Memory → (value : A) → ¬ Named value

-- Explains Named what words fault: what is true of these words, behind this first one, where they are refused so; the values are
-- the packets that they would name
pub data Explains {A : Type 0} (Named : A → Type 0) (what : List ℕ) (words : List (List ℕ)) : BuildFault → Type 0 where
  no_packet : kinds_of what ≡ None → Explains Named what words What
  miscounted : (kinds : List WordKind) → kinds_of what ≡ Some kinds → length words ≢ length kinds → Explains Named what words Count
  wrong_word : (kinds : List WordKind) (place : ℕ) → kinds_of what ≡ Some kinds → IsFirstWrong kinds [] words place
      → Explains Named what words (Word place)
  wrong_text : (kinds : List WordKind) (place : ℕ) (fault : TextFault) → kinds_of what ≡ Some kinds → IsFirstWrong kinds [] words place
      → IsFaultOf (get_or words place []) fault → Explains Named what words (Text place fault)
  too_long : ((value : A) → ¬ Named value) → GiveTooMuch what words → Explains Named what words TooLong
  zero_piece : ((value : A) → ¬ Named value) → Explains Named what words ZeroPiece
  no_memory : Explains Named what words Memory

-- IsUnanswered place kind bytes fault: why these bytes, of the word at the place, aren't the RDATA of a record of this type
abbrev pub IsUnanswered : ℕ → ℕ → List ℕ → BuildFault → Type 0
IsUnanswered place kind bytes fault =
    ((fault ≡ TooLong) × (kind ≢ NS) × (65535 < length bytes))
    ⊎ ((fault ≡ Word place) × (kind ≡ NS) × ((labels : List (List ℕ)) → ¬ NameAt bytes Refused 0 labels (length bytes)))

-- the same of the packets of port 137
abbrev pub ExplainsService : Bool → List ℕ → List (List ℕ) → BuildFault → Type 0
ExplainsService broadcast what words = Explains (IsServiceBuilt broadcast what words) what words

-- of those of port 139
abbrev pub ExplainsSession : List ℕ → List (List ℕ) → BuildFault → Type 0
ExplainsSession what words = Explains (IsSessionBuilt what words) what words

-- of those of port 138
abbrev pub ExplainsDatagrams : List ℕ → List (List ℕ) → BuildFault → Type 0
ExplainsDatagrams what words = Explains (NamesDatagrams what words) what words

-- of all
abbrev pub ExplainsAny : Bool → List ℕ → List (List ℕ) → BuildFault → Type 0
ExplainsAny broadcast what words = Explains (NamesAny broadcast what words) what words
