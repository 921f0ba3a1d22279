-- The words that each packet takes (our choice), and which of them is the first that it doesn't take.
use Rattle.std.specs.Prelude.{◌≡◌, ◌==◌, ◌⊎◌, ⊤, ℕ, zero, suc, List, [], ◌∷◌, Option, None, Some, length, codes, if◌then◌else◌}
use Rattle.std.specs.Cmp.Lexicographic.{pointwise}
use Rattle.nb_names.specs.declared.reading.Pointers.TheVariants.{Refused}
use Rattle.nb_streams.specs.Hexadecimal.{DataText}
use Rattle.nb_names.specs.Labels.{NameAt}
use Rattle.nb_names.specs.Name.{NetbiosName}
use Rattle.nb_names.specs.NameText.{IsText}
use Rattle.nb_datagram.specs.declared.key.Key.{Key as DatagramKey}
use Rattle.nb_service.specs.declared.kinds.TheConstants.{NS}
use Rattle.nb_building.specs.declared.forms.WordKind.{WordKind}
use Rattle.nb_building.specs.declared.forms.WordKind.TheVariants.{Digits, Code, Name, ShortNumber, LongNumber, Address, Key, Data, Rdata}
use Rattle.nb_building.specs.Built.{AddressText, CodeText, KeyText, NumberText, WordText}

-- the packets: the word that names each, and what the words after it are
abbrev pub forms : List (List ℕ × List WordKind)
forms =
    (codes "query", Digits ∷ Name ∷ [])
    ∷ (codes "status", Digits ∷ Name ∷ [])
    ∷ (codes "registration", Digits ∷ Name ∷ LongNumber ∷ Digits ∷ Address ∷ [])
    ∷ (codes "refresh", Digits ∷ Name ∷ LongNumber ∷ Digits ∷ Address ∷ [])
    ∷ (codes "release", Digits ∷ Name ∷ Digits ∷ Address ∷ [])
    ∷ (codes "response", Digits ∷ Digits ∷ Name ∷ Digits ∷ LongNumber ∷ Rdata ∷ [])
    ∷ (codes "request", Name ∷ Name ∷ [])
    ∷ (codes "message", Data ∷ [])
    ∷ (codes "positive", [])
    ∷ (codes "negative", Code ∷ [])
    ∷ (codes "retarget", Address ∷ ShortNumber ∷ [])
    ∷ (codes "keepalive", [])
    ∷ (codes "unique", Key ∷ Name ∷ Name ∷ Data ∷ ShortNumber ∷ [])
    ∷ (codes "group", Key ∷ Name ∷ Name ∷ Data ∷ ShortNumber ∷ [])
    ∷ (codes "broadcast", Key ∷ Name ∷ Name ∷ Data ∷ ShortNumber ∷ [])
    ∷ (codes "error", Key ∷ Code ∷ [])
    ∷ (codes "find", Key ∷ Name ∷ [])
    ∷ (codes "found", Key ∷ Name ∷ [])
    ∷ (codes "missing", Key ∷ Name ∷ [])
    ∷ []

-- what the words after this one are, by these forms
abbrev pub kinds_in : List (List ℕ × List WordKind) → List ℕ → Option (List WordKind)
kinds_in [] what = None
kinds_in (form ∷ forms) what = if pointwise ◌==◌ form.0 what then Some form.1 else kinds_in forms what

-- what the words of the packet of this name are, if there is one
abbrev pub kinds_of : List ℕ → Option (List WordKind)
kinds_of what = kinds_in forms what

-- IsNameOfNs before bytes: where the type, which stands before the time to live, is NS, the bytes are the spelling of a domain name
abbrev pub IsNameOfNs : List (List ℕ) → List ℕ → Type 0
IsNameOfNs (ttl ∷ kind ∷ before) bytes = WordText NS kind → (labels : List (List ℕ)) × NameAt bytes Refused 0 labels (length bytes)
IsNameOfNs _ bytes = ⊥

-- Takes kind before word: the word is one of this kind, behind these words, the last of them first
abbrev pub Takes : WordKind → List (List ℕ) → List ℕ → Type 0
Takes Digits before word = (number : ℕ) × WordText number word
Takes Code before word = (code : ℕ) × CodeText code word
Takes Name before word = (name : NetbiosName) × IsText name word
Takes ShortNumber before word = (number : ℕ) × NumberText 65535 number word
Takes LongNumber before word = (number : ℕ) × NumberText 4294967295 number word
Takes Address before word = (address : List ℕ) × AddressText address word
Takes Key before word = (key : DatagramKey) × KeyText key word
Takes Data before word = (bytes : List ℕ) × DataText bytes word
Takes Rdata before word = (bytes : List ℕ) × DataText bytes word × IsNameOfNs before bytes

-- AreTaken kinds before words: the packet takes each of these words, which stand behind the others
abbrev pub AreTaken : List WordKind → List (List ℕ) → List (List ℕ) → Type 0
AreTaken [] before [] = ⊤
AreTaken (kind ∷ kinds) before (word ∷ words) = Takes kind before word × AreTaken kinds (word ∷ before) words
AreTaken _ before _ = ⊥

-- IsFirstWrong kinds before words place: of these words, the one at the place is the first that the packet doesn't take
abbrev pub IsFirstWrong : List WordKind → List (List ℕ) → List (List ℕ) → ℕ → Type 0
IsFirstWrong (kind ∷ kinds) before (word ∷ words) zero = ¬ Takes kind before word
IsFirstWrong (kind ∷ kinds) before (word ∷ words) (suc place) = Takes kind before word × IsFirstWrong kinds (word ∷ before) words place
IsFirstWrong _ before _ place = ⊥

-- ---- the names of packets, by port

-- of port 137
abbrev pub IsServiceWord : List ℕ → Type 0
IsServiceWord what =
    (what ≡ codes "query") ⊎ ((what ≡ codes "status") ⊎ ((what ≡ codes "registration")
    ⊎ ((what ≡ codes "refresh") ⊎ ((what ≡ codes "release") ⊎ (what ≡ codes "response")))))

-- of port 139
abbrev pub IsSessionWord : List ℕ → Type 0
IsSessionWord what =
    (what ≡ codes "request") ⊎ ((what ≡ codes "message") ⊎ ((what ≡ codes "positive")
    ⊎ ((what ≡ codes "negative") ⊎ ((what ≡ codes "retarget") ⊎ (what ≡ codes "keepalive")))))

-- of port 138
abbrev pub IsDatagramWord : List ℕ → Type 0
IsDatagramWord what =
    (what ≡ codes "unique") ⊎ ((what ≡ codes "group") ⊎ ((what ≡ codes "broadcast") ⊎ ((what ≡ codes "error")
    ⊎ ((what ≡ codes "find") ⊎ ((what ≡ codes "found") ⊎ (what ≡ codes "missing"))))))
