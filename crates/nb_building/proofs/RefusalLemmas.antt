-- Why words are refused, from why their parts are.
use Rattle.nb_building.proofs.Common.{◌≡◌, ◌≢◌, inl, inr, ℕ, ◌<◌, ◌^◌, List, [], ◌∷◌, ◌++◌, length, Result, Ok, Err, sym, ◌∙◌, subst, arith, append_assoc, IsInRange, w16, to_be_bytes, IsErrAnd, MatchResult, HexText, AddressText, CodeText, KeyText, NumberText, WordText, IsRefused, SplitsAt, length-HexText, Key, BuildFault, Word}
use Rattle.nb_building.proofs.MarkLemmas.{address_lacks, lacks-append, number_lacks, one_split, Lacks}

-- ---- one word

-- digits of another number of bytes
no_digits : (text bytes other : List ℕ) → HexText bytes text → HexText other text → length bytes ≢ length other → ⊥
no_digits text bytes other is is_other apart =
    apart (omega (arith, length-HexText bytes text is, length-HexText other text is_other))

-- digits that are those of a word, or of another number of bytes
pub word_read : (place : ℕ) (text bytes : List ℕ) (r : Result ℕ BuildFault) → HexText bytes text
    → MatchResult r (λ number. (number < 2 ^ 16) × (bytes ≡ to_be_bytes w16 number)) (λ fault. (fault ≡ Word place) × (length bytes ≢ 2))
    → MatchResult r (λ number. WordText number text) (IsRefused place (λ number. WordText number text))
word_read place text bytes (Ok number) is h = (h.0, subst (λ (l : List ℕ). HexText l text) h.1 is)
word_read place text bytes (Err fault) is h =
    inr (h.0, λ number names. no_digits text bytes (to_be_bytes w16 number) is names.1 h.1)

pub code_read : (place : ℕ) (text bytes : List ℕ) (r : Result ℕ BuildFault) → HexText bytes text
    → MatchResult r (λ code. bytes ≡ code ∷ []) (λ fault. (fault ≡ Word place) × (length bytes ≢ 1))
    → MatchResult r (λ code. CodeText code text) (IsRefused place (λ code. CodeText code text))
code_read place text bytes (Ok code) is h = subst (λ (l : List ℕ). HexText l text) h is
code_read place text bytes (Err fault) is h =
    inr (h.0, λ code names. no_digits text bytes (code ∷ []) is names h.1)

-- a refusal that is passed on
pub refused_passed_on : {T A B : Type 0} {place : ℕ} (Named : A → Type 0) (P : B → Type 0) (Q : T → Type 0) (fault : BuildFault) (r : Result T BuildFault)
    → IsErrAnd r (λ made. made ≡ fault) → IsRefused place P fault → ((value : A) → Named value → (part : B) × P part)
    → MatchResult r Q (IsRefused place Named)
refused_passed_on Named P Q fault (Ok x) h none part = absurd h
refused_passed_on Named P Q fault (Err made) h (inl memory) part = inl (h ∙ memory)
refused_passed_on Named P Q fault (Err made) h (inr none) part =
    inr (h ∙ none.0, λ value names. let has = part value names in none.1 has.0 has.1)

pub none_or_no_room : {T A : Type 0} {place : ℕ} (Named : A → Type 0) (Q : T → Type 0) (fault : BuildFault) (r : Result T BuildFault)
    → IsErrAnd r (λ made. made ≡ fault) → fault ≡ Word place → ((value : A) → ¬ Named value) → MatchResult r Q (IsRefused place Named)
none_or_no_room Named Q fault (Ok x) h is none = absurd h
none_or_no_room Named Q fault (Err made) h is none = inr (h ∙ is, none)

-- ---- keys

colon_is_no_digit : ¬ IsInRange 48 57 58
colon_is_no_digit h = absurd (omega (arith, h.1))

slash_is_no_digit : ¬ IsInRange 48 57 47
slash_is_no_digit h = absurd (omega (arith, h.0))

-- what stands before the `/` of a key's text has none
front_lacks : (ip port : List ℕ) (address : List ℕ) (number : ℕ) → AddressText address ip → NumberText 65535 number port
    → Lacks 47 (ip ++ 58 ∷ port)
front_lacks ip port address number is_ip is_port =
    lacks-append 47 ip (58 ∷ port) (address_lacks 47 ip address slash_is_no_digit (λ e. absurd (omega (arith, e))) is_ip)
    ((λ e. absurd (omega (arith, e))), subst (Lacks 47) (sym is_port.1) (number_lacks 47 number slash_is_no_digit (omega (arith, is_port.0))))

key_whole : (key : Key) (text : List ℕ) (h : KeyText key text) → text ≡ (h.ip ++ 58 ∷ h.port) ++ 47 ∷ h.id
key_whole key text h = h.whole ∙ sym (append_assoc h.ip (58 ∷ h.port) (47 ∷ h.id))

-- the parts of a key's text are one
key_halves : (key : Key) (text place id : List ℕ) (h : KeyText key text) → SplitsAt 47 text place id
    → (place ≡ h.ip ++ 58 ∷ h.port) × (id ≡ h.id)
key_halves key text place id h split =
    one_split 47 place id (h.ip ++ 58 ∷ h.port) h.id split.1 (front_lacks h.ip h.port key.ip key.port h.has_ip h.has_port)
    (sym split.0 ∙ key_whole key text h)

place_halves : (key : Key) (text place id ip port : List ℕ) (h : KeyText key text) → SplitsAt 47 text place id → SplitsAt 58 place ip port
    → (ip ≡ h.ip) × (port ≡ h.port)
place_halves key text place id ip port h split halves =
    one_split 58 ip port h.ip h.port halves.1 (address_lacks 58 h.ip key.ip colon_is_no_digit (λ e. absurd (omega (arith, e))) h.has_ip)
    (sym halves.0 ∙ (key_halves key text place id h split).0)

pub no_slash : (text : List ℕ) → ((parts : List ℕ × List ℕ) → ¬ (text ≡ parts.0 ++ 47 ∷ parts.1)) → (key : Key) → ¬ KeyText key text
no_slash text none key h = none (h.ip ++ 58 ∷ h.port, h.id) (key_whole key text h)

pub no_colon : (text place id : List ℕ) → SplitsAt 47 text place id → ((parts : List ℕ × List ℕ) → ¬ (place ≡ parts.0 ++ 58 ∷ parts.1))
    → (key : Key) → ¬ KeyText key text
no_colon text place id split none key h = none (h.ip, h.port) (key_halves key text place id h split).0

pub no_address : (text place id ip port : List ℕ) → SplitsAt 47 text place id → SplitsAt 58 place ip port
    → ((address : List ℕ) → ¬ AddressText address ip) → (key : Key) → ¬ KeyText key text
no_address text place id ip port split halves none key h =
    none key.ip (subst (AddressText key.ip) (sym (place_halves key text place id ip port h split halves).0) h.has_ip)

pub no_port : (text place id ip port : List ℕ) → SplitsAt 47 text place id → SplitsAt 58 place ip port
    → ((number : ℕ) → ¬ NumberText 65535 number port) → (key : Key) → ¬ KeyText key text
no_port text place id ip port split halves none key h =
    none key.port (subst (NumberText 65535 key.port) (sym (place_halves key text place id ip port h split halves).1) h.has_port)

pub has_id : (text place id : List ℕ) → SplitsAt 47 text place id → (key : Key) → KeyText key text → (number : ℕ) × WordText number id
has_id text place id split key h = (key.id, subst (WordText key.id) (sym (key_halves key text place id h split).1) h.has_id)
