-- The text that people write NetBIOS names in (our choice). RFC 1001 section 14.1 has a name's sixteen
-- bytes, and section 14.2 its scope. Places in a text are counted in bytes, from its first.
--
-- Std's `digit_value` has the value of a digit or a letter of either case, and its `digit_char` the
-- digit, in lower case, of a value.
use Rattle.std.specs.Prelude.{◌≡◌, ◌==◌, ◌||◌, ◌&&◌, ℕ, ◌+◌, ◌-◌, ◌*◌, ◌<◌, ◌≤◌, Bool, false, nat_le, IsTrue, List, [], ◌∷◌, ◌++◌, length, take, replicate, if◌then◌else◌, slice_index, Option, Some, None}
use Rattle.std.specs.List.{flat_map, list_all}
use Rattle.std.specs.Char.{is_ascii_graphic}
use Rattle.nb_streams.specs.Hexadecimal.{IsHexDigit, byte_of, digits_of}
use Rattle.nb_names.specs.declared.limits.TheConstants.{FRONT_LENGTH, LETTERS}
use Rattle.nb_names.specs.declared.fault.TextFault.{TextFault}
use Rattle.nb_names.specs.declared.fault.TextFault.TheVariants.{BadText, TooLong}
use Rattle.nb_streams.specs.Ascii.{space, dot, less_than, greater_than, letter_a, letter_p, backslash}
use Rattle.nb_names.specs.Name.{NetbiosName, IsScope}

-- ---- the form

-- whether a byte is plain, that is, can stand for itself: 21 to 7e in hexadecimal, without `.`, `<`, `>` and `\`
abbrev pub is_plain : ℕ → Bool
is_plain byte =
    if byte == dot || byte == less_than || byte == greater_than || byte == backslash then false else is_ascii_graphic byte

-- Item byte text: the text is an item that stands for the byte: the byte itself, or its escape
pub data Item : ℕ → List ℕ → Type 0 where
  plain : (byte : ℕ) → IsTrue (is_plain byte) → Item byte (byte ∷ [])
  escaped : (high low : ℕ) → IsHexDigit high → IsHexDigit low
      → Item (byte_of high low) (backslash ∷ high ∷ low ∷ [])

-- Items bytes text: the text is a row of items, which stand for the bytes in order
pub data Items : List ℕ → List ℕ → Type 0 where
  no_item : Items [] []
  more_items : (byte : ℕ) (bytes item items : List ℕ)
      → Item byte item → Items bytes items → Items (byte ∷ bytes) (item ++ items)

-- ScopeText labels text: the text has `.` and one or more items for each label
pub data ScopeText : List (List ℕ) → List ℕ → Type 0 where
  no_label : ScopeText [] []
  more_labels : (label : List ℕ) (labels : List (List ℕ)) (items text : List ℕ)
      → 0 < length label → Items label items → ScopeText labels text
      → ScopeText (label ∷ labels) (dot ∷ items ++ text)

-- what stands in a text: the bytes before `<`, the byte after it, and the labels after `>`
pub record Parts : Type 0 where
  pub front : List ℕ
  pub last : ℕ
  pub scope : List (List ℕ)

-- HasForm parts text: the text is items, `<`, two hexadecimal digits, `>`, and a scope's text
pub record HasForm (parts : Parts) (text : List ℕ) : Type 0 where
  pub items : List ℕ
  pub high : ℕ
  pub low : ℕ
  pub behind : List ℕ
  pub front : Items parts.front items
  pub high_digit : IsHexDigit high
  pub low_digit : IsHexDigit low
  pub last : parts.last ≡ byte_of high low
  pub scope : ScopeText parts.scope behind
  pub whole : text ≡ items ++ less_than ∷ high ∷ low ∷ greater_than ∷ behind

-- the parts make a name: at most fifteen bytes before `<`, and labels that make a scope
pub record FitsLimits (parts : Parts) : Type 0 where
  pub front : length parts.front ≤ FRONT_LENGTH
  pub scope : IsScope parts.scope

-- the bytes, filled up with spaces to fifteen
abbrev pub filled : List ℕ → List ℕ
filled bytes = bytes ++ replicate (FRONT_LENGTH - length bytes) space

-- the name that the parts make
abbrev pub name_of : Parts → NetbiosName
name_of parts = record { bytes = filled parts.front ++ parts.last ∷ []; scope = parts.scope }

-- IsText name text: the text has the form, and its parts make the name
pub record IsText (name : NetbiosName) (text : List ℕ) : Type 0 where
  pub parts : Parts
  pub form : HasForm parts text
  pub limits : FitsLimits parts
  pub exact : name ≡ name_of parts

-- ---- what isn't a name's text

-- some parts have this text
abbrev pub IsFormed : List ℕ → Type 0
IsFormed text = (parts : Parts) × HasForm parts text

-- IsFront text count: some text of the form begins with the first `count` bytes of this text
abbrev pub IsFront : List ℕ → ℕ → Type 0
IsFront text count = (rest : List ℕ) × IsFormed (take count text ++ rest)

-- IsBad text place: the longest front of the text with which some text of the form begins ends at
-- the place, whatever the limits
pub record IsBad (text : List ℕ) (place : ℕ) : Type 0 where
  pub within : place ≤ length text
  pub front : IsFront text place
  pub longest : (count : ℕ) → place < count → count ≤ length text → ¬ IsFront text count

-- IsFaultOf text fault: why the text is of no name; it is TooLong only where it has the form, and
-- BadText only where it hasn't
abbrev pub IsFaultOf : List ℕ → TextFault → Type 0
IsFaultOf text (BadText place) = (¬ IsFormed text) × IsBad text place
IsFaultOf text TooLong = IsFormed text × ((name : NetbiosName) → ¬ IsText name text)

-- ---- the written form

-- the item of a byte: a plain byte itself, else its escape
abbrev pub item_of : ℕ → List ℕ
item_of byte = if is_plain byte then byte ∷ [] else backslash ∷ digits_of byte

-- the items of the bytes, in order
abbrev pub items_of : List ℕ → List ℕ
items_of = flat_map item_of

-- `.` and the items of each label
abbrev pub scope_text_of : List (List ℕ) → List ℕ
scope_text_of = flat_map (λ label. dot ∷ items_of label)

-- the byte before those kept, unless it is a space with none after it
abbrev pub kept_before : ℕ → List ℕ → List ℕ
kept_before byte [] = if byte == space then [] else byte ∷ []
kept_before byte (kept ∷ bytes) = byte ∷ kept ∷ bytes

-- the bytes without the spaces at their end
abbrev pub trimmed : List ℕ → List ℕ
trimmed [] = []
trimmed (byte ∷ bytes) = kept_before byte (trimmed bytes)

-- the form in which a name's bytes are written: without the spaces at the end of the first fifteen
abbrev pub bytes_written : List ℕ → List ℕ
bytes_written bytes =
    items_of (trimmed (take FRONT_LENGTH bytes))
    ++ less_than ∷ digits_of (slice_index bytes FRONT_LENGTH) ++ greater_than ∷ []

-- the form in which a name is written
abbrev pub written : NetbiosName → List ℕ
written name = bytes_written name.bytes ++ scope_text_of name.scope

-- the form in which a domain name is written: the items of its labels with `.` between them, and
-- `.` where it has none
abbrev pub domain_written : List (List ℕ) → List ℕ
domain_written [] = dot ∷ []
domain_written (label ∷ labels) = items_of label ++ scope_text_of labels

-- ---- labels that may be a NetBIOS name's

-- whether a byte is a letter that spells half a byte: one of `A` to `P`
abbrev pub is_letter : ℕ → Bool
is_letter byte = nat_le letter_a byte && nat_le byte letter_p

-- whether a label is the letters of a name's sixteen bytes
abbrev pub are_letters : List ℕ → Bool
are_letters label = length label == LETTERS && list_all is_letter label

-- the bytes that letters stand for, two letters for each, the high half first
abbrev pub bytes_of_letters : List ℕ → List ℕ
bytes_of_letters [] = []
bytes_of_letters (high ∷ []) = []
bytes_of_letters (high ∷ low ∷ letters) = ((high - letter_a) * 16 + (low - letter_a)) ∷ bytes_of_letters letters

-- the NetBIOS name that the labels of a domain name are, if they are one's
abbrev pub name_of_labels : List (List ℕ) → Option NetbiosName
name_of_labels [] = None
name_of_labels (first ∷ scope) =
    if are_letters first then Some (record { bytes = bytes_of_letters first; scope = scope }) else None

-- either_written name labels: the name's text, if there is one, else that of a domain name with these labels
abbrev pub either_written : Option NetbiosName → List (List ℕ) → List ℕ
either_written (Some name) labels = written name
either_written None labels = domain_written labels

-- the form in which the labels that stand in a packet are written: as a NetBIOS name, where they are one's
abbrev pub labels_written : List (List ℕ) → List ℕ
labels_written labels = either_written (name_of_labels labels) labels
