-- At each offset of a packet a name stands, or there is a fault.
use Rattle.std.proofs.Common.{◌≡◌, ℕ, ◌+◌, ◌-◌, ◌*◌, ◌/◌, ◌%◌, ◌<◌, ◌≤◌, List, [], ◌∷◌, ◌++◌, length, take, drop, zero, suc, Option, None, Some, unwrap_or, refl, sym, ap, subst, arith, get_or, ◌⊎◌, inl, inr, max}
use Rattle.std.proofs.lemmas.Bool.{cases_lt, cases_eq}
use Rattle.nb_names.specs.declared.reading.Pointers.{Pointers}
use Rattle.nb_names.specs.declared.reading.Pointers.TheVariants.{Followed, Refused}
use Rattle.nb_names.specs.declared.fault.NameFault.{NameFault}
use Rattle.nb_names.specs.declared.fault.NameFault.TheVariants.{Truncated, ReservedLabel, PointerNotAllowed, BadPointer, TooLong, NotNetbios}
use Rattle.nb_names.specs.declared.length_byte.LengthByte.{LengthByte}
use Rattle.nb_names.specs.declared.limits.TheConstants.{MAX_LABEL}
use Rattle.nb_names.specs.declared.length_byte.LengthByte.TheVariants.{Cut, End, Label, Reserved, Pointer}
use Rattle.nb_names.specs.DomainName.{spelling, IsDomain}
use Rattle.nb_streams.specs.Places.{AreBytes}
use Rattle.nb_names.specs.FirstLevel.{letter, letters, IsLetter, IsFirstNonLetter}
use Rattle.nb_names.specs.Name.{NetbiosName, IsName, IsNoName, no_label, wrong_length, non_letter, labels_of_name}
use Rattle.nb_streams.specs.Places.{StandsAt}
use Rattle.nb_names.specs.Labels.{NameAt}
use Rattle.nb_names.specs.Code.Kept.{HasLabel, Begins}
use Rattle.nb_names.specs.NameFaults.{short_label, half_pointer, no_length_byte, cut, reserved, not_allowed, not_below, too_long, FaultAt, NetbiosFaultAt, on_way, not_netbios}
use Rattle.nb_streams.specs.PacketFacts.{byte_below}
use Rattle.nb_names.proofs.SpellingLemmas.{length-spelling-snoc}
use Rattle.nb_names.proofs.LabelsLemmas.{stands_one, pointer_made, IsDomain-read}
use Rattle.nb_names.proofs.NameLemmas.{IsScope-rest}
use Rattle.nb_names.proofs.ReadingLemmas.{IsReading, reading_begun, reading_ended, reading_fails, label_there, label_turn, pointer_turn}

-- ---- what a length byte begins

abbrev BeginsSome : List ℕ → ℕ → Type 0
BeginsSome packet here = (read : LengthByte) × Begins packet here read

ends_here : (packet : List ℕ) (here : ℕ) → here < length packet → get_or packet here 0 ≡ 0 → StandsAt packet here (0 ∷ [])
ends_here packet here fits none = subst (λ (byte : ℕ). StandsAt packet here (byte ∷ [])) none (stands_one packet here fits)

begins_pointer : (packet : List ℕ) (here : ℕ) → AreBytes packet → here < length packet → 192 ≤ get_or packet here 0 → BeginsSome packet here
begins_pointer packet here bytes fits high = elim (cases_lt (here + 1) (length packet)) [
  | inl more ↦ (
    Pointer ((get_or packet here 0 - 192) * 256 + get_or packet (here + 1) 0),
    pointer_made packet here _ _ more refl refl high (byte_below packet bytes here) (byte_below packet bytes (here + 1)),
  )
  | inr less ↦ (Cut, half_pointer _ (stands_one packet here fits) high (omega arith))
]

begins_above : (packet : List ℕ) (here : ℕ) → AreBytes packet → here < length packet → MAX_LABEL < get_or packet here 0 → BeginsSome packet here
begins_above packet here bytes fits large = elim (cases_lt (get_or packet here 0) 192) [
  | inl low ↦ (Reserved, record { first = get_or packet here 0; there = stands_one packet here fits; low = omega arith; high = low })
  | inr high ↦ begins_pointer packet here bytes fits high
]

begins_label : (packet : List ℕ) (here : ℕ) → here < length packet → 0 < get_or packet here 0 → get_or packet here 0 ≤ MAX_LABEL → BeginsSome packet here
begins_label packet here fits some small = elim (cases_lt (length packet) (here + 1 + get_or packet here 0)) [
  | inl past ↦ (Cut, short_label _ (stands_one packet here fits) some small past)
  | inr whole ↦ (Label (get_or packet here 0), record { first = refl; some = some; short = small; whole = whole })
]

begins_some : (packet : List ℕ) (here : ℕ) → AreBytes packet → BeginsSome packet here
begins_some packet here bytes = elim (cases_lt here (length packet)) [
  | inr past ↦ (Cut, no_length_byte past)
  | inl fits ↦ elim (cases_lt 0 (get_or packet here 0)) [
    | inr none ↦ (End, ends_here packet here fits (omega arith))
    | inl some ↦ elim (cases_lt MAX_LABEL (get_or packet here 0)) [
      | inl large ↦ begins_above packet here bytes fits large
      | inr small ↦ begins_label packet here fits some small
    ]
  ]
]

-- ---- domain names

abbrev pub Read : List ℕ → Pointers → ℕ → Type 0
Read packet pointers at = (labels : List (List ℕ)) × (next : ℕ) × NameAt packet pointers at labels next

abbrev pub ReadOrFault : List ℕ → Pointers → ℕ → Type 0
ReadOrFault packet pointers at = Read packet pointers at ⊎ ((fault : NameFault) × FaultAt packet pointers at fault)

-- a reading whose rest is at most this long is read, or fails
abbrev Goes : ℕ → List ℕ → Pointers → ℕ → Type 0
Goes n packet q at = (start here : ℕ) (ls : List (List ℕ)) (next : Option ℕ) → IsReading packet q at ls start here next
    → start * 256 + (256 - length (spelling ls)) < n → ReadOrFault packet q at

turn_label : (n : ℕ) (packet : List ℕ) (q : Pointers) (at start here size : ℕ) (ls : List (List ℕ)) (next : Option ℕ) → Goes n packet q at → IsReading packet q at ls start here next →
    start * 256 + (256 - length (spelling ls)) < suc n → HasLabel packet here size → ReadOrFault packet q at
turn_label n packet q at start here size ls next goes r few has =
    let label : List ℕ = take size (drop (here + 1) packet) in
    let there = label_there packet here size has in
    elim (cases_lt 255 (length (spelling (ls ++ label ∷ [])))) [
      | inl past ↦ inr (TooLong here, reading_fails packet q at start here ls next _ r (too_long label there.1 there.2 past))
      | inr short ↦ goes start (here + 1 + size) (ls ++ label ∷ []) next
          (label_turn packet q at start here size ls _ next r has short refl)
          (omega (arith, length-spelling-snoc ls label))
    ]

turn_pointer : (n : ℕ) (packet : List ℕ) (q : Pointers) (at start here target : ℕ) (ls : List (List ℕ)) (next : Option ℕ) → Goes n packet q at → IsReading packet q at ls start here next →
    start * 256 + (256 - length (spelling ls)) < suc n → Begins packet here (Pointer target) → ReadOrFault packet q at
turn_pointer n packet Refused at start here target ls next goes r few there =
    inr (PointerNotAllowed here, reading_fails packet Refused at start here ls next _ r (not_allowed target there refl))
turn_pointer n packet Followed at start here target ls next goes r few there = elim (cases_lt target start) [
  | inl low ↦ goes target target ls (Some (unwrap_or next (here + 2))) (pointer_turn packet Followed at start here target ls next _ r refl there low refl) (omega arith)
  | inr high ↦ inr (BadPointer here, reading_fails packet Followed at start here ls next _ r (not_below target there refl high))
]

turn : (n : ℕ) (packet : List ℕ) (q : Pointers) (at start here : ℕ) (ls : List (List ℕ)) (next : Option ℕ) (read : LengthByte) → Goes n packet q at → IsReading packet q at ls start here next →
    start * 256 + (256 - length (spelling ls)) < suc n → Begins packet here read → ReadOrFault packet q at
turn n packet q at start here ls next Cut goes r few h = inr (Truncated (max at (length packet)), reading_fails packet q at start here ls next _ r (cut h))
turn n packet q at start here ls next End goes r few h = inl (ls, unwrap_or next (here + 1), reading_ended packet q at start here ls next r h)
turn n packet q at start here ls next (Label size) goes r few h = turn_label n packet q at start here size ls next goes r few h
turn n packet q at start here ls next Reserved goes r few h = inr (ReservedLabel here, reading_fails packet q at start here ls next _ r (reserved h))
turn n packet q at start here ls next (Pointer target) goes r few h = turn_pointer n packet q at start here target ls next goes r few h

goes_on_to_end : (n : ℕ) (packet : List ℕ) (q : Pointers) (at : ℕ) → AreBytes packet → Goes n packet q at
goes_on_to_end zero packet q at bytes start here ls next r few = absurd (omega arith)
goes_on_to_end (suc n) packet q at bytes start here ls next r few =
    let begun = begins_some packet here bytes in
    turn n packet q at start here ls next begun.0 (goes_on_to_end n packet q at bytes) r few begun.1

pub read_or_fault : (packet : List ℕ) (q : Pointers) (at : ℕ) → AreBytes packet → ReadOrFault packet q at
read_or_fault packet q at bytes = goes_on_to_end (at * 256 + 256) packet q at bytes at at [] None (reading_begun packet q at) (omega arith)

-- ---- NetBIOS names

letter_or_not : (byte : ℕ) → IsLetter byte ⊎ (¬ IsLetter byte)
letter_or_not byte = elim (cases_lt byte 65) [
  | inl low ↦ inr (λ is. omega (arith, is.0))
  | inr high ↦ elim (cases_lt byte 81) [
    | inl small ↦ inl (high, omega arith)
    | inr large ↦ inr (λ is. omega (arith, is.1))
  ]
]

first_at_0 : (ls : List ℕ) (a : ℕ) → ¬ IsLetter a → IsFirstNonLetter (a ∷ ls) 0
first_at_0 ls a h = record { within = omega arith; non_letter = h; before = λ k below. absurd (omega arith) }

letters_before : (a b : ℕ) (ls : List ℕ) (place : ℕ) → IsLetter a → IsLetter b → ((k : ℕ) → k < place → IsLetter (get_or ls k 0)) →
    (k : ℕ) → k < suc (suc place) → IsLetter (get_or (a ∷ b ∷ ls) k 0)
letters_before a b ls place f g before zero below = f
letters_before a b ls place f g before (suc zero) below = g
letters_before a b ls place f g before (suc (suc k)) below = before k (omega arith)

first_at_1 : (ls : List ℕ) (a b : ℕ) → IsLetter a → ¬ IsLetter b → IsFirstNonLetter (a ∷ b ∷ ls) 1
first_at_1 ls a b f h = record { within = omega arith; non_letter = h; before = first } where
  first : (k : ℕ) → k < 1 → IsLetter (get_or (a ∷ b ∷ ls) k 0)
  first zero below = f
  first (suc k) below = absurd (omega arith)

first_behind : (ls : List ℕ) (a b place : ℕ) → IsLetter a → IsLetter b → IsFirstNonLetter ls place → IsFirstNonLetter (a ∷ b ∷ ls) (suc (suc place))
first_behind ls a b place f g s =
    record { within = omega (arith, s.within); non_letter = s.non_letter; before = letters_before a b ls place f g s.before }

-- the bytes that letters spell
record Halves (n : ℕ) (ls : List ℕ) : Type 0 where
  bytes : List ℕ
  size : length bytes ≡ n
  each : AreBytes bytes
  spelled : letters bytes ≡ ls

halves_more : (n a b : ℕ) (ls : List ℕ) → IsLetter a → IsLetter b → Halves n ls → Halves (suc n) (a ∷ b ∷ ls)
halves_more n a b ls f g h =
    let byte : ℕ = (a - 65) * 16 + (b - 65) in
    let high : letter (((a - 65) * 16 + (b - 65)) / 16) ≡ a = omega (arith, f.0, f.1, g.0, g.1) in
    let low : letter (((a - 65) * 16 + (b - 65)) % 16) ≡ b = omega (arith, f.0, f.1, g.0, g.1) in
    let small : (a - 65) * 16 + (b - 65) < 256 = omega (arith, f.0, f.1, g.0, g.1) in
    record { bytes = byte ∷ h.bytes; size = omega (arith, h.size); each = (small, h.each); spelled = cc (high, low, h.spelled) }

halves_or_place : (n : ℕ) (ls : List ℕ) → length ls ≡ 2 * n → Halves n ls ⊎ ((place : ℕ) × IsFirstNonLetter ls place)
halves_or_place zero [] e = inl (record { bytes = []; size = refl; each = tt; spelled = refl })
halves_or_place zero (a ∷ ls) e = absurd (omega arith)
halves_or_place (suc n) [] e = absurd (omega arith)
halves_or_place (suc n) (a ∷ []) e = absurd (omega arith)
halves_or_place (suc n) (a ∷ b ∷ ls) e = elim (letter_or_not a) [
  | inr h ↦ inr (0, first_at_0 (b ∷ ls) a h)
  | inl f ↦ elim (letter_or_not b) [
    | inr h ↦ inr (1, first_at_1 ls a b f h)
    | inl g ↦ elim (halves_or_place n ls (omega arith)) [
      | inl rest ↦ inl (halves_more n a b ls f g rest)
      | inr rest ↦ inr (suc (suc rest.0), first_behind ls a b rest.0 f g rest.1)
    ]
  ]
]

abbrev Named : List (List ℕ) → Type 0
Named labels = ((name : NetbiosName) × IsName name × (labels_of_name name ≡ labels)) ⊎ ((place : ℕ) × IsNoName labels place)

named : (labels : List (List ℕ)) → IsDomain labels → Named labels
named [] domain = inr (0, no_label)
named (first ∷ rest) domain = elim (cases_eq (length first) 32) [
  | inr wrong ↦ inr (0, wrong_length first rest wrong)
  | inl size ↦ elim (halves_or_place 16 first (omega arith)) [
    | inr strange ↦ inr (1 + strange.0, non_letter first rest strange.0 size strange.1)
    | inl h ↦ inl (
      record { bytes = h.bytes; scope = rest },
      record { sixteen = h.size; each = h.each; scope = IsScope-rest (first ∷ rest) first rest refl size domain },
      ap (λ (l : List ℕ). l ∷ rest) h.spelled,
    )
  ]
]

abbrev pub NamedOrFault : List ℕ → Pointers → ℕ → Type 0
NamedOrFault packet pointers at =
    ((name : NetbiosName) × (next : ℕ) × IsName name × NameAt packet pointers at (labels_of_name name) next)
    ⊎ ((fault : NameFault) × NetbiosFaultAt packet pointers at fault)

pub named_or_fault : (packet : List ℕ) (q : Pointers) (at : ℕ) → AreBytes packet → NamedOrFault packet q at
named_or_fault packet q at bytes = elim (read_or_fault packet q at bytes) [
  | inr fault ↦ inr (fault.0, on_way fault.1)
  | inl read ↦ elim (named read.0 (IsDomain-read packet q at at read.0 read.1 read.2)) [
    | inr other ↦ inr (NotNetbios other.0, not_netbios read.0 read.1 other.0 read.2 other.1)
    | inl name ↦ inl (name.0, read.1, name.1, subst (λ (ls : List (List ℕ)). NameAt packet q at ls read.1) (sym name.2) read.2)
  ]
]
