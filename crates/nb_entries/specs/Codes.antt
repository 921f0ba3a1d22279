-- The values of covers and entries as values of types whose codes are known, for models.
use Rattle.std.specs.Prelude.{◌≡◌, ℕ, Option, Some, None, refl}
use Rattle.std.specs.Ordering.{nat_cmp}
use Rattle.std.specs.FinMap as maps
use Rattle.std.specs.Coded.{Coded, code_by, coded×, coded_ℕ, coded_option}
use Rattle.nb_names.specs.Name.{NetbiosName, name_code}
use Rattle.nb_datagram.specs.declared.key.Kind.{Kind}
use Rattle.nb_datagram.specs.Packet.{kind_code}
use Rattle.nb_entries.specs.Maps.{Slot, Spoilt, Held}
use Rattle.nb_entries.specs.Marks.{Marks, marks_code}
use Rattle.nb_entries.specs.Cover.{CoverFacts}
use Rattle.nb_entries.specs.Entry.{EntryFacts, EntryValue}

-- the facts, if they are held
abbrev pub held : {X : Type 0} → Slot X → Option X
held Spoilt = None
held (Held a) = Some a

-- what these facts come to: spoilt, where there are none
abbrev pub slot_of : {X : Type 0} → Option X → Slot X
slot_of None = Spoilt
slot_of (Some a) = Held a

-- the facts of a slot give it back
pub slot_back : {X : Type 0} (s : Slot X) → slot_of (held s) ≡ s
slot_back Spoilt = refl
slot_back (Held a) = refl

-- a slot as its facts, if there are any
abbrev pub slot_code : {X : Type 0} → Coded X → Coded (Slot X)
slot_code {X} x = code_by (Option X) (coded_option x) held slot_of slot_back

-- a cover's facts as the pair of them
abbrev pub cover_facts_code : Coded CoverFacts
cover_facts_code =
    code_by (maps.FinMap nat_cmp ℕ × Marks) (coded× (maps.code coded_ℕ coded_ℕ) marks_code)
    (λ c. (c.bytes, c.marks)) (λ p. record { bytes = p.0; marks = p.1 }) (λ _. refl)

-- an entry's facts as the tuple of them
abbrev pub entry_facts_code : Coded EntryFacts
entry_facts_code =
    code_by (Kind × (NetbiosName × (NetbiosName × CoverFacts)))
    (coded× kind_code (coded× name_code (coded× name_code cover_facts_code)))
    (λ e. (e.kind, (e.source, (e.destination, e.cover))))
    (λ p. record { kind = p.0; source = p.1.0; destination = p.1.1.0; cover = p.1.1.1 })
    (λ _. refl)

-- an entry as its facts, if it isn't spoilt
abbrev pub entry_code : Coded EntryValue
entry_code = slot_code entry_facts_code
