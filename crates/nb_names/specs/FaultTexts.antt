-- The texts of faults (our choice): words, and after them the fault's place, where it has one, in decimal.
use Rattle.std.specs.Prelude.{ℕ, List, [], ◌∷◌, ◌++◌, codes, Option, Some, None}
use Rattle.std.specs.Fmt.{decimal}
use Rattle.nb_names.specs.declared.fault.NameFault.{NameFault}
use Rattle.nb_names.specs.declared.fault.NameFault.TheVariants.{Truncated, ReservedLabel, PointerNotAllowed, BadPointer, TooLong, NotNetbios}

-- how a text ends that has this place, or none
abbrev pub place_text : Option ℕ → List ℕ
place_text None = []
place_text (Some place) = 32 ∷ decimal place

-- what is wrong with a name that could not be read
abbrev pub name_fault_words : NameFault → List ℕ
name_fault_words (Truncated at) = codes "truncated"
name_fault_words (ReservedLabel at) = codes "reserved label"
name_fault_words (PointerNotAllowed at) = codes "pointer not allowed"
name_fault_words (BadPointer at) = codes "bad pointer"
name_fault_words (TooLong at) = codes "too long"
name_fault_words (NotNetbios place) = codes "not netbios"

-- its place
abbrev pub name_fault_place : NameFault → ℕ
name_fault_place (Truncated at) = at
name_fault_place (ReservedLabel at) = at
name_fault_place (PointerNotAllowed at) = at
name_fault_place (BadPointer at) = at
name_fault_place (TooLong at) = at
name_fault_place (NotNetbios place) = place

-- what is reported of it
abbrev pub name_fault_text : NameFault → List ℕ
name_fault_text fault = name_fault_words fault ++ place_text (Some (name_fault_place fault))
