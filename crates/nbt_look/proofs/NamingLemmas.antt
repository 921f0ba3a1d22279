-- What a sink heard that was told fields one after another.
use Rattle.std.proofs.Common.{◌≡◌, ◌∙◌, ◌||◌, ◌&&◌, Bool, true, false, ℕ, List, [], ◌∷◌, bytes_eq, codes, fold, refl, ap, if◌then◌else◌}
use Rattle.std.specs.List.{list_any}
use Rattle.nb_telling.specs.Telling.{Field}
use Rattle.nb_telling.specs.Texts.{names_of}
use Rattle.nb_telling.specs.declared.sink.Flag.{Flag}
use Rattle.nbt_look.specs.Hearing.{Hearing, has_conflict, hears, is_conflict_field, is_status_field, is_wanted_field, sets_conflict}

or_moved : (a b c : Bool) → a || (b || c) ≡ (b || a) || c
or_moved false false c = refl
or_moved false true c = refl
or_moved true false c = refl
or_moved true true c = refl

or_false : (a : Bool) → a || false ≡ a
or_false false = refl
or_false true = refl

-- what was heard of fields, and before them
named_of : (h : Hearing) (fields : List Field) → (fold hears h fields).heard.is_named ≡ list_any (is_wanted_field h.wanted) fields || h.heard.is_named
named_of h [] = refl
named_of h (field ∷ fields) =
    named_of (hears h field) fields ∙ or_moved (list_any (is_wanted_field h.wanted) fields) (is_wanted_field h.wanted field) h.heard.is_named

status_of : (h : Hearing) (fields : List Field) → (fold hears h fields).heard.status ≡ list_any is_status_field fields || h.heard.status
status_of h [] = refl
status_of h (field ∷ fields) = status_of (hears h field) fields ∙ or_moved (list_any is_status_field fields) (is_status_field field) h.heard.status

conflict_of : (h : Hearing) (fields : List Field) → (fold hears h fields).heard.conflict ≡ list_any is_conflict_field fields || h.heard.conflict
conflict_of h [] = refl
conflict_of h (field ∷ fields) =
    conflict_of (hears h field) fields ∙ or_moved (list_any is_conflict_field fields) (is_conflict_field field) h.heard.conflict

-- the hearing before the first field
abbrev silent : List (List ℕ) → Hearing
silent wanted = record { wanted = wanted; heard = record { is_named = false; status = false; conflict = false } }

-- what was heard of all fields
pub named_in : (wanted : List (List ℕ)) (fields : List Field) → (fold hears (silent wanted) fields).heard.is_named ≡ list_any (is_wanted_field wanted) fields
named_in wanted fields = named_of (silent wanted) fields ∙ or_false _

pub status_in : (wanted : List (List ℕ)) (fields : List Field) → (fold hears (silent wanted) fields).heard.status ≡ list_any is_status_field fields
status_in wanted fields = status_of (silent wanted) fields ∙ or_false _

pub conflict_in : (wanted : List (List ℕ)) (fields : List Field) → (fold hears (silent wanted) fields).heard.conflict ≡ list_any is_conflict_field fields
conflict_in wanted fields = conflict_of (silent wanted) fields ∙ or_false _

-- a flag of a name in conflict that is set
set_case : (set : Bool) (name : List ℕ) (names : List (List ℕ))
    → (set && bytes_eq name (codes "CNF")) || has_conflict names ≡ has_conflict (if set then name ∷ names else names)
set_case true name names = refl
set_case false name names = refl

-- among all flags
pub set_named : (flags : List Flag) → list_any sets_conflict flags ≡ has_conflict (names_of flags)
set_named [] = refl
set_named (f ∷ flags) =
    ap (λ (b : Bool). (f.is_set && bytes_eq f.name.now (codes "CNF")) || b) (set_named flags) ∙ set_case f.is_set f.name.now (names_of flags)
