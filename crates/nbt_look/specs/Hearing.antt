-- What is heard of a packet whose fields are told (our choice): whether there is a name that is wanted, whether a question or record is of
-- type NBSTAT, and whether a node's status has a name with CNF (RFC 1002 sections 4.2.1.3 and 4.2.18).
use Rattle.std.specs.Prelude.{◌≡◌, ℕ, ◌&&◌, ◌||◌, Bool, false, List, [], ◌∷◌, bytes_eq, codes}
use Rattle.std.specs.List.{list_any}
use Rattle.nb_telling.specs.Telling.{Field, Text, Digits, Set}
use Rattle.nb_telling.specs.declared.sink.Flag.{Flag}
use Rattle.nb_text.specs.TellsFront.{TellsFront}
use Rattle.nbt_look.specs.declared.hearing.Heard.{Heard}
use Rattle.nbt_look.specs.Naming.{is_wanted_name}

-- whether a field is a name that is wanted
abbrev pub is_wanted_field : List (List ℕ) → Field → Bool
is_wanted_field wanted (Text tag value) = is_wanted_name wanted tag.name value
is_wanted_field wanted _ = false

-- whether a field is the type of a node's status, 0021
abbrev pub is_status_field : Field → Bool
is_status_field (Digits tag digits) = bytes_eq tag.name (codes "type") && bytes_eq digits (0 ∷ 0x21 ∷ [])
is_status_field _ = false

-- whether the flag of a name in conflict is one of these
abbrev pub has_conflict : List (List ℕ) → Bool
has_conflict names = list_any (λ name. bytes_eq name (codes "CNF")) names

-- whether a flag is that of a name in conflict, and set
abbrev pub sets_conflict : Flag → Bool
sets_conflict f = f.is_set && bytes_eq f.name.now (codes "CNF")

-- whether a field says that a node's name is in conflict
abbrev pub is_conflict_field : Field → Bool
is_conflict_field (Set tag names) = bytes_eq tag.name (codes "set") && has_conflict names
is_conflict_field _ = false

-- what was heard so far, where these names are wanted
pub record Hearing : Type 0 where
  pub wanted : List (List ℕ)
  pub heard : Heard

-- the same, once a field was told
abbrev pub hears : Hearing → Field → Hearing
hears hearing field = record {
  wanted = hearing.wanted;
  heard = record {
    is_named = is_wanted_field hearing.wanted field || hearing.heard.is_named;
    status = is_status_field field || hearing.heard.status;
    conflict = is_conflict_field field || hearing.heard.conflict;
  };
}

-- IsHeard wanted payload port heard: this is heard of what still stands of a payload that came to the port
pub record IsHeard (wanted : List (List ℕ)) (payload : List ℕ) (port : ℕ) (heard : Heard) : Type 0 where
  pub fields : List Field
  pub tells : TellsFront payload port fields
  pub is_named : heard.is_named ≡ list_any (is_wanted_field wanted) fields
  pub status : heard.status ≡ list_any is_status_field fields
  pub conflict : heard.conflict ≡ list_any is_conflict_field fields
