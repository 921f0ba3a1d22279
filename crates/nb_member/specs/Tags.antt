-- The keys of the fields of a report and of a listing (our choice): what a field is called in an object, and what stands
-- before its value in text.
use Rattle.std.specs.Prelude.{ℕ, List, [], codes}
use Rattle.nb_telling.specs.Telling.{FieldTag}

-- a key of this name, before whose value this stands
abbrev pub tag_of : List ℕ → List ℕ → FieldTag
tag_of name lead = record { name = name; lead = lead }

-- ---- of a report; a line's number stands before it

-- what became of a payload
abbrev pub outcome_tag : FieldTag
outcome_tag = tag_of (codes "outcome") []

-- how many keys were dropped
abbrev pub count_tag : FieldTag
count_tag = tag_of (codes "count") (codes " ")

-- why it was refused
abbrev pub refused_tag : FieldTag
refused_tag = tag_of (codes "refused") (codes "refused ")

-- the error packet that is answered
abbrev pub error_tag : FieldTag
error_tag = tag_of (codes "error") (codes " error ")

-- ---- of both

-- the key of a datagram
abbrev pub key_tag : FieldTag
key_tag = tag_of (codes "key") (codes " ")

-- its kind
abbrev pub kind_tag : FieldTag
kind_tag = tag_of (codes "kind") (codes " ")

-- who sends it
abbrev pub source_tag : FieldTag
source_tag = tag_of (codes "source") (codes " ")

-- whom it is for
abbrev pub destination_tag : FieldTag
destination_tag = tag_of (codes "destination") (codes " ")

-- its bytes
abbrev pub data_tag : FieldTag
data_tag = tag_of (codes "data") (codes " ")

-- ---- of a listing, whose lines begin with the key

-- the key
abbrev pub listed_tag : FieldTag
listed_tag = tag_of (codes "key") []

-- what is known of it
abbrev pub state_tag : FieldTag
state_tag = tag_of (codes "state") (codes " ")

-- how many bytes are known
abbrev pub held_tag : FieldTag
held_tag = tag_of (codes "held") (codes " ")

-- how many there are
abbrev pub end_tag : FieldTag
end_tag = tag_of (codes "end") (codes "/")

-- how many runs they make
abbrev pub runs_tag : FieldTag
runs_tag = tag_of (codes "runs") (codes " ")

-- the greatest promise
abbrev pub more_tag : FieldTag
more_tag = tag_of (codes "more") (codes " more ")
