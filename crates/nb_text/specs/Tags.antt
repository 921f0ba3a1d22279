-- The tags of a packet's fields (our choice): what a field is called in an object, and what stands before its value in text.
use Rattle.std.specs.Prelude.{ℕ, List, [], ◌∷◌, ◌++◌, codes}
use Rattle.nb_telling.specs.Telling.{FieldTag}
use Prim.Native.String.{String}

-- a tag of this name, before whose value this stands
abbrev pub tag_of : List ℕ → List ℕ → FieldTag
tag_of name lead = record { name = name; lead = lead }

-- a tag of this name, before whose value it stands, as ` ttl=`
abbrev pub tag_named : String → FieldTag
tag_named name = tag_of (codes name) (32 ∷ (codes name ++ codes "="))

-- what a packet is, with which its line begins
abbrev pub kind_tag : FieldTag
kind_tag = tag_of (codes "kind") []

-- how many bytes are missing, with which a line begins too
abbrev pub more_tag : FieldTag
more_tag = tag_of (codes "more") (codes "more ")

-- why there is no packet, with which a line begins too
abbrev pub refused_tag : FieldTag
refused_tag = tag_of (codes "refused") (codes "refused ")

-- the identifier of a packet of port 137, with which its line begins
abbrev pub id_tag : FieldTag
id_tag = tag_of (codes "id") (codes "id=")

-- a name, which stands alone
abbrev pub name_tag : FieldTag
name_tag = tag_of (codes "name") (codes " ")

-- the number that says what a packet is, where none of its kind is known
abbrev pub packet_type_tag : FieldTag
packet_type_tag = tag_of (codes "type") (codes "type=")

-- the port to which a session is to go; `port` is in an object the port to which a payload came
abbrev pub to_port_tag : FieldTag
to_port_tag = tag_of (codes "to_port") (codes " port=")
