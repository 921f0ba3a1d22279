-- Fields as the members of a JSON object (RFC 8259), in the tokens of the kit's `json`. Data that is empty is an empty string.
use Rattle.std.specs.Prelude.{ℕ, List, [], ◌∷◌, ◌++◌, codes, map, Option, Some, None}
use Rattle.std.specs.Fmt.{decimal}
use Rattle.std.specs.List.{flat_map}
use Rattle.json.specs.Token.{Token, begin_object, end_object, begin_array, end_array, key, string, number, null}
use Rattle.json.specs.Print.{print}
use Rattle.nb_streams.specs.Hexadecimal.{digits_text}
use Rattle.nb_telling.specs.Telling.{Field, Text, Number, Digits, Data, Set, Known, Range, Words, At, Begins, Ends, Part, PartEnds, LineEnds}

-- a number, or `null` where it isn't known
abbrev pub known_token : Option ℕ → Token
known_token None = null
known_token (Some n) = number (decimal n)

-- the tokens of a field
abbrev pub field_tokens : Field → List Token
field_tokens (Text k text) = key k.name ∷ string text ∷ []
field_tokens (Number k n) = key k.name ∷ number (decimal n) ∷ []
field_tokens (Digits k bytes) = key k.name ∷ string (digits_text bytes) ∷ []
field_tokens (Data k bytes) = key k.name ∷ string (digits_text bytes) ∷ []
field_tokens (Set k names) = key k.name ∷ begin_array ∷ (map string names ++ end_array ∷ [])
field_tokens (Known k n) = key k.name ∷ known_token n ∷ []
field_tokens (Range lead from to) = begin_array ∷ number (decimal from) ∷ number (decimal to) ∷ end_array ∷ []
field_tokens (Words words) = []
field_tokens (At n) = key (codes "at") ∷ number (decimal n) ∷ []
field_tokens (Begins name) = key name ∷ begin_array ∷ []
field_tokens Ends = end_array ∷ []
field_tokens (Part lead) = begin_object ∷ []
field_tokens PartEnds = end_object ∷ []
field_tokens LineEnds = []

-- the tokens of fields, one after the other
abbrev pub tokens_of : List Field → List Token
tokens_of = flat_map field_tokens

-- the bytes of the object whose members these are
abbrev pub object_of : List Field → List ℕ
object_of fields = print (begin_object ∷ (tokens_of fields ++ end_object ∷ []))
