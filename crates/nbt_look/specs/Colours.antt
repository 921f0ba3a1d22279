-- The colours of lines on a terminal (our choice), by SGR (ECMA-48 section 8.3.117): ESC, a bracket, parameters, and `m`.
use Rattle.std.specs.Prelude.{◌≡◌, ℕ, Bool, false, List, [], ◌∷◌, codes, cond, nat_eq}
use Rattle.nb_service.specs.Header.{rcode_of}
use Rattle.nbt_look.specs.declared.counting.Outcome.{Outcome}
use Rattle.nbt_look.specs.declared.counting.Outcome.TheVariants.{Packet, Malformed, LeftOut, Without}
use Rattle.nbt_look.specs.declared.heading.Heading.{Heading}
use Rattle.nbt_look.specs.declared.heading.Heading.TheVariants.{Names, Datagram, Session, Nothing}
use Rattle.nbt_look.specs.Heading.{IsHeading}

-- whether the header of a packet of port 137 says that a name is in conflict: its RCODE is CFT_ERR, 7 (RFC 1002 section 4.2.8)
abbrev pub is_of_conflict : Heading → Bool
is_of_conflict (Names word) = nat_eq (rcode_of word) 7
is_of_conflict (Datagram type is_piece) = false
is_of_conflict (Session type) = false
is_of_conflict Nothing = false

-- what stands before the line of a packet that counts so, and whose header says this: red, yellow, magenta, or nothing
abbrev pub colour_of : Outcome → Heading → List ℕ
colour_of Malformed heading = 27 ∷ codes "[31m"
colour_of (LeftOut reason) heading = 27 ∷ codes "[33m"
colour_of Packet heading = cond (is_of_conflict heading) (27 ∷ codes "[35m") []
colour_of (Without l) heading = []

-- IsColourOf o payload port colour: the same of a packet with this payload that came to the port
pub record IsColourOf (o : Outcome) (payload : List ℕ) (port : ℕ) (colour : List ℕ) : Type 0 where
  pub heading : Heading
  pub begins : IsHeading payload port heading
  pub is : colour ≡ colour_of o heading
