-- What the header of a packet says (RFC 1002 sections 4.2.1.1, 4.3.1 and 4.4.1).
use Rattle.std.specs.Prelude.{◌≢◌, ◌<◌, ℕ, ◌%◌, ◌||◌, Bool, not, List, length, nat_eq, Option, Some, None}
use Rattle.nb_service.specs.declared.limits.TheConstants.{HEADER_LENGTH}
use Rattle.nb_service.specs.Header.{HasHeader, PacketHeader}
use Rattle.nb_datagram.specs.declared.front.Front.{Front}
use Rattle.nb_datagram.specs.declared.front.FragmentFront.{FragmentFront}
use Rattle.nb_datagram.specs.Fronts.{HasFront, LacksHeader}
use Rattle.nb_session.specs.declared.limits.TheConstants.{HEADER_LENGTH as SESSION_HEADER}
use Rattle.nb_session.specs.declared.parsing.Header.{Header as SessionHeader}
use Rattle.nb_session.specs.Header.{HasHeader as HasSessionHeader}
use Rattle.nbt_look.specs.declared.heading.Heading.{Heading}
use Rattle.nbt_look.specs.declared.heading.Heading.TheVariants.{Names, Datagram, Session, Nothing}

-- PACKET_OFFSET, where there is one
abbrev pub offset_in : Option FragmentFront → ℕ
offset_in None = 0
offset_in (Some fragment) = fragment.offset

-- whether a packet has a piece of a datagram: M, the lowest bit of FLAGS, or a place in it that isn't its first one
abbrev pub is_piece : Front → Bool
is_piece front = nat_eq (front.flags % 2) 1 || not (nat_eq (offset_in front.fragment) 0)

-- IsHeading payload port heading: this is what the header of a payload that came to the port says; a port that is neither 137 nor 138 is taken
-- for port 139
pub data IsHeading (payload : List ℕ) : ℕ → Heading → Type 0 where
  names : (header : PacketHeader) → HasHeader payload header → IsHeading payload 137 (Names header.word)
  no_names : length payload < HEADER_LENGTH → IsHeading payload 137 Nothing
  message : (front : Front) → HasFront payload front → IsHeading payload 138 (Datagram front.message_type (is_piece front))
  no_message : LacksHeader payload → IsHeading payload 138 Nothing
  session : (port : ℕ) (header : SessionHeader) → port ≢ 137 → port ≢ 138 → HasSessionHeader payload header
      → IsHeading payload port (Session header.packet_type)
  no_session : (port : ℕ) → port ≢ 137 → port ≢ 138 → length payload < SESSION_HEADER → IsHeading payload port Nothing
