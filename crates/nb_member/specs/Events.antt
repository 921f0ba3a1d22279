-- What each event says to a member (RFC 1002 sections 4.4 and 5.3). Payloads are looked at as bytes only
-- here, in Taking, and where Hearing has what is answered to a refused one.
--
-- Our choice: a fragment is valid where it passes the limits of the member's table, as nb_table's Insert has
-- them: its flag F is set exactly at offset 0, and it doesn't reach past the longest datagram. The flag is
-- judged first. What follows a packet is left unread.
use Rattle.std.specs.Prelude.{ℕ, ◌≡◌, ◌==◌, ◌<◌, List, [], ◌∷◌}
use Rattle.nb_streams.specs.Places.{AreBytes}
use Rattle.nb_datagram.specs.declared.fault.DatagramFault.{DatagramFault}
use Rattle.nb_datagram.specs.declared.packet.ErrorPacket.{ErrorPacket}
use Rattle.nb_datagram.specs.declared.packet.Packet.TheVariants.{Direct, Error, Query}
use Rattle.nb_datagram.specs.Fragment.{FragmentParts, core_of, reach, is_first}
use Rattle.nb_datagram.specs.Packet.{QueryPacket, IsPacket}
use Rattle.nb_datagram.specs.DatagramFaults.{PacketFails}
use Rattle.nb_table.specs.declared.fault.TableFault.TheVariants.{MisplacedFirst, TooLong}
use Rattle.nb_table.specs.Limits.{Limits}
use Rattle.nb_table.specs.Insert.{IsMisplaced, Passes}
use Rattle.nb_member.specs.declared.outcome.MemberFault.{MemberFault}
use Rattle.nb_member.specs.declared.settings.Settings.{Settings}
use Rattle.nb_member.specs.declared.outcome.Event.{Event}
use Rattle.nb_member.specs.declared.outcome.Event.TheVariants.{Packet, Tick}
use Rattle.nb_member.specs.declared.outcome.MemberFault.TheVariants as fault
use Rattle.nb_member.specs.Hearing.{refusal}

-- what an event says to a member: that a fragment came at a moment; that a payload is refused, and why; that
-- another packet came; or what the clock shows
pub data Saying : Type 0 where
  came : ℕ → FragmentParts → Saying
  refused : MemberFault → Saying
  another : Saying
  clock : ℕ → Saying

-- the limits of a member's table
abbrev pub limits_of : Settings → Limits
limits_of settings = record { keys = settings.keys; per_source = settings.per_source; longest = settings.longest }

-- Says settings event saying: what the event says to a member with these settings
pub data Says (settings : Settings) : Event → Saying → Type 0 where
  fragment : (moment used : ℕ) (payload : List ℕ) (f : FragmentParts)
      → IsPacket payload (Direct f) used → Passes (limits_of settings) f
      → Says settings (Packet moment payload) (came moment f)
  misplaced : (moment used : ℕ) (payload : List ℕ) (f : FragmentParts)
      → IsPacket payload (Direct f) used → IsMisplaced f
      → Says settings (Packet moment payload) (refused (fault.Table MisplacedFirst))
  too_long : (moment used : ℕ) (payload : List ℕ) (f : FragmentParts)
      → IsPacket payload (Direct f) used → is_first f.flags ≡ (f.offset == 0)
      → settings.longest < reach (core_of f)
      → Says settings (Packet moment payload) (refused (fault.Table TooLong))
  no_packet : (moment : ℕ) (payload : List ℕ) (x : DatagramFault) → PacketFails payload x
      → Says settings (Packet moment payload) (refused (fault.Packet x (refusal settings payload x)))
  error : (moment used : ℕ) (payload : List ℕ) (e : ErrorPacket) → IsPacket payload (Error e) used
      → Says settings (Packet moment payload) another
  query : (moment used : ℕ) (payload : List ℕ) (q : QueryPacket) → IsPacket payload (Query q) used
      → Says settings (Packet moment payload) another
  tick : (now : ℕ) → Says settings (Tick now) (clock now)

-- Say settings events sayings: each event says what stands at its place
pub data Say (settings : Settings) : List Event → List Saying → Type 0 where
  none : Say settings [] []
  more : (event : Event) (saying : Saying) (events : List Event) (sayings : List Saying)
      → Says settings event saying → Say settings events sayings
      → Say settings (event ∷ events) (saying ∷ sayings)

-- HasBytes event: the numbers of its payload are bytes
abbrev pub HasBytes : Event → Type 0
HasBytes (Packet moment payload) = AreBytes payload
HasBytes (Tick now) = Unit {0}
