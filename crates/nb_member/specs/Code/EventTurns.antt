-- What one of several events makes of a member, and of what is handed out of them (our choice).
use Rattle.std.specs.Prelude.{Bool, true, false, Result, Ok, Err, List, ◌≡◌, ◌++◌, cond, [], ◌∷◌, filter}
use Rattle.nb_names.specs.Name.{NetbiosName}
use Rattle.nb_datagram.specs.declared.packet.ErrorPacket.{ErrorPacket}
use Rattle.nb_datagram.specs.Fragment.{DatagramParts}
use Rattle.nb_table.specs.declared.fault.TableFault.TheVariants as table_fault
use Rattle.nb_member.specs.declared.outcome.MemberFault.{MemberFault}
use Rattle.nb_member.specs.declared.outcome.MemberFault.TheVariants.{Packet, Table}
use Rattle.nb_member.specs.declared.outcome.Outcome.{Outcome}
use Rattle.nb_member.specs.declared.event_taking.RunStop.{RunStop}
use Rattle.nb_member.specs.declared.event_taking.RunStop.TheVariants.{Full, FullSource, NoMemory}
use Rattle.nb_member.specs.declared.outcome.Event.{Event}
use Rattle.nb_member.specs.declared.settings.Settings.{Settings}
use Rattle.nb_member.specs.Deliveries.{made_by, errors_by}
use Rattle.nb_member.specs.Hearing.{hears}
use Rattle.nb_member.specs.Events.{Saying, Says}
use Rattle.nb_member.specs.Live.{Timed, HasRoom, live_after}
use Rattle.nb_member.specs.Member.{MemberValue, StandsOver}
use Rattle.nb_member.specs.EventTaking.{refused_count, StopsAt}

-- what an answer comes to: whether the event was refused, or why no further one is taken
abbrev pub noted : Result Outcome MemberFault → Result Bool RunStop
noted (Ok outcome) = Ok false
noted (Err (Packet fault error)) = Ok true
noted (Err (Table table_fault.MisplacedFirst)) = Ok true
noted (Err (Table table_fault.TooLong)) = Ok true
noted (Err (Table (table_fault.FullSource k))) = Err (FullSource k)
noted (Err (Table (table_fault.Full k))) = Err (Full k)
noted (Err (Table table_fault.NoMemory)) = Err NoMemory

-- what has been handed out so far
pub record HandedOut : Type 0 where
  pub deliveries : List DatagramParts
  pub errors : List ErrorPacket

-- HasTaken settings names L event new before after refused: a member with these settings and names, which
-- stood for L, did what the event says, which met no limit on keys, and became new; what was handed out is
-- more by what that gives, and refused says whether the event was refused
pub record HasTaken (settings : Settings) (names : List NetbiosName) (L : List Timed) (event : Event) (new : MemberValue)
    (before after : HandedOut) (refused : Bool) : Type 0 where
  pub said : Saying
  pub says : Says settings event said
  pub has_room : HasRoom settings L said
  pub stands : StandsOver new (live_after settings L said)
  pub deliveries : after.deliveries ≡ before.deliveries ++ filter (hears names) (made_by settings L said)
  pub errors : after.errors ≡ before.errors ++ errors_by settings names L said
  pub count : cond refused 1 0 ≡ refused_count (said ∷ [])

-- TakesEvent m L event new before after result: what one event makes of the member m, which stands for L:
-- the event is taken, or it changes nothing and is the one at which no more are taken
abbrev pub TakesEvent : MemberValue → List Timed → Event → MemberValue → HandedOut → HandedOut → Result Bool RunStop → Type 0
TakesEvent m L event new before after (Ok refused) = HasTaken m.settings m.names L event new before after refused
TakesEvent m L event new before after (Err stop) = StopsAt m.settings L event stop × (new ≡ m) × (after ≡ before)
