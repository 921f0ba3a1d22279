-- The datagrams that events make whole, those that a member hears of them, and the error packets that it answers
-- (RFC 1002 section 5.3); and what an answer shows of both.
use Rattle.std.specs.Prelude.{List, [], Option, None, cond, ◌∷◌, ◌++◌, filter, Result, Ok, Err}
use Rattle.std.specs.Option.{option_to_list}
use Rattle.std.specs.List.{flat_map}
use Rattle.nb_names.specs.Name.{NetbiosName}
use Rattle.nb_datagram.specs.declared.packet.ErrorPacket.{ErrorPacket}
use Rattle.nb_datagram.specs.Fragment.{DatagramParts}
use Rattle.nb_table.specs.Contents.{newly_whole}
use Rattle.nb_member.specs.declared.settings.Settings.{Settings}
use Rattle.nb_member.specs.declared.outcome.MemberFault.{MemberFault}
use Rattle.nb_member.specs.declared.outcome.MemberFault.TheVariants.{Packet, Table}
use Rattle.nb_member.specs.declared.outcome.Outcome.{Outcome}
use Rattle.nb_member.specs.declared.outcome.Outcome.TheVariants.{Kept, Spoilt, Delivered, Unheard, Other}
use Rattle.nb_member.specs.Events.{Saying, came, refused, another, clock}
use Rattle.nb_member.specs.Live.{Timed, table_from, live_after}
use Rattle.nb_member.specs.Hearing.{hears, unheard}

-- ---- what events give

-- made_by settings L s: the datagram that an event that says s makes whole, if it does, where L are live
abbrev pub made_by : Settings → List Timed → Saying → List DatagramParts
made_by settings L (came moment f) =
    option_to_list (newly_whole (table_from L) (table_from (live_after settings L (came moment f))) f.key)
made_by settings L (refused fault) = []
made_by settings L another = []
made_by settings L (clock now) = []

-- the error packet that a refused payload is answered with, if it is
abbrev pub error_of : MemberFault → Option ErrorPacket
error_of (Packet fault error) = error
error_of (Table fault) = None

-- errors_by settings names L s: the error packet that a member with these names answers, if it does
abbrev pub errors_by : Settings → List NetbiosName → List Timed → Saying → List ErrorPacket
errors_by settings names L (came moment f) =
    flat_map (λ d. cond (hears names d) [] (option_to_list (unheard settings d))) (made_by settings L (came moment f))
errors_by settings names L (refused fault) = option_to_list (error_of fault)
errors_by settings names L another = []
errors_by settings names L (clock now) = []

-- made settings L S: the datagrams that events that say S make whole, in order, where L are live before
abbrev pub made : Settings → List Timed → List Saying → List DatagramParts
made settings L [] = []
made settings L (s ∷ S) = made_by settings L s ++ made settings (live_after settings L s) S

-- deliveries settings names L S: those of them that a member with these names hears, in order
abbrev pub deliveries : Settings → List NetbiosName → List Timed → List Saying → List DatagramParts
deliveries settings names L S = filter (hears names) (made settings L S)

-- errors settings names L S: the error packets that a member with these names answers, in order
abbrev pub errors : Settings → List NetbiosName → List Timed → List Saying → List ErrorPacket
errors settings names L [] = []
errors settings names L (s ∷ S) = errors_by settings names L s ++ errors settings names (live_after settings L s) S

-- ---- what an answer shows

-- the datagram that is handed over, if one is
abbrev pub delivery_in : Result Outcome MemberFault → List DatagramParts
delivery_in (Ok (Kept k)) = []
delivery_in (Ok (Spoilt k)) = []
delivery_in (Ok (Delivered d)) = d ∷ []
delivery_in (Ok (Unheard k error)) = []
delivery_in (Ok Other) = []
delivery_in (Err fault) = []

-- the error packet, if there is one
abbrev pub error_in : Result Outcome MemberFault → List ErrorPacket
error_in (Ok (Kept k)) = []
error_in (Ok (Spoilt k)) = []
error_in (Ok (Delivered d)) = []
error_in (Ok (Unheard k error)) = option_to_list error
error_in (Ok Other) = []
error_in (Err fault) = option_to_list (error_of fault)
