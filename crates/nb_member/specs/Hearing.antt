-- The names that a member holds, the datagrams that it hears by them, and the error packets that it answers
-- with (RFC 1002 sections 4.4 and 5.3).
--
-- Our choice: a datagram to a unique or a group name is heard by whoever holds the name, whichever of the two
-- types it came by. A broadcast is heard by whoever holds a name of its destination's scope. Error packets
-- are sent for direct unique datagrams alone: where one is whole and isn't heard, and where a payload that
-- begins as one has a bad name. They have the flags 02, the datagram's identifier, and the member's own
-- address and port.
use Rattle.std.specs.Prelude.{◌≡◌, ◌<◌, ◌≤◌, ◌++◌, List, [], ◌∷◌, length, Contains, Result, Ok, Err, Bool, ℕ, Option, Some, None, ◌==◌, ◌&&◌, nat_le, slice_index, cond}
use Rattle.std.specs.List.{list_any}
use Rattle.std.specs.Int.{w16, from_be_bytes}
use Rattle.nb_names.specs.Name.{NetbiosName, name_eq}
use Rattle.nb_names.specs.DomainName.{domain_eq}
use Rattle.nb_datagram.specs.declared.key.Kind.{Kind}
use Rattle.nb_datagram.specs.declared.key.Kind.TheVariants.{Unique, Group, Broadcast}
use Rattle.nb_datagram.specs.declared.packet.ErrorPacket.{ErrorPacket}
use Rattle.nb_datagram.specs.declared.error_codes.TheConstants.{DESTINATION_NAME_NOT_PRESENT, INVALID_SOURCE_NAME_FORMAT, INVALID_DESTINATION_NAME_FORMAT}
use Rattle.nb_datagram.specs.declared.limits.TheConstants.{HEADER_LENGTH}
use Rattle.nb_datagram.specs.declared.fault.DatagramFault.{DatagramFault}
use Rattle.nb_datagram.specs.declared.fault.DatagramFault.TheVariants.{Truncated, UnknownType, SourceName, DestinationName}
use Rattle.nb_datagram.specs.Fragment.{DatagramParts}
use Rattle.nb_datagram.specs.Packet.{type_of}
use Rattle.nb_member.specs.declared.limits.TheConstants.{MAX_NAMES}
use Rattle.nb_member.specs.declared.local_names.AddFault.{AddFault}
use Rattle.nb_member.specs.declared.local_names.AddFault.TheVariants.{Present, TooMany, NoMemory}
use Rattle.nb_member.specs.declared.settings.Settings.{Settings}

-- ---- names

-- Adds old name new result: what adding a name to those held answers, and what it leaves
abbrev pub Adds : List NetbiosName → NetbiosName → List NetbiosName → Result Unit AddFault → Type 0
Adds old name new (Ok _) = (¬ Contains old name) × (length old < MAX_NAMES) × (new ≡ old ++ name ∷ [])
Adds old name new (Err Present) = Contains old name × (new ≡ old)
Adds old name new (Err TooMany) = (¬ Contains old name) × (MAX_NAMES ≤ length old) × (new ≡ old)
Adds old name new (Err NoMemory) = (¬ Contains old name) × (length old < MAX_NAMES) × (new ≡ old)

-- some of the names is this one
abbrev pub holds : List NetbiosName → NetbiosName → Bool
holds names name = list_any (λ held. name_eq held name) names

-- some of the names has this scope
abbrev pub holds_scope : List NetbiosName → List (List ℕ) → Bool
holds_scope names scope = list_any (λ held. domain_eq held.scope scope) names

-- ---- what is heard

-- hears_as names kind destination: a member with these names hears what is sent so
abbrev pub hears_as : List NetbiosName → Kind → NetbiosName → Bool
hears_as names Unique destination = holds names destination
hears_as names Group destination = holds names destination
hears_as names Broadcast destination = holds_scope names destination.scope

-- hears names d: a member with these names hears the datagram d
abbrev pub hears : List NetbiosName → DatagramParts → Bool
hears names d = hears_as names d.kind d.destination

-- the same as relations

-- HoldsScope names scope: some name has this scope
abbrev pub HoldsScope : List NetbiosName → List (List ℕ) → Type 0
HoldsScope names scope = (name : NetbiosName) × Contains names name × (name.scope ≡ scope)

-- HearsAs names kind destination: a member with these names hears what is sent so
abbrev pub HearsAs : List NetbiosName → Kind → NetbiosName → Type 0
HearsAs names Unique destination = Contains names destination
HearsAs names Group destination = Contains names destination
HearsAs names Broadcast destination = HoldsScope names destination.scope

-- Hears names d: a member with these names hears the datagram d
abbrev pub Hears : List NetbiosName → DatagramParts → Type 0
Hears names d = HearsAs names d.kind d.destination

-- ---- error packets

-- error_with settings id code: the error packet of this code about the datagram with this identifier
abbrev pub error_with : Settings → ℕ → ℕ → ErrorPacket
error_with settings id code = record {
  flags = 2;
  key = record { ip = settings.ip; port = settings.port; id = id };
  code = code;
}

-- error_about settings kind id code: that packet, if the datagram's kind is direct unique
abbrev pub error_about : Settings → Kind → ℕ → ℕ → Option ErrorPacket
error_about settings Unique id code = Some (error_with settings id code)
error_about settings Group id code = None
error_about settings Broadcast id code = None

-- unheard settings d: what is answered where d is whole and isn't heard
abbrev pub unheard : Settings → DatagramParts → Option ErrorPacket
unheard settings d = error_about settings d.kind d.key.id DESTINATION_NAME_NOT_PRESENT

-- the payload begins with the header of a direct unique datagram
abbrev pub begins_unique : List ℕ → Bool
begins_unique payload = nat_le HEADER_LENGTH (length payload) && slice_index payload 0 == type_of Unique

-- the DGM_ID of a header, which stands at 2
abbrev pub id_in : List ℕ → ℕ
id_in payload = from_be_bytes w16 (slice_index payload 2 ∷ slice_index payload 3 ∷ [])

-- bad_name settings payload code: what is answered to a payload with a bad name
abbrev pub bad_name : Settings → List ℕ → ℕ → Option ErrorPacket
bad_name settings payload code =
    cond (begins_unique payload) (Some (error_with settings (id_in payload) code)) None

-- refusal settings payload fault: what is answered to a payload that is refused with this fault
abbrev pub refusal : Settings → List ℕ → DatagramFault → Option ErrorPacket
refusal settings payload (Truncated at) = None
refusal settings payload UnknownType = None
refusal settings payload (SourceName fault) = bad_name settings payload INVALID_SOURCE_NAME_FORMAT
refusal settings payload (DestinationName fault) = bad_name settings payload INVALID_DESTINATION_NAME_FORMAT
