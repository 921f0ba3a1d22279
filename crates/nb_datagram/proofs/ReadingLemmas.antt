-- What a reading has found makes a packet.
use Rattle.nb_datagram.proofs.Common.{◌≡◌, ℕ, ◌+◌, ◌≤◌, List, [], ◌∷◌, ◌++◌, length, take, drop, get_or, ap, sym, subst, ◌∙◌, arith, length-append, length-drop, length-take-le, take_all, take-append-drop, w16, to_be_bytes, Refused, StandsAt, NumberAt, NameAt, NetbiosName, IsName, labels_of_name, stands_in_all, stands_joined, stands_before, stands_one, spelled_there, named_length, type_of, name_bytes, IsPacket, header_bytes, error_type, query_type, IsDirectType, IsQueryType, HasType, DirectFails, PacketFails, direct_fails, query_fails}
use Rattle.nb_names.specs.NameFaults.{NetbiosFaultAt}
use Rattle.nb_names.specs.declared.fault.NameFault.{NameFault}
use Rattle.nb_datagram.specs.declared.front.Header.{Header}
use Rattle.nb_datagram.specs.declared.key.Key.{Key}
use Rattle.nb_datagram.specs.declared.key.Kind.{Kind}
use Rattle.nb_datagram.specs.declared.packet.Packet.TheVariants as packets
use Rattle.nb_datagram.specs.declared.packet.QueryKind.{QueryKind}
use Rattle.nb_datagram.specs.declared.fault.DatagramFault.{DatagramFault}
use Rattle.nb_datagram.specs.declared.fault.DatagramFault.TheVariants.{DestinationName}
use Rattle.nb_datagram.specs.declared.key.Kind.TheVariants.{Unique, Group, Broadcast}
use Rattle.nb_datagram.specs.declared.packet.QueryKind.TheVariants.{Request, Positive, Negative}
use Rattle.nb_datagram.specs.Code.Reading.{HasHeader}

-- what stands in front, and the rest
stands_whole : (bytes xs : List ℕ) → StandsAt bytes 0 xs → bytes ≡ xs ++ drop (length xs) bytes
stands_whole bytes xs h = sym (take-append-drop (length xs) bytes) ∙ ap (λ (r : List ℕ). r ++ drop (length xs) bytes) h

-- a header has its type
pub header_type : (bytes : List ℕ) (h : Header) → HasHeader bytes h → HasType bytes h.message_type
header_type bytes h there = record {
  whole = there.whole;
  first = stands_before bytes 0 (h.message_type ∷ []) (h.flags ∷ (to_be_bytes w16 h.key.id ++ (h.key.ip ++ to_be_bytes w16 h.key.port))) there.stands;
}

-- the bytes of a header are ten
pub header_long : (type flags : ℕ) (key : Key) → length key.ip ≡ 4 → length (header_bytes type flags key) ≡ 10
header_long type flags key four = omega (arith, length-append key.ip (to_be_bytes w16 key.port), four)

-- what stands after a header stands with it
pub behind_header : (bytes : List ℕ) (h : Header) (type : ℕ) (more : List ℕ) → HasHeader bytes h → h.message_type ≡ type → StandsAt bytes 10 more →
    StandsAt bytes 0 (header_bytes type h.flags h.key ++ more)
behind_header bytes h type more there is g =
    let long = header_long h.message_type h.flags h.key there.key.ip in
    let place : 10 ≡ 0 + length (header_bytes h.message_type h.flags h.key) = omega (arith, long) in
    subst (λ (t : ℕ). StandsAt bytes 0 (header_bytes t h.flags h.key ++ more)) is
    (stands_joined bytes 0 (header_bytes h.message_type h.flags h.key) more there.stands
    (subst (λ (n : ℕ). StandsAt bytes n more) place g))

-- an error packet
pub error_there : (bytes : List ℕ) (h : Header) → HasHeader bytes h → h.message_type ≡ error_type → 11 ≤ length bytes →
    IsPacket bytes (packets.Error (record { flags = h.flags; key = h.key; code = get_or bytes 10 0 })) 11
error_there bytes h there is fits =
    let all : List ℕ = header_bytes error_type h.flags h.key ++ get_or bytes 10 0 ∷ [] in
    let stands : StandsAt bytes 0 all = behind_header bytes h error_type (get_or bytes 10 0 ∷ []) there is (stands_one bytes 10 (omega arith)) in
    record {
      fits = there.key;
      rest = drop (length all) bytes;
      whole = stands_whole bytes all stands;
      counted = omega (arith, length-append (header_bytes error_type h.flags h.key) (get_or bytes 10 0 ∷ []), header_long error_type h.flags h.key there.key.ip);
    }

-- a query packet
pub query_there : (bytes : List ℕ) (h : Header) (kind : QueryKind) (name : NetbiosName) (used : ℕ) → HasHeader bytes h → h.message_type ≡ query_type kind → IsName name → NameAt bytes Refused 10 (labels_of_name name) used →
    IsPacket bytes (packets.Query (record { kind = kind; flags = h.flags; key = h.key; destination = name })) used
query_there bytes h kind name used there is formed named =
    let spelled = spelled_there bytes 10 10 (labels_of_name name) used named in
    let all : List ℕ = header_bytes (query_type kind) h.flags h.key ++ name_bytes name in
    let stands : StandsAt bytes 0 all = behind_header bytes h (query_type kind) (name_bytes name) there is spelled.0 in
    record {
      fits = (there.key, formed);
      rest = drop (length all) bytes;
      whole = stands_whole bytes all stands;
      counted = omega (arith, length-append (header_bytes (query_type kind) h.flags h.key) (name_bytes name), header_long (query_type kind) h.flags h.key there.key.ip, spelled.1);
    }

-- what a reading of a fragment has found
pub record HasFragment (bytes : List ℕ) (size offset : ℕ) (source destination : NetbiosName) (behind start : ℕ) : Type 0 where
  pub size_there : NumberAt bytes 10 w16 size
  pub offset_there : NumberAt bytes 12 w16 offset
  pub whole : 14 + size ≤ length bytes
  pub source_there : NameAt (take (14 + size) bytes) Refused 14 (labels_of_name source) behind
  pub destination_there : NameAt (take (14 + size) bytes) Refused behind (labels_of_name destination) start
  pub within : start ≤ length (take (14 + size) bytes)
  pub source_name : IsName source
  pub destination_name : IsName destination

-- the data of a fragment: the rest of the bytes that DGM_LENGTH counts
abbrev pub data_of : List ℕ → ℕ → ℕ → List ℕ
data_of bytes size start = drop start (take (14 + size) bytes)

data_long : (bytes : List ℕ) (size offset : ℕ) (source destination : NetbiosName) (behind start : ℕ) → HasFragment bytes size offset source destination behind start →
    (length (data_of bytes size start) + start ≡ 14 + size)
data_long bytes size offset source destination behind start f =
    omega (arith, length-drop start (take (14 + size) bytes), length-take-le (14 + size) bytes f.whole, f.within)

-- DGM_LENGTH counts the names and the data
pub named_there : (bytes : List ℕ) (size offset : ℕ) (source destination : NetbiosName) (behind start : ℕ) → HasFragment bytes size offset source destination behind start →
    named_length source destination (data_of bytes size start) ≡ size
named_there bytes size offset source destination behind start f =
    let first = spelled_there _ 14 14 (labels_of_name source) behind f.source_there in
    let second = spelled_there _ behind behind (labels_of_name destination) start f.destination_there in
    omega (arith, first.1, second.1, data_long bytes size offset source destination behind start f)

-- the bytes after the header
direct_there : (bytes : List ℕ) (size offset : ℕ) (source destination : NetbiosName) (behind start : ℕ) → HasFragment bytes size offset source destination behind start →
    StandsAt bytes 10 (to_be_bytes w16 size ++ (to_be_bytes w16 offset ++ (name_bytes source ++ (name_bytes destination ++ data_of bytes size start))))
direct_there bytes size offset source destination behind start f =
    let carried : List ℕ = data_of bytes size start in
    let first = spelled_there _ 14 14 (labels_of_name source) behind f.source_there in
    let second = spelled_there _ behind behind (labels_of_name destination) start f.destination_there in
    let long = data_long bytes size offset source destination behind start f in
    let whole : StandsAt (take (14 + size) bytes) start carried = take_length carried in
    let rest : StandsAt bytes start carried = stands_in_all bytes (14 + size) start carried (omega (arith, long)) whole in
    let to : StandsAt bytes behind (name_bytes destination) = stands_in_all bytes (14 + size) behind (name_bytes destination) (omega (arith, second.1, long)) second.0 in
    let from : StandsAt bytes 14 (name_bytes source) = stands_in_all bytes (14 + size) 14 (name_bytes source) (omega (arith, first.1, second.1, long)) first.0 in
    let tail : StandsAt bytes behind (name_bytes destination ++ carried) =
    stands_joined bytes behind (name_bytes destination) carried to (subst (λ (n : ℕ). StandsAt bytes n carried) second.1 rest) in
    let names : StandsAt bytes 14 (name_bytes source ++ (name_bytes destination ++ carried)) =
    stands_joined bytes 14 (name_bytes source) (name_bytes destination ++ carried) from (subst (λ (n : ℕ). StandsAt bytes n (name_bytes destination ++ carried)) first.1 tail) in
    stands_joined bytes 10 (to_be_bytes w16 size) _ f.size_there.bytes
    (stands_joined bytes 12 (to_be_bytes w16 offset) _ f.offset_there.bytes names)
  where
    take_length : (xs : List ℕ) → take (length xs) xs ≡ xs
    take_length xs = take_all (length xs) xs (omega arith)

-- a fragment
pub fragment_there : (bytes : List ℕ) (h : Header) (kind : Kind) (size offset : ℕ) (source destination : NetbiosName) (behind start : ℕ) →
    HasHeader bytes h → h.message_type ≡ type_of kind → HasFragment bytes size offset source destination behind start →
    IsPacket bytes (packets.Direct (record { kind = kind; flags = h.flags; key = h.key; offset = offset; source = source; destination = destination; bytes = data_of bytes size start })) (14 + size)
fragment_there bytes h kind size offset source destination behind start there is f =
    let carried : List ℕ = data_of bytes size start in
    let count = named_there bytes size offset source destination behind start f in
    let behind_it : StandsAt bytes 10 (to_be_bytes w16 (named_length source destination carried) ++ (to_be_bytes w16 offset ++ (name_bytes source ++ (name_bytes destination ++ carried)))) =
    subst (λ (n : ℕ). StandsAt bytes 10 (to_be_bytes w16 n ++ (to_be_bytes w16 offset ++ (name_bytes source ++ (name_bytes destination ++ carried))))) (sym count)
    (direct_there bytes size offset source destination behind start f) in
    let body : List ℕ = to_be_bytes w16 (named_length source destination carried) ++ (to_be_bytes w16 offset ++ (name_bytes source ++ (name_bytes destination ++ carried))) in
    let all : List ℕ = header_bytes (type_of kind) h.flags h.key ++ body in
    let stands : StandsAt bytes 0 all = behind_header bytes h (type_of kind) body there is behind_it in
    let small = f.size_there.fits in
    record {
      fits = record { key = there.key; offset = f.offset_there.fits; source = f.source_name; destination = f.destination_name; short = omega (arith, count, small) };
      rest = drop (length all) bytes;
      whole = stands_whole bytes all stands;
      counted = omega (
        arith,
        count,
        length-append (header_bytes (type_of kind) h.flags h.key) body,
        header_long (type_of kind) h.flags h.key there.key.ip,
        length-append (name_bytes source) (name_bytes destination ++ carried),
        length-append (name_bytes destination) carried,
      );
    }

-- ---- faults

pub kind_range : (k : Kind) → IsDirectType (type_of k)
kind_range Unique = (omega arith, omega arith)
kind_range Group = (omega arith, omega arith)
kind_range Broadcast = (omega arith, omega arith)

pub query_range : (k : QueryKind) → IsQueryType (query_type k)
query_range Request = (omega arith, omega arith)
query_range Positive = (omega arith, omega arith)
query_range Negative = (omega arith, omega arith)

-- a query packet's name has this fault
pub query_named : (bytes : List ℕ) (h : Header) (kind : QueryKind) (fault : NameFault) → HasHeader bytes h → h.message_type ≡ query_type kind → NetbiosFaultAt bytes Refused 10 fault →
    PacketFails bytes (DestinationName fault)
query_named bytes h kind fault there is fails =
    query_fails (query_type kind) fault (subst (HasType bytes) is (header_type bytes h there)) (query_range kind) fails

-- a fragment's packet has this fault
pub direct_failed : (bytes : List ℕ) (h : Header) (kind : Kind) (fault : DatagramFault) → HasHeader bytes h → h.message_type ≡ type_of kind → DirectFails bytes fault → PacketFails bytes fault
direct_failed bytes h kind fault there is fails =
    direct_fails (type_of kind) (subst (HasType bytes) is (header_type bytes h there)) (kind_range kind) fails
