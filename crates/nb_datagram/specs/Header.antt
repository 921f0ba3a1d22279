-- What each packet of port 138 begins with (RFC 1002 section 4.4.1): ten bytes. All offsets count from
-- the first of them; the numbers after the names of fields are their widths in bytes.
--   at 0  MSG_TYPE 1 · at 1  FLAGS 1 · at 2  DGM_ID 2 · at 4  SOURCE_IP 4 · at 8  SOURCE_PORT 2
-- Numbers stand with their high byte first.
use Rattle.std.specs.Prelude.{◌≡◌, ◌⊎◌, ℕ, ◌<◌, ◌^◌, ◌≤◌, List, ◌∷◌, ◌++◌, length}
use Rattle.std.specs.Int.{w16, to_be_bytes}
use Rattle.nb_datagram.specs.declared.key.Key.{Key}
use Rattle.nb_datagram.specs.declared.packet.QueryKind.{QueryKind}
use Rattle.nb_datagram.specs.declared.packet.QueryKind.TheVariants.{Request, Positive, Negative}

-- header_bytes type flags key: the bytes of a header
abbrev pub header_bytes : ℕ → ℕ → Key → List ℕ
header_bytes type flags key = type ∷ flags ∷ (to_be_bytes w16 key.id ++ (key.ip ++ to_be_bytes w16 key.port))

-- the fields of a header have room for this key
pub record IsKey (key : Key) : Type 0 where
  pub ip : length key.ip ≡ 4
  pub port : key.port < 2 ^ 16
  pub id : key.id < 2 ^ 16

-- the MSG_TYPE of error packets: hexadecimal 13
abbrev pub error_type : ℕ
error_type = 19

-- the MSG_TYPE of query packets: hexadecimal 14, 15 and 16
abbrev pub query_type : QueryKind → ℕ
query_type Request = 20
query_type Positive = 21
query_type Negative = 22

-- the types of datagrams, whole or in parts: hexadecimal 10 to 12
abbrev pub IsDirectType : ℕ → Type 0
IsDirectType type = (16 ≤ type) × (type ≤ 18)

-- the types of query packets
abbrev pub IsQueryType : ℕ → Type 0
IsQueryType type = (20 ≤ type) × (type ≤ 22)

-- no packet has this type
abbrev pub IsUnknownType : ℕ → Type 0
IsUnknownType type = (type < 16) ⊎ (22 < type)
