-- What the call does that joins another station's table to a station's (our choice).
use Rattle.std.specs.Prelude.{◌≡◌, ◌<◌, ◌≤◌, ℕ, List, ◌∷◌, ◌++◌, length, Result, Ok, Err}
use Rattle.nb_calls.specs.Common.{w16, to_be_bytes, flat_map, DatagramParts, type_of, name_bytes, TableFault, Contents, TableValue, key_bytes, IsRefused, MemberValue, contents, Absorbs, Previews, NO_ROLE}
use Rattle.nb_member.specs.Events.{limits_of}
use Rattle.nb_calls.specs.Outputs.{Answers, Lent}
use Rattle.nb_calls.specs.Stations.{table_refusal}
use Rattle.nb_calls.specs.Statuses.{Refusal, Memory}
use Rattle.nb_calls.specs.Tables.{IsLoaded, IsUnread}

-- what is written of a datagram: its key as in saved tables, MSG_TYPE, both spellings, how many bytes its data has, and
-- these
abbrev pub heard_bytes : DatagramParts → List ℕ
heard_bytes d =
    key_bytes d.key ++ (type_of d.kind ∷ (name_bytes d.source ++ (name_bytes d.destination
    ++ (to_be_bytes w16 (length d.bytes) ++ d.bytes))))

-- what is written of datagrams, in order
abbrev pub all_heard : List DatagramParts → List ℕ
all_heard ds = flat_map heard_bytes ds

-- Hears m other answer: what the member m would hand over of the other table, unless memory runs
-- out, or why it doesn't take it in
pub data Hears (m : MemberValue) (other : Contents) : Result (List ℕ) Refusal → Type 0 where
  hears : (datagrams : List DatagramParts) → Previews m other datagrams → Hears m other (Ok (all_heard datagrams))
  lacks : (datagrams : List DatagramParts) → Previews m other datagrams → Hears m other (Err Memory)
  takes_not : (fault : TableFault) → IsRefused m.timed.table.limits (contents m) other fault
      → Hears m other (Err (table_refusal fault))

-- Joined m moment other room after answer: what is answered where the other table is joined to that of the member m at this
-- moment, and what becomes of m, whose caller has room for so many bytes: where those of what it hands over fit they are
-- answered, and else how many they are and nothing changes
pub data Joined (m : MemberValue) (moment : ℕ) (other : Contents) (room : ℕ) (after : MemberValue) : Result (List ℕ) Refusal → Type 0 where
  done : (datagrams : List DatagramParts) → Absorbs m other moment after datagrams → length (all_heard datagrams) ≤ room
      → Joined m moment other room after (Ok (all_heard datagrams))
  no_room : (bytes : List ℕ) → Hears m other (Ok bytes) → room < length bytes → after ≡ m
      → Joined m moment other room after (Ok bytes)
  refused : (refusal : Refusal) → Hears m other (Err refusal) → after ≡ m → Joined m moment other room after (Err refusal)

-- Absorbed m moment table room after answer: the same of a saved table, which is read first, under the limits of m
pub data Absorbed (m : MemberValue) (moment : ℕ) (table : List ℕ) (room : ℕ) (after : MemberValue) : Result (List ℕ) Refusal → Type 0 where
  read : (other : TableValue) (answer : Result (List ℕ) Refusal) → IsLoaded table (limits_of m.settings) other
      → Joined m moment other.contents room after answer → Absorbed m moment table room after answer
  not_read : (refusal : Refusal) → IsUnread NO_ROLE table (limits_of m.settings) refusal → after ≡ m
      → Absorbed m moment table room after (Err refusal)

-- AbsorbsInto m moment table after old new status: what the call does to the member m, and to what its caller lends
abbrev pub AbsorbsInto : MemberValue → ℕ → List ℕ → MemberValue → Lent → Lent → ℕ → Type 0
AbsorbsInto m moment table after old new status =
    (answer : Result (List ℕ) Refusal) × Absorbed m moment table (length old.buffer) after answer
    × Answers answer old new status
