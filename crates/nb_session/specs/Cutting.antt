-- Rows of packets, and the one way in which bytes are cut into them; and what was fed to a stream and
-- handed out by it, in any row of calls.
use Rattle.std.specs.Prelude.{◌≡◌, ℕ, List, [], ◌∷◌, ◌++◌, Result, Ok, Err}
use Rattle.nb_session.specs.declared.parsing.Parsed.TheVariants.{Whole}
use Rattle.nb_session.specs.declared.stream.FeedFault.{FeedFault}
use Rattle.nb_session.specs.declared.stream.Next.{Next}
use Rattle.nb_session.specs.declared.stream.Next.TheVariants.{Packet as taken_packet, More, Failed}
use Rattle.nb_session.specs.Packet.{Packet, IsPacket}
use Rattle.nb_session.specs.Parsing.{Parses}
use Rattle.nb_session.specs.Stream.{Feeds, Takes, StreamValue, running}

-- ArePackets packets bytes: these bytes are these packets, one after the other
pub data ArePackets : List Packet → List ℕ → Type 0 where
  no_packet : ArePackets [] []
  one_more : (packet : Packet) (packets : List Packet) (bytes rest : List ℕ) → IsPacket packet bytes
      → ArePackets packets rest → ArePackets (packet ∷ packets) (bytes ++ rest)

-- no whole packet stands at the front of these bytes
abbrev pub BeginsWithNone : List ℕ → Type 0
BeginsWithNone bytes = (packet : Packet) (used : ℕ) → ¬ Parses bytes (Whole packet used)

-- IsCut bytes packets rest: the bytes are these whole packets, and a rest that begins with none
pub record IsCut (bytes : List ℕ) (packets : List Packet) (rest : List ℕ) : Type 0 where
  pub front : List ℕ
  pub there : ArePackets packets front
  pub exact : bytes ≡ front ++ rest
  pub behind : BeginsWithNone rest

-- the bytes of a piece that a stream took
abbrev pub taken_of : List ℕ → Result Unit FeedFault → List ℕ
taken_of piece (Ok _) = piece
taken_of piece (Err fault) = []

-- HandsOut next packets: these are the packets that are handed out where this comes next: one, or none
abbrev pub HandsOut : Next → List Packet → Type 0
HandsOut (taken_packet taken) packets = (packet : Packet) × (packets ≡ packet ∷ []) × IsPacket packet taken.bytes.now
HandsOut (More needed) packets = packets ≡ []
HandsOut (Failed fault) packets = packets ≡ []

-- History fed packets stream: by some row of calls on a new stream, these bytes were fed to it, in any
-- pieces, and these packets were handed out by it; and this is the stream now
pub data History : List ℕ → List Packet → StreamValue → Type 0 where
  begun : History [] [] (running [])
  fed_on : (fed : List ℕ) (packets : List Packet) (old new : StreamValue) (piece : List ℕ) (answer : Result Unit FeedFault)
      → History fed packets old → Feeds old piece new answer → History (fed ++ taken_of piece answer) packets new
  asked : (fed : List ℕ) (packets more : List Packet) (old new : StreamValue) (next : Next)
      → History fed packets old → Takes old next new → HandsOut next more → History fed (packets ++ more) new
