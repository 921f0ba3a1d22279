-- A stream of session packets that comes in pieces: what each of its calls does.
use Rattle.std.specs.Prelude.{◌≡◌, ◌⊎◌, ℕ, List, ◌++◌, Result, Ok, Err, Option, Some, None}
use Rattle.nb_session.specs.declared.parsing.Parsed.TheVariants.{More as more_parsed, Refused}
use Rattle.nb_session.specs.declared.stream.FeedFault.{FeedFault}
use Rattle.nb_session.specs.declared.stream.FeedFault.TheVariants.{Failed as failed_feed, NoMemory}
use Rattle.nb_session.specs.declared.stream.Next.{Next}
use Rattle.nb_session.specs.declared.stream.Next.TheVariants.{Packet, More, Failed}
use Rattle.nb_session.specs.Packet.{IsWhole}
use Rattle.nb_session.specs.Parsing.{Parses}
use Rattle.nb_session.specs.declared.fault.SessionFault.{SessionFault}

-- ---- A stream as a value

-- the bytes that were fed and not handed out, and the fault that the stream answers ever after, if any
pub record StreamValue : Type 0 where
  pub held : List ℕ
  pub failed : Option SessionFault

-- a stream in memory: what it is, and of how many bytes it has memory now: those that it holds, and those handed out
-- that it hasn't dropped yet
pub record KeptStream : Type 0 where
  pub value : StreamValue
  pub kept : ℕ

-- a stream that holds these bytes, and hasn't failed
abbrev pub running : List ℕ → StreamValue
running held = record { held = held; failed = None }

-- a stream that holds these bytes, and has failed
abbrev pub stopped : List ℕ → SessionFault → StreamValue
stopped held fault = record { held = held; failed = Some fault }

-- Feeds old piece new answer: feeding the piece gives the answer, and leaves the new stream: the piece
-- comes after what is held; or nothing changes, because the stream has failed, or for want of memory
abbrev pub Feeds : StreamValue → List ℕ → StreamValue → Result Unit FeedFault → Type 0
Feeds old piece new (Ok _) = (old ≡ running old.held) × (new ≡ running (old.held ++ piece))
Feeds old piece new (Err (failed_feed fault)) = (old ≡ stopped old.held fault) × (new ≡ old)
Feeds old piece new (Err NoMemory) = (old ≡ running old.held) × (new ≡ old)

-- Takes old next new: this comes next, and leaves the new stream: what is held is parsed, and a whole
-- packet is taken off its front; a fault is answered ever after
abbrev pub Takes : StreamValue → Next → StreamValue → Type 0
Takes old (Packet taken) new =
    (old ≡ running old.held) × IsWhole taken.bytes.now × (old.held ≡ taken.bytes.now ++ new.held) × (new ≡ running new.held)
Takes old (More needed) new = (old ≡ running old.held) × Parses old.held (more_parsed needed) × (new ≡ old)
Takes old (Failed fault) new =
    (new ≡ stopped old.held fault) × ((old ≡ new) ⊎ ((old ≡ running old.held) × Parses old.held (Refused fault)))
