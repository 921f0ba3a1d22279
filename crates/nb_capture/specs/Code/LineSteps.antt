-- The steps of reading a line (our choice).
use Rattle.std.specs.Prelude.{◌≡◌, ◌<◌, ◌≤◌, ◌+◌, ◌++◌, ◌∷◌, ℕ, List, [], take, drop, length, Option, Some, None, Result, Ok, Err}
use Rattle.nb_streams.specs.Lines.{IsLine}
use Rattle.nb_streams.specs.Room.{RoomValue as Held}
use Rattle.nb_capture.specs.declared.limits.TheConstants.{MAX_LINE}
use Rattle.nb_capture.specs.declared.line_reading.First.{First}
use Rattle.nb_capture.specs.declared.line_reading.First.TheVariants.{Line, TooLong, Open}
use Rattle.nb_capture.specs.declared.fault.LineReadFault.{LineReadFault}
use Rattle.nb_capture.specs.declared.line_room.Standing.{Standing}
use Rattle.nb_capture.specs.declared.line_room.Standing.TheVariants as standing
use Rattle.nb_capture.specs.LineReading.{RoomValue, IsOpen, IsTooLong}

-- the room for lines that has this and stands so
abbrev pub standing_so : Standing → Held → RoomValue
standing_so s r = record { lent = r.lent; rest = r.rest; taken = r.taken; most = r.most; standing = s }

-- Suits standing bytes: where these bytes are held the room may stand so
abbrev pub Suits : Standing → List ℕ → Type 0
Suits standing.Reading bytes = Unit {0}
Suits standing.Ended bytes = bytes ≡ []
Suits standing.Unread bytes = IsOpen bytes
Suits standing.TooLong bytes = IsTooLong bytes

-- IsRoom standing r: such is what a room for lines has, and how it stands
pub record IsRoom (standing : Standing) (r : Held) : Type 0 where
  pub suits : Suits standing r.rest
  pub looked_at : r.taken ≤ r.most

-- IsFeedAt bytes at: the first line feed of the bytes is at this place
abbrev pub IsFeedAt : List ℕ → ℕ → Type 0
IsFeedAt bytes at = (at < length bytes) × IsLine (take at bytes)
    × (bytes ≡ take at bytes ++ 10 ∷ drop (at + 1) bytes)

-- HandsFirst old first new: the bytes held begin with this, and a line is handed out
abbrev pub HandsFirst : Held → First → Held → Type 0
HandsFirst old (Line n) new =
    (line : List ℕ) × (n ≡ length line) × (n ≤ MAX_LINE) × IsLine line
    × (old.rest ≡ line ++ 10 ∷ new.rest)
    × (new ≡ record { lent = line ++ 10 ∷ []; rest = new.rest; taken = old.taken; most = old.most })
HandsFirst old TooLong new = IsTooLong old.rest × (new ≡ old)
HandsFirst old (Open n) new = IsOpen old.rest × (n ≡ length old.rest) × (new ≡ old)

-- the line of so many first bytes of these
abbrev pub line_of_size : List ℕ → Result (Option ℕ) LineReadFault → Result (Option (List ℕ)) LineReadFault
line_of_size lent (Ok None) = Ok None
line_of_size lent (Ok (Some n)) = Ok (Some (take n lent))
line_of_size lent (Err fault) = Err fault
