-- What reading the next line of an input answers, and what the room then holds (our choice).
use Rattle.std.specs.Prelude.{◌≡◌, ◌⊎◌, ◌<◌, ◌≤◌, ◌+◌, ◌++◌, ◌∷◌, ℕ, List, [], length, Option, Some, None, Result, Ok, Err, take}
use Rattle.std.specs.Io.KnownBytes.{Consumes, IsAtEnd}
use Rattle.nb_streams.specs.Counted.{Counts}
use Rattle.nb_streams.specs.Devices.{GrowTo, ShowsReadFault}
use Rattle.nb_streams.specs.Lines.{IsLine}
use Rattle.nb_capture.specs.declared.limits.TheConstants.{MAX_LINE}
use Rattle.nb_capture.specs.declared.fault.LineReadFault.{LineReadFault}
use Rattle.nb_capture.specs.declared.fault.LineReadFault.TheVariants.{TooLong, Read, NoMemory}
use Rattle.nb_capture.specs.declared.line_room.Standing.{Standing}
use Rattle.nb_capture.specs.declared.line_room.Standing.TheVariants as standing
use denote.Ref.{Bor}
use Rattle.nb_streams.specs.declared.limits.TheConstants.{MAX_INPUT, MAX_READ}
use Rattle.nb_capture.specs.declared.line_room.Standing.TheVariants.{Reading}

-- ---- what a room for lines holds (our choice)

-- the bytes handed out last, with their line feed, the bytes held besides, how many of the input were kept, how
-- many it may have, and how the room stands to its input
pub record RoomValue : Type 0 where
  pub lent : List ℕ
  pub rest : List ℕ
  pub taken : ℕ
  pub most : ℕ
  pub standing : Standing

-- the room of an input of so many bytes at most, of which nothing was read
abbrev pub nothing_within : ℕ → RoomValue
nothing_within most = record { lent = []; rest = []; taken = 0; most = most; standing = Reading }

-- the same of an input of the usual limit
abbrev pub nothing_held : RoomValue
nothing_held = nothing_within MAX_INPUT

-- IsTooLong bytes: they begin with more bytes than a line may have, and no line feed is among those
abbrev pub IsTooLong : List ℕ → Type 0
IsTooLong bytes = (MAX_LINE < length bytes) × IsLine (take (MAX_LINE + 1) bytes)

-- IsOpen bytes: they are no more than a line may have, and no line feed is among them
abbrev pub IsOpen : List ℕ → Type 0
IsOpen bytes = (length bytes ≤ MAX_LINE) × IsLine bytes

-- HandsOut held line new: the line is the first of these bytes, with its line feed, or the last of the input
-- without one
abbrev pub HandsOut : List ℕ → List ℕ → RoomValue → Type 0
HandsOut held line new =
    (length line ≤ MAX_LINE) × IsLine line
    × (((new.lent ≡ line ++ 10 ∷ []) × (held ≡ line ++ 10 ∷ new.rest) × (new.standing ≡ standing.Reading))
    ⊎ ((new.lent ≡ line) × (held ≡ line) × (0 < length line) × (new.rest ≡ []) × (new.standing ≡ standing.Ended)))

-- Answers held new result: what is answered where these bytes were held, and what the room then has
abbrev pub Answers : List ℕ → RoomValue → Result (Option (List ℕ)) LineReadFault → Type 0
Answers held new (Ok (Some line)) = HandsOut held line new
Answers held new (Ok None) = (held ≡ []) × (new.rest ≡ []) × (new.lent ≡ []) × (new.standing ≡ standing.Ended)
Answers held new (Err TooLong) = IsTooLong held × (new.lent ≡ []) × (new.standing ≡ standing.TooLong)
Answers held new (Err Read) = IsOpen held × (new.lent ≡ []) × (new.standing ≡ standing.Unread)
Answers held new (Err NoMemory) = (new.rest ≡ held) × (new.lent ≡ []) × (new.standing ≡ standing.Reading) × IsOpen held

-- Repeats standing result: a room that stands so answers this again
abbrev pub Repeats : Standing → Result (Option (List ℕ)) LineReadFault → Type 0
Repeats standing.Reading result = Unit {0}
Repeats standing.Ended result = result ≡ Ok None
Repeats standing.Unread result = result ≡ Err Read
Repeats standing.TooLong result = result ≡ Err TooLong

-- LastRead held got: these bytes came after those held, the last of them in one read, before which no line was whole or
-- too long
pub record LastRead (held got : List ℕ) : Type 0 where
  pub earlier : List ℕ
  pub last : List ℕ
  pub both : got ≡ earlier ++ last
  pub few : length last ≤ MAX_READ
  pub was_open : IsOpen (held ++ earlier)

-- ReadsLine old before left counts later result new: a call for the next line got these bytes from the reader,
-- which are kept, and one over the limit at most, which isn't, and answered so; the old room is now the new one, and
-- all that was held or got is handed out or held
pub record ReadsLine (old : RoomValue) (before left : Option (List ℕ)) (counts later : Counts)
    (result : Result (Option (List ℕ)) LineReadFault) (new : RoomValue) : Type 0 where
  pub got : List ℕ
  pub over : List ℕ
  pub consumes : Consumes before left (got ++ over)
  pub taken : new.taken ≡ old.taken + length got
  pub limit : new.most ≡ old.most
  pub within : new.taken ≤ old.most
  pub few : length over ≤ 1
  pub kept : (over ≡ []) ⊎ ((result ≡ Err Read) × (new.taken ≡ old.most))
  pub nothing_lost : old.rest ++ got ≡ new.lent ++ new.rest
  pub asked : (got ≡ []) ⊎ LastRead old.rest got
  pub answers : Answers (old.rest ++ got) new result
  pub again : Repeats old.standing result
  pub unread : result ≡ Err Read → (old.standing ≡ standing.Unread) ⊎ ((0 < length over) ⊎ ShowsReadFault counts later)
  pub at_end : new.standing ≡ standing.Ended → ((old.standing ≡ standing.Ended) × (left ≡ before)) ⊎ IsAtEnd left
  pub grow : GrowTo counts later

-- ManyCalls old handed got new: calls for lines, one after another, made the old room the new one; these bytes were
-- handed out, line feeds among them, and these were got from the reader
pub data ManyCalls : RoomValue → List ℕ → List ℕ → RoomValue → Type 0 where
  no_call : (room : RoomValue) → ManyCalls room [] [] room
  one_more : (old mid new : RoomValue) (handed got : List ℕ) (before left : Option (List ℕ)) (counts later : Counts)
      (result : Result (Option (List ℕ)) LineReadFault) → ManyCalls old handed got mid
      → (call : ReadsLine mid before left counts later result new)
      → ManyCalls old (handed ++ new.lent) (got ++ call.got) new

-- what is answered, a line by its bytes
abbrev pub lent_line : Result (Option (Bor (List ℕ))) LineReadFault → Result (Option (List ℕ)) LineReadFault
lent_line (Ok None) = Ok None
lent_line (Ok (Some line)) = Ok (Some line.now)
lent_line (Err fault) = Err fault
