-- What a fragment makes of its packet.
use Rattle.std.specs.Prelude.{◌≡◌, ◌≢◌, ◌<◌, ◌+◌, ℕ, List, [], ◌∷◌, ◌++◌, length, true, is_some, Some, None}
use Rattle.nb_datagram.specs.declared.limits.TheConstants.{MAX_LENGTH}
use Rattle.nb_entries.specs.declared.slot.Slot.TheVariants.{Spoilt}
use Rattle.nb_entries.specs.Piece.{PieceParts}
use Rattle.nb_entries.specs.Cover.{CoverValue}
use Rattle.nb_entries.specs.CoverChange.{data_of}
use Rattle.nb_frames.specs.declared.carried.IpFragment.{IpFragment}
use Rattle.nb_fragments.specs.declared.taken.Taken.{Taken}
use Rattle.nb_fragments.specs.declared.taken.Taken.TheVariants.{Whole, Kept, Again, Disagrees, LeftOut}
use Rattle.nb_fragments.specs.declared.taken.Refusal.TheVariants.{Cut, TooLong, TooMany}
use Rattle.nb_fragments.specs.Keys.{key_of}
use Rattle.nb_fragments.specs.Live.{Came, cover_at}

-- the piece of its packet that a fragment has
abbrev pub piece_in : IpFragment → PieceParts
piece_in f = record { offset = f.place.offset; bytes = f.payload.bytes; more = f.place.more }

-- a fragment that comes now
abbrev pub came_now : ℕ → IpFragment → Came
came_now now f = record { time = now; key = key_of f; piece = piece_in f }

-- IsTaken before after taken: a packet of whose fragments this was the join, and of which this is the join after one more: it became
-- whole, with these bytes; it isn't whole; it was whole before; or two of its fragments contradict each other
abbrev pub IsTaken : CoverValue → CoverValue → Taken → Type 0
IsTaken before after (Whole bytes) = (data_of before ≡ None) × (data_of after ≡ Some bytes)
IsTaken before after Kept = (after ≢ Spoilt) × (data_of after ≡ None)
IsTaken before after Again = (is_some (data_of before) ≡ true) × (is_some (data_of after) ≡ true)
IsTaken before after Disagrees = after ≡ Spoilt
IsTaken before after (LeftOut refusal) = ⊥

-- a packet that didn't become whole by a fragment: it isn't, or was
abbrev pub IsLater : CoverValue → CoverValue → Type 0
IsLater before after = is_some (data_of after) ≡ true → is_some (data_of before) ≡ true

-- a fragment of which some bytes aren't captured
abbrev pub IsCut : IpFragment → Type 0
IsCut f = length f.payload.bytes < f.payload.wire_length

-- a fragment that reaches past what a packet may have
abbrev pub IsLong : IpFragment → Type 0
IsLong f = MAX_LENGTH < f.place.offset + length f.payload.bytes

-- MakesOf came live taken: where these are live, this fragment makes this of its packet, if it is kept
abbrev pub MakesOf : Came → List Came → Taken → Type 0
MakesOf came live (LeftOut refusal) = refusal ≡ TooMany
MakesOf came live taken = IsTaken (cover_at came.key live) (cover_at came.key (live ++ came ∷ [])) taken

-- Answers f came live taken: where these are live, this is what is made of the fragment f, which comes so
abbrev pub Answers : IpFragment → Came → List Came → Taken → Type 0
Answers f came live (LeftOut Cut) = IsCut f
Answers f came live (LeftOut TooLong) = IsLong f
Answers f came live taken = (IsCut f → ⊥) × ((IsLong f → ⊥) × MakesOf came live taken)

-- the fragments that are live after one more, which was taken so
abbrev pub live_after : Taken → Came → List Came → List Came
live_after (LeftOut refusal) came live = live
live_after taken came live = live ++ came ∷ []
