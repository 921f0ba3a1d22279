-- The fragments that are live: those that were kept, and whose packet wasn't dropped since (RFC 8200 section 4.5).
--
-- Our choice: the capture's clock shows the greatest time of a frame so far, and a frame without a time comes when it shows that. The
-- first fragment of a packet starts its timer, and later ones leave it alone. Times are in nanoseconds.
use Rattle.std.specs.Prelude.{ℕ, List, [], ◌∷◌, ◌+◌, map, filter, max, not, Bool, false, nat_le, Option, Some, None}
use Rattle.nb_entries.specs.Piece.{PieceParts}
use Rattle.nb_entries.specs.Cover.{CoverValue}
use Rattle.nb_entries.specs.CoverChange.{cover_of_pieces}
use Rattle.nb_fragments.specs.declared.key.Key.{Key}
use Rattle.nb_fragments.specs.declared.limits.TheConstants.{LIFETIME}
use Rattle.nb_fragments.specs.Keys.{same_key}

-- a fragment that came: when, of which packet, and the piece that it has of that
pub record Came : Type 0 where
  pub time : ℕ
  pub key : Key
  pub piece : PieceParts

-- what the clock shows, after it showed this, at a frame of this time, if it has one
abbrev pub clock_after : ℕ → Option ℕ → ℕ
clock_after clock None = clock
clock_after clock (Some time) = max clock time

-- the fragment is of this packet
abbrev pub is_of : Key → Came → Bool
is_of key came = same_key came.key key

-- those of one packet
abbrev pub of_key : Key → List Came → List Came
of_key key live = filter (is_of key) live

-- when the first of them came
abbrev pub start_of : List Came → Option ℕ
start_of [] = None
start_of (came ∷ later) = Some came.time

-- is_over now start: the timer of a packet with this start has run out
abbrev pub is_over : ℕ → Option ℕ → Bool
is_over now None = false
is_over now (Some start) = nat_le (start + LIFETIME) now

-- those that are live where the clock shows this
abbrev pub live_at : ℕ → List Came → List Came
live_at now live = filter (λ came. not (is_over now (start_of (of_key came.key live)))) live

-- what the fragments of a packet say together
abbrev pub cover_at : Key → List Came → CoverValue
cover_at key live = cover_of_pieces (map (λ came. came.piece) (of_key key live))
