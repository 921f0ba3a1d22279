-- What follows a header, as far as it is captured.
use Rattle.std.specs.Prelude.{ℕ, ◌-◌, List, length, take, drop}

-- the bytes that are captured, and how many there were on the wire
pub record PayloadValue : Type 0 where
  pub bytes : List ℕ
  pub wire_length : ℕ

-- bytes of which none is missing
abbrev pub whole : List ℕ → PayloadValue
whole bytes = record { bytes = bytes; wire_length = length bytes }

-- rest_after captured wire header: what follows a header of so many bytes, in a packet that had `wire` bytes on the wire: these are
-- captured of it, and maybe of what follows it
abbrev pub rest_after : List ℕ → ℕ → ℕ → PayloadValue
rest_after captured wire header = record { bytes = drop header (take wire captured); wire_length = wire - header }
