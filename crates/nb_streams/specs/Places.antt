-- What stands at a place of a packet or a file: bytes, and numbers with the high byte first (RFC 1002
-- section 4.2.1). Offsets are counted in bytes from the start.
use Rattle.std.specs.Prelude.{◌≡◌, ℕ, ◌<◌, ◌^◌, List, length, take, drop}
use Rattle.std.specs.Int.{Width, byte_len, to_be_bytes}
use Rattle.std.specs.List.{AllByRecursion}

-- each has eight bits
abbrev pub AreBytes : List ℕ → Type 0
AreBytes = AllByRecursion (λ byte. byte < 2 ^ 8)

-- StandsAt packet at bytes: the packet has these bytes from this offset on
abbrev pub StandsAt : List ℕ → ℕ → List ℕ → Type 0
StandsAt packet at bytes = take (length bytes) (drop at packet) ≡ bytes

-- NumberAt packet at width number: at this offset the number stands, in a field of this width
pub record NumberAt (packet : List ℕ) (at : ℕ) (width : Width) (number : ℕ) : Type 0 where
  pub fits : number < 256 ^ byte_len width
  pub bytes : StandsAt packet at (to_be_bytes width number)
