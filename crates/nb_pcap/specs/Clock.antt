-- The clock of an interface (draft-ietf-opsawg-pcapng, if_tsresol and if_tsoffset): the time of a packet is a count of units,
-- of which a second has a power of 10 or of 2, from an offset in seconds on.
use Rattle.std.specs.Prelude.{ℕ, ◌+◌, ◌-◌, ◌*◌, ◌/◌, ◌^◌, cond, nat_lt, nat_le, Option, Some, None}
use Rattle.nb_pcap.specs.declared.clock.Clock.{Clock}

-- a number where it is below the limit
abbrev pub below : ℕ → ℕ → Option ℕ
below limit n = cond (nat_lt n limit) (Some n) None

-- how many units a second has, by the byte of the resolution
abbrev pub ticks_a_second : ℕ → Option ℕ
ticks_a_second resolution = below (2 ^ 128) (cond (nat_lt resolution 128) (10 ^ resolution) (2 ^ (resolution - 128)))

-- since ticks units: so many units in nanoseconds, rounded down; fewer than 2^64 units of which a second has 2^128 are none
abbrev pub since : Option ℕ → ℕ → ℕ
since None units = 0
since (Some ticks) units = units * 1_000_000_000 / ticks

-- moved offset nanoseconds: nanoseconds from 1970 on where they count from this offset in seconds, a number of 64 bits with its
-- sign; none before 1970
abbrev pub moved : ℕ → ℕ → Option ℕ
moved offset nanoseconds =
    cond (nat_lt offset (2 ^ 63)) (Some (nanoseconds + offset * 1_000_000_000))
    (cond (nat_le ((2 ^ 64 - offset) * 1_000_000_000) nanoseconds) (Some (nanoseconds - (2 ^ 64 - offset) * 1_000_000_000)) None)

-- a time that 64 bits hold
abbrev pub held : Option ℕ → Option ℕ
held None = None
held (Some n) = below (2 ^ 64) n

-- the time of so many units of a clock
abbrev pub time_of : Clock → ℕ → Option ℕ
time_of clock units = held (moved clock.offset (since clock.ticks units))
