-- The times of frames: seconds since the first frame that has a time, or date and time of day in UTC, with six decimals, the rest cut
-- off (our choice). Times are nanoseconds since 1970.
use Rattle.std.specs.Prelude.{◌≡◌, ℕ, false, pos, ◌+◌, ◌-◌, ◌/◌, ◌%◌, List, [], ◌∷◌, ◌++◌, codes, cond, nat_lt, Option, Some, None}
use Rattle.std.specs.Fmt.{decimal}
use Rattle.jiff_core.specs.declared.civil.datetime.DateTime.{DateTime}
use Rattle.jiff_core.specs.DateTime.{civil_nanos}
use Rattle.jiff_fmt.specs.Text.{datetime_text}
use Rattle.nbt_look.specs.declared.asked.Times.{Times}
use Rattle.nbt_look.specs.declared.asked.Times.TheVariants.{Since, Utc}

-- a digit
abbrev pub digit : ℕ → ℕ
digit n = 48 + n % 10

-- the six digits of a number below a million
abbrev pub six_digits : ℕ → List ℕ
six_digits n =
    digit (n / 100_000) ∷ digit (n / 10_000) ∷ digit (n / 1_000) ∷ digit (n / 100) ∷ digit (n / 10) ∷ digit n ∷ []

-- so many nanoseconds, in seconds
abbrev pub seconds_text : ℕ → List ℕ
seconds_text n = decimal (n / 1_000_000_000) ++ (codes "." ++ six_digits (n % 1_000_000_000 / 1_000))

-- since_text first at: the time of a frame, where this is that of the first one: negative before it
abbrev pub since_text : ℕ → ℕ → List ℕ
since_text first at = cond (nat_lt at first) (codes "-" ++ seconds_text (first - at)) (seconds_text (at - first))

-- time_text first at: the same, where there is no time too
abbrev pub time_text : Option ℕ → Option ℕ → List ℕ
time_text None at = codes "-"
time_text (Some first) None = codes "-"
time_text (Some first) (Some at) = since_text first at

-- IsUtc at said: the date and time of day at this time, as RFC 3339 writes them
abbrev pub IsUtc : ℕ → List ℕ → Type 0
IsUtc at said = (clock : DateTime) × (civil_nanos clock ≡ pos at) × (said ≡ datetime_text false 84 (Some 6) clock ++ codes "Z")

-- IsTime times first at said: how the time of a frame is shown, where this is that of the first one, if there are such
abbrev pub IsTime : Times → Option ℕ → Option ℕ → List ℕ → Type 0
IsTime Since first at said = said ≡ time_text first at
IsTime Utc first None said = said ≡ codes "-"
IsTime Utc first (Some at) said = IsUtc at said

-- the time of the first frame that has one, once a frame with this one came
abbrev pub first_after : Option ℕ → Option ℕ → Option ℕ
first_after None at = at
first_after (Some first) at = Some first
