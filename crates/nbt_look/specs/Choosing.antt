-- What has a line (our choice), until there are as many as are wanted: packets, and what is left out, of the hosts and ports that are wanted,
-- with one of the names, and of one of the kinds.
use Rattle.std.specs.Prelude.{◌≡◌, ℕ, ◌&&◌, ◌||◌, Bool, true, false, not, List}
use Rattle.nb_traffic.specs.Brought.{PacketValue}
use Rattle.nbt_look.specs.declared.counting.Outcome.{Outcome}
use Rattle.nbt_look.specs.declared.hearing.Heard.{Heard}
use Rattle.nbt_look.specs.declared.heading.Heading.{Heading}
use Rattle.nbt_look.specs.declared.kinds.Marks.{Marks}
use Rattle.nbt_look.specs.declared.wanted.Filter.{Filter}
use Rattle.nbt_look.specs.Hearing.{IsHeard}
use Rattle.nbt_look.specs.Heading.{IsHeading}
use Rattle.nbt_look.specs.Kinds.{is_of_kinds}
use Rattle.nbt_look.specs.Wanted.{is_any, is_enough, looks_inside, wants}

-- whether a packet of which this is known has a name that is wanted, and is of a kind that is; any does where none is named
abbrev pub fits : Filter → Marks → Bool
fits filter marks = (is_any filter.names || marks.heard.is_named) && is_of_kinds filter.kinds marks

-- FitsInside filter payload port o is: whether a payload that came to the port, of a packet that counts so, has a name that is wanted, and is
-- of a kind that is
pub record FitsInside (filter : Filter) (payload : List ℕ) (port : ℕ) (o : Outcome) (is : Bool) : Type 0 where
  pub heard : Heard
  pub hears : IsHeard filter.names payload port heard
  pub heading : Heading
  pub begins : IsHeading payload port heading
  pub agrees : is ≡ fits filter (record { outcome = o; heading = heading; heard = heard })

-- FitsToo inside filter payload port o is: the same, where its inside is looked at
abbrev pub FitsToo : Bool → Filter → List ℕ → ℕ → Outcome → Bool → Type 0
FitsToo true filter payload port o is = FitsInside filter payload port o is
FitsToo false filter payload port o is = is ≡ true

-- IsChosen may filter payload port o is: whether a packet is wanted of whose hosts and ports one may be, or none
abbrev pub IsChosen : Bool → Filter → List ℕ → ℕ → Outcome → Bool → Type 0
IsChosen true filter payload port o is = FitsToo (looks_inside filter) filter payload port o is
IsChosen false filter payload port o is = is ≡ false

-- IsWanted filter shown p o is: whether a packet is wanted that counts so, where there are so many lines
abbrev pub IsWanted : Filter → ℕ → PacketValue → Outcome → Bool → Type 0
IsWanted filter shown p o is = IsChosen (not (is_enough filter shown) && wants filter p) filter p.bytes p.service o is
