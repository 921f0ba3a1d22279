-- What the code does with one more word.
use Rattle.std.specs.Prelude.{ℕ, ◌==◌, ◌+◌, ◌-◌, ◌^◌, min, Bool, false, ◌∷◌, [], Option, Some, None, if◌then◌else◌}
use Rattle.std.specs.Option.{option_or}
use Rattle.nb_survey.specs.declared.heard.Said.{Said}
use Rattle.nb_survey.specs.declared.row.Row.{Row}
use Rattle.nb_survey.specs.declared.row.Tally.{Tally}
use Rattle.nb_survey.specs.Rows.{claimed_of, frame_where, granted_of, is_claim, mac_of, others_of, own_of, refuses, row_from}
use Rattle.nb_survey.specs.Words.{is_own}

-- is_last frame last: this frame is the last one
abbrev pub is_last : ℕ → Option ℕ → Bool
is_last frame None = false
is_last frame (Some last) = last == frame

-- counted tally frame: the tally, after one more word, with its frame where that counts
abbrev pub counted : Tally → Option ℕ → Tally
counted tally None = tally
counted tally (Some frame) = record {
  packets = if is_last frame tally.last then tally.packets else min (tally.packets + 1) (2 ^ 64 - 1);
  last = Some frame;
}

-- a row, after one more word
abbrev pub after : Row → Said → Row
after row said = record {
  first = row.first;
  group = option_or said.group row.group;
  own = option_or (own_of said) row.own;
  others = option_or (others_of said) row.others;
  is_own_later = is_own said.word;
  claims = counted row.claims (frame_where is_claim said);
  refusals = counted row.refusals (frame_where refuses said);
  claimed = option_or (claimed_of said) row.claimed;
  granted = option_or (granted_of said) row.granted;
  mac = option_or (mac_of said) row.mac;
}

-- the row of a name at an address, after one more word
abbrev pub grown : Option Row → Said → Row
grown None said = row_from said.facts.frame.number (said ∷ [])
grown (Some row) said = after row said
