-- The table *names*: a row for each name and address of which something is said; and *refusals*: one for each name, address, sender
-- and word that refuses the name (our choice; docs/SUMMARY.md).
use Rattle.std.specs.Prelude.{ℕ, ◌≡◌, ◌++◌, ◌==◌, ◌&&◌, ◌||◌, ◌+◌, nat_le, count_by, ◌-◌, ◌^◌, min, not, Bool, true, false, List, [], ◌∷◌, filter, filter_map, Option, Some, None, bytes_eq, unwrap_or, if◌then◌else◌}
use Rattle.std.specs.List.{last_or, list_any}
use Rattle.nb_survey.specs.declared.key.Key.{Key}
use Rattle.nb_survey.specs.declared.key.Reason.{Reason}
use Rattle.nb_survey.specs.declared.heard.Said.{Said}
use Rattle.nb_survey.specs.declared.row.Half.{Half}
use Rattle.nb_survey.specs.declared.row.Row.{Row}
use Rattle.nb_survey.specs.declared.row.Tally.{Tally}
use Rattle.nb_survey.specs.declared.word.Asking.{Asking}
use Rattle.nb_survey.specs.declared.word.Asking.TheVariants.{Claim}
use Rattle.nb_survey.specs.declared.word.Word.{Word}
use Rattle.nb_survey.specs.declared.word.Word.TheVariants.{Granted}
use Rattle.nb_survey.specs.Hearing.{first_of}
use Rattle.nb_survey.specs.Keys.{has_key, name_key, refusal_key}
use Rattle.nb_survey.specs.Places.{same_address}
use Rattle.nb_survey.specs.Words.{asking_of, is_own, is_refusal, is_standing, says_it_has}

-- ---- what is looked at of a word that is said

-- who said the word, in which frame, and when
abbrev pub half_of : Said → Half
half_of said = record {
  word = said.word;
  is_malformed = said.facts.is_malformed;
  by = said.facts.frame.source;
  frame = said.facts.frame.number;
  time = said.facts.frame.time;
}

-- a word that the address says itself
abbrev pub own_of : Said → Option Half
own_of said = if is_own said.word then Some (half_of said) else None

-- a word that others say
abbrev pub others_of : Said → Option Half
others_of said = if not (is_own said.word) then Some (half_of said) else None

-- what is asked is a name
abbrev pub asks_name : Option Asking → Bool
asks_name (Some Claim) = true
asks_name _ = false

-- it claims the name
abbrev pub is_claim : Said → Bool
is_claim said = asks_name (asking_of said.word)

-- it refuses the name
abbrev pub refuses : Said → Bool
refuses said = is_refusal said.word

-- the TTL of a claim
abbrev pub claimed_of : Said → Option ℕ
claimed_of said = if is_claim said then said.facts.ttl else None

-- a word grants the name
abbrev pub is_grant : Word → Bool
is_grant Granted = true
is_grant _ = false

-- the TTL of a grant
abbrev pub granted_of : Said → Option ℕ
granted_of said = if is_grant said.word then said.facts.ttl else None

-- the MAC of a frame that its address sent itself
abbrev pub mac_of : Said → Option (List ℕ)
mac_of said = if same_address said.facts.frame.source said.place.address then said.facts.frame.mac else None

-- ---- rows

-- latest_of f said: the latest of these that has something, and what
abbrev pub latest_of : {A : Type 0} → (Said → Option A) → List Said → Option A
latest_of f said = last_or None (filter_map f said)

-- IsWitnessed f said value: one of these words has this
pub record IsWitnessed {A : Type 0} (f : Said → Option A) (said : List Said) (value : A) : Type 0 where
  pub before : List Said
  pub word : Said
  pub later : List Said
  pub stands : said ≡ before ++ word ∷ later
  pub has : f word ≡ Some value

-- packets frames: how many packets these frames of words are, of which those of a packet stand in a row
abbrev pub packets : List ℕ → ℕ
packets [] = 0
packets (frame ∷ []) = 1
packets (frame ∷ (next ∷ frames)) = if frame == next then packets (next ∷ frames) else packets (next ∷ frames) + 1

-- frame_where p said: the frame of a word that is so
abbrev pub frame_where : (Said → Bool) → Said → Option ℕ
frame_where p said = if p said then Some said.facts.frame.number else None

-- tally p said: how many packets have such a word, up to the greatest number, and the frame of the last one
abbrev pub tally : (Said → Bool) → List Said → Tally
tally p said =
    let frames = filter_map (frame_where p) said in
    record { packets = min (packets frames) (2 ^ 64 - 1); last = last_or None frames }

-- row_from first said: the row of which these are all words that are said, the first in this frame
abbrev pub row_from : ℕ → List Said → Row
row_from first said = record {
  first = first;
  group = latest_of (λ s. s.group) said;
  own = latest_of own_of said;
  others = latest_of others_of said;
  is_own_later = unwrap_or (latest_of (λ s. Some (is_own s.word)) said) false;
  claims = tally is_claim said;
  refusals = tally refuses said;
  claimed = latest_of claimed_of said;
  granted = latest_of granted_of said;
  mac = latest_of mac_of said;
}

-- the row of all words that are said of a name at an address; none where nothing is
abbrev pub row_of : List Said → Option Row
row_of [] = None
row_of (one ∷ later) = Some (row_from one.facts.frame.number (one ∷ later))

-- row_at key_of key said: the row of a table, by all that is said of its name, where these are the rows of words
abbrev pub row_at : (Said → Option Key) → Key → List Said → Option Row
row_at key_of key said = row_of (filter (λ s. has_key key (key_of s)) said)

-- keys_of reason: the rows of words in the table in which rows have such a reason
abbrev pub keys_of : Option Reason → Said → Option Key
keys_of None = name_key
keys_of (Some reason) = refusal_key

-- ---- what a row says

-- the later half of a row
abbrev pub later : Row → Option Half
later row = if row.is_own_later then row.own else row.others

-- half_stands half: the address has the name by it, or asks for it
abbrev pub half_stands : Option Half → Bool
half_stands None = false
half_stands (Some half) = is_standing half.word

-- the later half of a row is standing
abbrev pub stands : Row → Bool
stands row = half_stands (later row)

-- others say of its address that it has the name
abbrev pub half_tells : Option Half → Bool
half_tells None = false
half_tells (Some half) = says_it_has half.word

-- a row has a mark: its later half is neither standing nor `said to have it`
abbrev pub is_marked : Row → Bool
is_marked row = not (stands row || half_tells (later row))

-- a row is standing, and not known to be a group's
abbrev pub may_be_unique : Row → Bool
may_be_unique row = stands row && not (unwrap_or row.group false)

-- the table *several*: of these rows of a name at least two are standing, not all of them a group's
abbrev pub are_several : List Row → Bool
are_several rows = nat_le 2 (count_by stands rows) && nat_le 1 (count_by may_be_unique rows)

-- the MAC of a row that is standing
abbrev pub standing_mac : Row → Option (List ℕ)
standing_mac row = if stands row then row.mac else None

-- both are known, and differ
abbrev pub differ : Option (List ℕ) → Option (List ℕ) → Bool
differ (Some one) (Some other) = not (bytes_eq one other)
differ _ _ = false

-- rows of the table *several* have a mark: one that is standing has another MAC than the first such one that has any
abbrev pub macs_differ : List Row → Bool
macs_differ rows = list_any (λ row. differ (first_of standing_mac rows) (standing_mac row)) rows
