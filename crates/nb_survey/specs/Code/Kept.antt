-- What the code keeps of what is said.
use Rattle.std.specs.Prelude.{◌≡◌, ℕ, ◌==◌, ◌++◌, ◌+◌, Bool, true, false, List, [], filter, fold, length, Option, None, Some}
use Rattle.std.specs.BTreeMap.{get}
use Rattle.std.specs.BTreeSet.{btree_set_len}
use Rattle.std.specs.declared.net.ip_addr.IpAddr.{IpAddr}
use Rattle.nb_names.specs.DomainName.{domain_cmp}
use Rattle.nb_survey.specs.declared.heard.Heard.{Heard}
use Rattle.nb_survey.specs.declared.heard.Said.{Said}
use Rattle.nb_survey.specs.declared.key.Key.{Key}
use Rattle.nb_survey.specs.declared.key.Reason.{Reason}
use Rattle.nb_survey.specs.declared.query.Query.{Query}
use Rattle.nb_survey.specs.declared.requests.Request.{Request}
use Rattle.nb_survey.specs.declared.row.Row.{Row}
use Rattle.nb_survey.specs.declared.rows.Table.{Table}
use Rattle.nb_survey.specs.declared.survey.Kept.{Kept}
use Rattle.nb_survey.specs.declared.survey.Survey.{Survey}
use Rattle.nb_survey.specs.Code.Steps.{grown}
use Rattle.nb_survey.specs.Keys.{has_key, key_cmp, name_key, refusal_key}
use Rattle.nb_survey.specs.Queries.{is_for, step}
use Rattle.nb_survey.specs.Requests.{latest, renewed_by, request_of, requests}
use Rattle.nb_survey.specs.Rows.{row_at}
use Rattle.nb_survey.specs.Telling.{is_about}

-- the row that is kept in a table
abbrev pub kept_row : Table → Key → Option Row
kept_row table key = get key_cmp table.rows key

-- key_at name address reason: a row
abbrev pub key_at : List (List ℕ) → IpAddr → Option Reason → Key
key_at name address reason = record { name = name; address = address; reason = reason }

-- Taken key_of old new said has_room: a table takes a word in, where there is room for its row, and changes no other
pub record Taken (key_of : Said → Option Key) (old new : Table) (said : Said) (has_room : Bool) : Type 0 where
  pub takes : has_room ≡ true → (key : Key) → has_key key (key_of said) ≡ true → kept_row new key ≡ Some (grown (kept_row old key) said)
  pub stays : (key : Key) → has_key key (key_of said) ≡ false → kept_row new key ≡ kept_row old key

-- the latest requests that are kept of a name
abbrev pub requests_in : Option Kept → List Request
requests_in None = []
requests_in (Some kept) = kept.requests.items

-- the queries that are kept about a name
abbrev pub queries_in : Option Kept → List Query
queries_in None = []
queries_in (Some kept) = kept.queries.items

-- how many requests are kept of a name
abbrev pub kept_count : Kept → ℕ
kept_count kept = length kept.requests.items + length kept.queries.items

-- IsRenewed old new said has_room: all of a name was kept, and with this word it still is
pub record IsRenewed (old new : Kept) (said : Said) (has_room : Bool) : Type 0 where
  pub room : has_room ≡ true
  pub whole : old.is_whole ≡ true
  pub asked : new.requests.items ≡ renewed_by old.requests.items (request_of said)

-- whole_in others kept: nothing of a name is left out; one that isn't kept may be one of the others
abbrev pub whole_in : ℕ → Option Kept → Bool
whole_in others None = others == 0
whole_in others (Some kept) = kept.is_whole

-- of_name survey name: what is kept of a name
abbrev pub of_name : Survey → List (List ℕ) → Option Kept
of_name survey name = get domain_cmp survey.by_name name

-- how many names found no room
abbrev pub left_out : Survey → ℕ
left_out survey = btree_set_len survey.others

-- is_whole survey name: nothing of the name is left out
abbrev pub is_whole : Survey → List (List ℕ) → Bool
is_whole survey name = whole_in (left_out survey) (of_name survey name)

-- Keeps survey name said: of the name that is kept which these words say
pub record Keeps (survey : Survey) (name : List (List ℕ)) (said : List Said) : Type 0 where
  pub rows : (address : IpAddr) (reason : Option Reason) → kept_row survey.tables.names (key_at name address reason) ≡ row_at name_key (key_at name address reason) said
  pub refusals : (address : IpAddr) (reason : Option Reason) → kept_row survey.tables.refusals (key_at name address reason) ≡ row_at refusal_key (key_at name address reason) said
  pub asked : requests_in (of_name survey name) ≡ latest (requests said)

-- Hears old new name said packets: all of the name was kept, and with these words and packets it still is
pub record Hears (old new : Survey) (name : List (List ℕ)) (said : List Said) (packets : List Heard) : Type 0 where
  pub whole : is_whole old name ≡ true
  pub keeps : (before : List Said) → Keeps old name before → Keeps new name (before ++ filter (is_about name) said)
  pub queries : queries_in (of_name new name) ≡ fold step (queries_in (of_name old name)) (filter (is_for name) packets)
