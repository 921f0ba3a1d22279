-- What a survey keeps of all that the packets say.
use Rattle.std.specs.Prelude.{◌≡◌, ℕ, ◌≤◌, ◌<◌, true, List, sum_by}
use Rattle.std.specs.BTreeMap.{btree_map_len, values}
use Rattle.nb_survey.specs.declared.heard.Heard.{Heard}
use Rattle.nb_survey.specs.declared.heard.Said.{Said}
use Rattle.nb_survey.specs.declared.rows.Tables.{Tables}
use Rattle.nb_survey.specs.declared.survey.Survey.{Survey}
use Rattle.nb_survey.specs.declared.limits.TheConstants.{MAX_NAMES, MAX_REQUESTS, MAX_ROWS}
use Rattle.nb_survey.specs.Code.Kept.{Hears, is_whole, Keeps, kept_count, left_out, of_name, queries_in}
use Rattle.nb_survey.specs.Queries.{queries_of}
use Rattle.nb_survey.specs.Telling.{words_of}

-- Sums survey packets: of each name of which nothing is left out, the survey keeps what all these packets say, in their order
abbrev pub Sums : Survey → List Heard → Type 0
Sums survey packets = (name : List (List ℕ)) → is_whole survey name ≡ true →
    Keeps survey name (words_of name packets) × (queries_in (of_name survey name) ≡ queries_of name packets)

-- so many names, rows and requests are kept, and so many names that aren't kept are counted
pub record IsBounded (survey : Survey) : Type 0 where
  pub names : btree_map_len survey.by_name ≤ MAX_NAMES
  pub rows : btree_map_len survey.tables.names.rows ≤ MAX_ROWS
  pub refusals : btree_map_len survey.tables.refusals.rows ≤ MAX_ROWS
  pub others : left_out survey ≤ MAX_NAMES
  pub requests : sum_by kept_count (values survey.by_name) ≤ survey.count
  pub count : survey.count ≤ MAX_REQUESTS

-- each table has room for another row
pub record HasRows (tables : Tables) : Type 0 where
  pub names : btree_map_len tables.names.rows < MAX_ROWS
  pub refusals : btree_map_len tables.refusals.rows < MAX_ROWS

-- there is room for another name, for a row of each table and for a request
pub record HasRoom (survey : Survey) : Type 0 where
  pub names : btree_map_len survey.by_name < MAX_NAMES
  pub rows : HasRows survey.tables
  pub requests : survey.count < MAX_REQUESTS

-- where there is room, nothing was left out
abbrev pub KeepsAll : Survey → Type 0
KeepsAll survey = HasRoom survey → (name : List (List ℕ)) → is_whole survey name ≡ true

-- Takes old new said packets: these words and packets are taken, of each name of which nothing is left out
pub record Takes (old new : Survey) (said : List Said) (packets : List Heard) : Type 0 where
  pub hears : (name : List (List ℕ)) → is_whole new name ≡ true → Hears old new name said packets
  pub kept : KeepsAll old → KeepsAll new
