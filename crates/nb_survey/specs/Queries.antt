-- Queries (RFC 1002 section 4.2.12) and node status requests (4.2.17) about a name, each with its repeats and what came of it (our
-- choice; docs/SUMMARY.md). Times are in nanoseconds.
use Rattle.std.specs.Prelude.{ℕ, ◌==◌, ◌&&◌, ◌||◌, ◌+◌, ◌-◌, ◌^◌, min, nat_eq, nat_le, nat_lt, Bool, true, false, not, List, [], ◌∷◌, ◌++◌, filter, fold, map, replicate, slice_set, Option, Some, None, unwrap_or, if◌then◌else◌}
use Rattle.std.specs.List.{list_any}
use Rattle.std.specs.Option.{option_eq}
use Rattle.nb_service.specs.Header.{opcode_of, rcode_of}
use Rattle.nb_survey.specs.declared.heard.Heard.{Heard}
use Rattle.nb_survey.specs.declared.query.Outcome.{Outcome}
use Rattle.nb_survey.specs.declared.query.Outcome.TheVariants.{Answered, Redirected, Refused, OfAnother, Late}
use Rattle.nb_survey.specs.declared.query.Query.{Query}
use Rattle.nb_survey.specs.declared.query.Turn.{Turn}
use Rattle.nb_survey.specs.declared.query.Turn.TheVariants.{Repeats, Begins, OfSender, OfGroup, OfNone, Other}
use Rattle.nb_survey.specs.Places.{same_address}
use Rattle.nb_survey.specs.Telling.{is_its}
use Rattle.nb_survey.specs.Words.{has}

-- ---- a packet and a query

-- the time of a packet; that of one without a time is the start of 1970
abbrev pub moment : Heard → ℕ
moment heard = unwrap_or heard.facts.frame.time 0

-- is_of heard query: the packet has its identifier, type and addresses
abbrev pub is_of : Heard → Query → Bool
is_of heard query =
    query.id == heard.facts.id && (option_eq nat_eq query.kind heard.kind
    && (same_address query.asker heard.facts.frame.source && same_address query.station heard.facts.frame.target))

-- is_fresh heard query: the packet comes at most 10 s after its latest repeat
abbrev pub is_fresh : Heard → Query → Bool
is_fresh heard query = nat_le (moment heard - query.latest) 10000000000

-- repeats heard query: the packet is a repeat of it: no later one has the same identifier, type and addresses, and no response belongs to it
abbrev pub repeats : Heard → Query → Bool
repeats heard query = is_of heard query && (not query.is_over && (not query.is_closed && is_fresh heard query))

-- a type is one that is looked up: NB, 20, or NBSTAT, 21
abbrev pub is_looked_up : ℕ → Bool
is_looked_up kind = kind == 0x20 || kind == 0x21

-- fits_kind told asked: a response with the one type may answer a query with the other
abbrev pub fits_kind : Option ℕ → Option ℕ → Bool
fits_kind (Some told) (Some asked) = told == asked || not (is_looked_up told)
fits_kind _ _ = true

-- fits heard query: the response has its identifier and type, and goes to who sent it
abbrev pub fits : Heard → Query → Bool
fits heard query = not query.is_over && (query.id == heard.facts.id
    && (same_address query.asker heard.facts.frame.target && fits_kind heard.kind query.kind))

-- is_waiting heard query: it still waits for a response that fits
abbrev pub is_waiting : Heard → Query → Bool
is_waiting heard query = fits heard query && is_fresh heard query

-- meets turn heard query: the packet is so to this query
abbrev pub meets : Turn → Heard → Query → Bool
meets Repeats heard query = repeats heard query
meets Begins heard query = is_of heard query
meets OfSender heard query = is_waiting heard query && same_address query.station heard.facts.frame.source
meets OfGroup heard query = is_waiting heard query && query.is_to_group
meets OfNone heard query = fits heard query
meets Other heard query = false

-- ---- what came of a query

-- leads_elsewhere kind: a response of this type has no answer
abbrev pub leads_elsewhere : Option ℕ → Bool
leads_elsewhere None = false
leads_elsewhere (Some kind) = not (is_looked_up kind)

-- what a response that belongs to a query says to it
abbrev pub outcome_of : Heard → Outcome
outcome_of heard =
    if rcode_of heard.flags == 0 then (if leads_elsewhere heard.kind then Redirected else Answered) else Refused (rcode_of heard.flags)

-- missed heard query: what a response that belongs to no query says to one which it fits
abbrev pub missed : Heard → Query → Outcome
missed heard query = if is_fresh heard query then OfAnother else Late (moment heard - query.latest)

-- a query is answered by it
abbrev pub is_answer : Outcome → Bool
is_answer Answered = true
is_answer _ = false

-- replied heard outcome belongs query: the query, after a response; one that is answered has nothing more to do with others
abbrev pub replied : Heard → Outcome → Bool → Query → Query
replied heard outcome belongs query = record query {
  is_closed = query.is_closed || belongs;
  is_answered = query.is_answered || is_answer outcome;
  reply = if is_answer outcome || not query.is_answered
      then Some (record { outcome = outcome; by = heard.facts.frame.source; frame = heard.facts.frame.number })
      else query.reply;
}

-- ---- packets

-- the packet goes to a group: by the MAC of who receives it, or else by the bit B of NM_FLAGS, 0010
abbrev pub goes_to_group : Heard → Bool
goes_to_group heard = unwrap_or heard.facts.frame.is_to_group (has heard.flags 0x10)

-- a query of which this is the first packet
abbrev pub begun : Heard → Query
begun heard = record {
  id = heard.facts.id;
  kind = heard.kind;
  asker = heard.facts.frame.source;
  station = heard.facts.frame.target;
  is_to_group = goes_to_group heard;
  since = heard.facts.frame.time;
  latest = moment heard;
  packets = 1;
  frames = heard.facts.frame.number ∷ replicate 15 0;
  is_over = false;
  is_closed = false;
  is_answered = false;
  reply = None;
}

-- the query, with one more repeat; the frames of the first 16 are kept
abbrev pub repeated : Heard → Query → Query
repeated heard query = record query {
  latest = moment heard;
  packets = min (query.packets + 1) (2 ^ 64 - 1);
  frames = if nat_lt query.packets 16 then slice_set query.frames query.packets heard.facts.frame.number else query.frames;
}

-- the query, after another one, which is looked at in its place
abbrev pub ended : Query → Query
ended query = record query { is_over = true }

-- turn_of heard queries: what the packet is to the queries about its name: a query is a repeat of one of them or another one; a response
-- that isn't malformed belongs to those that were sent to its sender, or else to those that were sent to a group
abbrev pub turn_of : Heard → List Query → Turn
turn_of heard queries =
    if not (opcode_of heard.flags == 0) then Other
    else if not (has heard.flags 0x8000) then (if list_any (meets Repeats heard) queries then Repeats else Begins)
    else if heard.facts.is_malformed then Other
    else if list_any (meets OfSender heard) queries then OfSender
    else if list_any (meets OfGroup heard) queries then OfGroup
    else OfNone

-- changed turn heard query: the query, after a packet that is so to it
abbrev pub changed : Turn → Heard → Query → Query
changed Repeats heard query = repeated heard query
changed Begins heard query = ended query
changed OfSender heard query = replied heard (outcome_of heard) true query
changed OfGroup heard query = replied heard (outcome_of heard) true query
changed OfNone heard query = replied heard (missed heard query) false query
changed Other heard query = query

-- taken turn heard query: the query, after a packet about its name
abbrev pub taken : Turn → Heard → Query → Query
taken turn heard query = if meets turn heard query then changed turn heard query else query

-- the query that a packet begins
abbrev pub begun_by : Turn → Heard → List Query
begun_by Begins heard = begun heard ∷ []
begun_by _ heard = []

-- step queries heard: the queries about a name, after one more packet about it
abbrev pub step : List Query → Heard → List Query
step queries heard = map (taken (turn_of heard queries) heard) queries ++ begun_by (turn_of heard queries) heard

-- is_for name heard: the packet is about this name
abbrev pub is_for : List (List ℕ) → Heard → Bool
is_for name heard = is_its name heard.name

-- queries_of name packets: the queries about a name, in order, by all packets about it
abbrev pub queries_of : List (List ℕ) → List Heard → List Query
queries_of name packets = fold step [] (filter (is_for name) packets)
