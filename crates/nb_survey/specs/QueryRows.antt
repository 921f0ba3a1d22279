-- The table *queries that found nothing*: a row for each type, asker and station of the queries about a name, where one of them has no
-- positive response (our choice; docs/SUMMARY.md).
use Rattle.std.specs.Prelude.{ℕ, ◌&&◌, ◌+◌, ◌-◌, ◌^◌, min, nat_eq, nat_lt, not, Bool, List, [], ◌∷◌, filter, fold, sum_by, take, Option, Some, None, if◌then◌else◌}
use Rattle.std.specs.List.{flat_map}
use Rattle.std.specs.Option.{option_eq}
use Rattle.nb_survey.specs.declared.query.Query.{Query}
use Rattle.nb_survey.specs.declared.query.Reply.{Reply}
use Rattle.nb_survey.specs.declared.query_row.QueryRow.{QueryRow}
use Rattle.nb_survey.specs.Places.{same_address}

-- two queries have one type, asker and station
abbrev pub same_row : Query → Query → Bool
same_row one other =
    option_eq nat_eq one.kind other.kind && (same_address one.asker other.asker && same_address one.station other.station)

-- the queries from the first one on that has no positive response
abbrev pub from_failed : List Query → List Query
from_failed [] = []
from_failed (query ∷ queries) = if query.is_answered then from_failed queries else query ∷ queries

-- how many packets a query is, where it has no positive response
abbrev pub unanswered : Query → ℕ
unanswered query = if query.is_answered then 0 else query.packets

-- the later one of two responses, by their frames
abbrev pub later_reply : Option Reply → Option Reply → Option Reply
later_reply one None = one
later_reply None (Some other) = Some other
later_reply (Some one) (Some other) = if nat_lt other.frame one.frame then Some one else Some other

-- the latest response to these queries
abbrev pub latest_reply : List Query → Option Reply
latest_reply = fold (λ reply query. later_reply reply query.reply) None

-- the row of these queries, of which the first one has no positive response
abbrev pub row_from : List Query → Option QueryRow
row_from [] = None
row_from (query ∷ queries) = Some (record {
  packets = min (sum_by unanswered (query ∷ queries)) (2 ^ 64 - 1);
  since = query.since;
  reply = latest_reply (query ∷ queries);
})

-- row_of query queries: the row of a query among all queries about its name
abbrev pub row_of : Query → List Query → Option QueryRow
row_of query queries = row_from (from_failed (filter (same_row query) queries))

-- more query row: a row, after one more query
abbrev pub more : Query → QueryRow → QueryRow
more query row = record {
  packets = min (row.packets + unanswered query) (2 ^ 64 - 1);
  since = row.since;
  reply = later_reply row.reply query.reply;
}

-- row_more row query: the same, where there may be no row yet
abbrev pub row_more : Option QueryRow → Query → Option QueryRow
row_more (Some row) query = Some (more query row)
row_more None query = if query.is_answered then None else Some (more query (record { packets = 0; since = query.since; reply = None }))

-- the frames that are kept of a query: of its first 16 packets
abbrev pub kept_frames : Query → List ℕ
kept_frames query = take query.packets query.frames

-- row_frames one other: these, where it is of the row and has no positive response
abbrev pub row_frames : Query → Query → List ℕ
row_frames one other = if same_row one other && not other.is_answered then kept_frames other else []

-- frames_of query queries: 16 frames of its row, in the order of the queries
abbrev pub frames_of : Query → List Query → List ℕ
frames_of query queries = take 16 (flat_map (row_frames query) queries)
