-- When two members that are given two lists of events are given the same fragments, within the limits on
-- keys, and before any timer runs out; that they then have the same table; and what they hand over: for each
-- key that isn't spoilt the same datagram, once (our choice). The clauses of `two_members` lead from the first
-- part of this page to the others.
--
-- S and T are what the events of the two lists say, L the cores of the fragments that are given, and ds the
-- datagrams that a member hands over.
use Rattle.std.specs.Prelude.{List, [], ◌∷◌, ◌≡◌, ◌≤◌, Some, length, None, filter}
use Rattle.std.specs.FinMap as maps
use Rattle.std.specs.Option.{option_to_list}
use Rattle.nb_names.specs.Name.{NetbiosName}
use Rattle.nb_datagram.specs.declared.key.Key.{Key}
use Rattle.nb_datagram.specs.Fragment.{Core, DatagramParts}
use Rattle.nb_datagram.specs.Key.{same_key}
use Rattle.nb_table.specs.Contents.{Contents, table_of, datagram_at}
use Rattle.nb_table.specs.Join.{SameCores}
use Rattle.nb_table.specs.Limits.{FewOfEach}
use Rattle.nb_table.specs.Conflict.{IsSpoilt}
use Rattle.nb_table.specs.Sender.{HasPartsAlone, HasAll}
use Rattle.nb_member.specs.declared.settings.Settings.{Settings}
use Rattle.nb_member.specs.declared.outcome.Event.{Event}
use Rattle.nb_member.specs.declared.event_taking.RunReport.{RunReport}
use Rattle.nb_member.specs.declared.event_taking.RunStop.TheVariants.{NoMemory}
use Rattle.nb_member.specs.declared.pair.Pair.{Pair}
use Rattle.nb_member.specs.Events.{Saying, came, refused, another, clock, Say}
use Rattle.nb_member.specs.Live.{Timed, cores, live_after}
use Rattle.nb_member.specs.Member.{contents}
use Rattle.nb_member.specs.Hearing.{hears, Hears}

-- ---- given the same

-- the valid fragments among S, each with its moment, in order
abbrev pub valid : List Saying → List Timed
valid [] = []
valid (came moment f ∷ S) = record { moment = moment; fragment = f } ∷ valid S
valid (refused fault ∷ S) = valid S
valid (another ∷ S) = valid S
valid (clock now ∷ S) = valid S

-- DropsNone settings L s: it is no look at the clock that drops a key, where L are live
abbrev pub DropsNone : Settings → List Timed → Saying → Type 0
DropsNone settings L (came moment f) = Unit {0}
DropsNone settings L (refused fault) = Unit {0}
DropsNone settings L another = Unit {0}
DropsNone settings L (clock now) = live_after settings L (clock now) ≡ L

-- NoneDropped settings L S: no look at the clock among S drops a key, where L are live before them
abbrev pub NoneDropped : Settings → List Timed → List Saying → Type 0
NoneDropped settings L [] = Unit {0}
NoneDropped settings L (s ∷ S) = DropsNone settings L s × NoneDropped settings (live_after settings L s) S

-- the table has at most as many keys as may be held, and at most as many of each address
pub record HasRoomFor (settings : Settings) (t : Contents) : Type 0 where
  pub keys : maps.len t ≤ settings.keys
  pub sources : FewOfEach settings.per_source t

-- the valid fragments among S have at most as many keys as a table may hold, in all and of each address
abbrev pub IsWithinCapacity : Settings → List Saying → Type 0
IsWithinCapacity settings S = HasRoomFor settings (table_of (cores (valid S)))

-- the two lists have the same valid fragments, whose keys are within the limits, and no look at the clock
-- among either drops a key
pub record GiveTheSame (settings : Settings) (S T : List Saying) : Type 0 where
  pub same_fragments : SameCores (cores (valid S)) (cores (valid T))
  pub within_capacity : IsWithinCapacity settings S
  pub none_dropped : NoneDropped settings [] S
  pub none_dropped_there : NoneDropped settings [] T

-- the two lists of events say the same fragments, as GiveTheSame has it
pub record AreGivenTheSame (settings : Settings) (events_a events_b : List Event) : Type 0 where
  pub sayings : List Saying
  pub sayings_there : List Saying
  pub said : Say settings events_a sayings
  pub said_there : Say settings events_b sayings_there
  pub same : GiveTheSame settings sayings sayings_there

-- ---- the same table

-- not all events were taken, since memory ran out
abbrev pub StoppedForMemory : RunReport → Type 0
StoppedForMemory report = report.stop ≡ Some NoMemory

-- TookAll events report: all of the events were taken
pub record TookAll (events : List Event) (report : RunReport) : Type 0 where
  pub all : report.taken ≡ length events
  pub no_stop : report.stop ≡ None

-- Agree events_a events_b pair: both members took all of their events, and their tables are the same
pub record Agree (events_a events_b : List Event) (pair : Pair) : Type 0 where
  pub took_all : TookAll events_a pair.report_a
  pub took_all_there : TookAll events_b pair.report_b
  pub same_table : contents pair.a ≡ contents pair.b

-- ---- the same datagrams, once

-- of_key k ds: the datagrams of key k among ds, in order
abbrev pub of_key : Key → List DatagramParts → List DatagramParts
of_key k ds = filter (λ d. same_key k d.key) ds

-- heard names ds: the datagrams among ds that a member with these names hears, in order
abbrev pub heard : List NetbiosName → List DatagramParts → List DatagramParts
heard names ds = filter (hears names) ds

-- whole_of L k: the one datagram of key k where L makes it whole, and none otherwise
abbrev pub whole_of : List Core → Key → List DatagramParts
whole_of L k = option_to_list (datagram_at (table_of L) k)

-- HandsOverOnce names L ds: for each key that isn't spoilt, ds has exactly one datagram where the key is
-- whole and a member with these names hears it, and none otherwise
abbrev pub HandsOverOnce : List NetbiosName → List Core → List DatagramParts → Type 0
HandsOverOnce names L ds = (k : Key) → (IsSpoilt L k → ⊥) → of_key k ds ≡ heard names (whole_of L k)

-- HandOverTheSame names others L ds es: for each key that isn't spoilt, what one member hands over and
-- the other hears is what the other hands over and the one hears
abbrev pub HandOverTheSame : List NetbiosName → List NetbiosName → List Core → List DatagramParts
    → List DatagramParts → Type 0
HandOverTheSame names others L ds es =
    (k : Key) → (IsSpoilt L k → ⊥) → heard others (of_key k ds) ≡ heard names (of_key k es)

-- HandsOverTheSenders names L ds: where all fragments with the key of a datagram are parts of it, cover
-- its places, and one says that no more follows, ds has it once, and no other of its key, if it is heard
abbrev pub HandsOverTheSenders : List NetbiosName → List Core → List DatagramParts → Type 0
HandsOverTheSenders names L ds =
    (d : DatagramParts) → HasPartsAlone L d → HasAll L d → Hears names d → of_key d.key ds ≡ d ∷ []
