-- What events in a row make of a member, and what is reported of them (our choice).
use Rattle.std.specs.Prelude.{ℕ, ◌+◌, List, [], ◌∷◌, ◌≡◌, true, false, ⊤, Option, Some, None, take, drop, ◌≤◌, ◌++◌, length}
use Rattle.nb_datagram.specs.declared.key.Key.{Key}
use Rattle.nb_datagram.specs.Fragment.{FragmentParts}
use Rattle.nb_member.specs.declared.outcome.Event.{Event}
use Rattle.nb_member.specs.declared.settings.Settings.{Settings}
use Rattle.nb_member.specs.declared.outcome.Event.TheVariants.{Packet, Tick}
use Rattle.nb_member.specs.declared.event_taking.RunStop.{RunStop}
use Rattle.nb_member.specs.declared.event_taking.RunStop.TheVariants.{Full, FullSource, NoMemory}
use Rattle.nb_member.specs.declared.event_taking.RunReport.{RunReport}
use Rattle.nb_member.specs.Events.{Saying, came, refused, another, clock, Says, Say}
use Rattle.nb_member.specs.Live.{Timed, is_full, is_source_full, NoneFull, live_from, live}
use Rattle.nb_member.specs.Deliveries.{deliveries, errors}
use Rattle.nb_member.specs.Member.{MemberValue, Stands}

-- refused_count S: how many of the events that say S are refused
abbrev pub refused_count : List Saying → ℕ
refused_count [] = 0
refused_count (came moment f ∷ S) = refused_count S
refused_count (refused fault ∷ S) = 1 + refused_count S
refused_count (another ∷ S) = refused_count S
refused_count (clock now ∷ S) = refused_count S

-- MeetsLimit settings L event k: the event says a fragment of key k, and that is full, where L are live
pub record MeetsLimit (settings : Settings) (L : List Timed) (event : Event) (k : Key) : Type 0 where
  pub moment : ℕ
  pub f : FragmentParts
  pub says : Says settings event (came moment f)
  pub key : f.key ≡ k
  pub full : is_full settings L k ≡ true

-- the event is a payload that came, and not a look at the clock
abbrev pub IsPayload : Event → Type 0
IsPayload (Packet moment payload) = ⊤
IsPayload (Tick now) = ⊥

-- StopsAt settings L event stop: no event is taken from this one on, where L are live: since its key's address is
-- full, or where that isn't, since all keys are; and since memory ran out only where the event is a payload that
-- meets no limit
abbrev pub StopsAt : Settings → List Timed → Event → RunStop → Type 0
StopsAt settings L event (Full k) = MeetsLimit settings L event k × (is_source_full settings L k ≡ false)
StopsAt settings L event NoMemory = IsPayload event × ((k : Key) → MeetsLimit settings L event k → ⊥)
StopsAt settings L event (FullSource k) = MeetsLimit settings L event k × (is_source_full settings L k ≡ true)

-- StopsBefore settings L rest stop: these events are left, where L are live: none exactly where all were
-- taken
abbrev pub StopsBefore : Settings → List Timed → List Event → Option RunStop → Type 0
StopsBefore settings L [] None = ⊤
StopsBefore settings L [] (Some stop) = ⊥
StopsBefore settings L (event ∷ later) None = ⊥
StopsBefore settings L (event ∷ later) (Some stop) = StopsAt settings L event stop

-- IsLeft rest stop: these events are left, whatever the member: none exactly where all were taken, and else a
-- payload first
abbrev pub IsLeft : List Event → Option RunStop → Type 0
IsLeft [] None = ⊤
IsLeft [] (Some stop) = ⊥
IsLeft (event ∷ later) None = ⊥
IsLeft (event ∷ later) (Some stop) = IsPayload event

-- Reports m L events report: what is reported of these events, which the member m takes, where L are live before;
-- none of those that were taken met a limit on keys
pub record Reports (m : MemberValue) (L : List Timed) (events : List Event) (report : RunReport) : Type 0 where
  pub sayings : List Saying
  pub said : Say m.settings (take report.taken events) sayings
  pub deliveries_are : report.deliveries ≡ deliveries m.settings m.names L sayings
  pub errors_are : report.errors ≡ errors m.settings m.names L sayings
  pub refused_are : report.refused ≡ refused_count sayings
  pub has_room : NoneFull m.settings L sayings
  pub stops : StopsBefore m.settings (live_from m.settings L sayings) (drop report.taken events) report.stop

-- TakesEvents m events new report: what the member m becomes that takes these events, and what is reported: for all
-- events H for which m stands, it stands for H and the events that were taken
pub record TakesEvents (m : MemberValue) (events : List Event) (new : MemberValue) (report : RunReport) : Type 0 where
  pub settings_stay : new.settings ≡ m.settings
  pub names_stay : new.names ≡ m.names
  pub within : report.taken ≤ length events
  pub left : IsLeft (drop report.taken events) report.stop
  pub stands : (H : List Event) → Stands m H → Stands new (H ++ take report.taken events)
  pub reports : (H : List Event) (s : Stands m H) → Reports m (live m.settings s.sayings) events report
