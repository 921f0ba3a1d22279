-- What a member does with a payload (RFC 1002 section 5.3), first by its bytes, and then by what it says and what
-- is live; and with another's table (our choice).
use Rattle.std.specs.Prelude.{cond, List, ◌≡◌, ℕ, Result, Ok, Err, false, true, Option, Some, None, filter}
use Rattle.std.specs.FinMap as maps
use Rattle.nb_names.specs.Name.{NetbiosName}
use Rattle.nb_datagram.specs.declared.key.Key.{Key}
use Rattle.nb_datagram.specs.declared.fault.DatagramFault.{DatagramFault}
use Rattle.nb_datagram.specs.declared.packet.ErrorPacket.{ErrorPacket}
use Rattle.nb_datagram.specs.declared.packet.Packet.TheVariants.{Direct, Error, Query}
use Rattle.nb_datagram.specs.Fragment.{DatagramParts, FragmentParts}
use Rattle.nb_datagram.specs.DatagramFaults.{PacketFails}
use Rattle.nb_datagram.specs.Packet.{QueryPacket, IsPacket}
use Rattle.nb_entries.specs.declared.outline.Change.TheVariants as change
use Rattle.nb_table.specs.declared.fault.TableFault.{TableFault}
use Rattle.nb_table.specs.declared.fault.TableFault.TheVariants.{Full, FullSource}
use Rattle.nb_entries.specs.Change.{Change}
use Rattle.nb_table.specs.Change.{IsChange}
use Rattle.nb_table.specs.Insert.{Takes as TableTakes, Refuses}
use Rattle.nb_entries.specs.Maps.{first_of}
use Rattle.nb_table.specs.Contents.{Contents}
use Rattle.nb_table.specs.Join.{join}
use Rattle.nb_table.specs.Limits.{with_contents}
use Rattle.nb_table.specs.Merging.{Fits, newly_handed}
use Rattle.nb_member.specs.declared.outcome.Outcome.{Outcome}
use Rattle.nb_member.specs.declared.outcome.Outcome.TheVariants.{Delivered, Unheard, Kept, Spoilt, Other}
use Rattle.nb_member.specs.declared.settings.Settings.{Settings}
use Rattle.nb_member.specs.declared.outcome.MemberFault.{MemberFault}
use Rattle.nb_member.specs.declared.outcome.MemberFault.TheVariants.{Packet, Table}
use Rattle.nb_member.specs.Hearing.{hears, unheard, refusal}
use Rattle.nb_member.specs.Member.{MemberValue, contents, with_timed, after_fragment, StandsOver, Moments, TimedValue}
use Rattle.nb_member.specs.Events.{Saying, came, refused, another, clock}
use Rattle.nb_member.specs.Live.{Timed, table_from, is_full, is_source_full, live_after}

-- ---- a payload, by its bytes

-- handed settings names k d: what is answered where the datagram d of key k became whole
abbrev pub handed : Settings → List NetbiosName → Key → DatagramParts → Outcome
handed settings names k d = cond (hears names d) (Delivered d) (Unheard k (unheard settings d))

-- outcome_of settings names k c: what is answered where this changed at the key k
abbrev pub outcome_of : Settings → List NetbiosName → Key → Change → Outcome
outcome_of settings names k change.Spoilt = Spoilt k
outcome_of settings names k (change.Whole d) = handed settings names k d
outcome_of settings names k change.Same = Kept k
outcome_of settings names k change.Grown = Kept k

-- IsTaken m moment f new outcome: the member m took in the fragment f, which came at this moment, and
-- became new
pub record IsTaken (m : MemberValue) (moment : ℕ) (f : FragmentParts) (new : MemberValue) (outcome : Outcome) : Type 0 where
  pub takes : TableTakes m.timed.table f
  pub joined : new ≡ with_timed m (after_fragment m.timed moment f)
  pub change : Change
  pub changed : IsChange (contents m) (contents new) f.key change
  pub answered : outcome ≡ outcome_of m.settings m.names f.key change

-- TakesFragment m moment f new result: what is answered of the fragment f, and what it makes of the member
abbrev pub TakesFragment : MemberValue → ℕ → FragmentParts → MemberValue → Result Outcome MemberFault → Type 0
TakesFragment m moment f new (Ok outcome) = IsTaken m moment f new outcome
TakesFragment m moment f new (Err (Packet fault error)) = ⊥
TakesFragment m moment f new (Err (Table fault)) = Refuses m.timed.table f fault × (new ≡ m)

-- Takes m moment payload new result: what is answered of the payload, and what it makes of the member
pub data Takes (m : MemberValue) (moment : ℕ) (payload : List ℕ) (new : MemberValue) : Result Outcome MemberFault → Type 0 where
  fragment : (f : FragmentParts) (used : ℕ) (result : Result Outcome MemberFault) → IsPacket payload (Direct f) used
      → TakesFragment m moment f new result → Takes m moment payload new result
  error : (e : ErrorPacket) (used : ℕ) → IsPacket payload (Error e) used → new ≡ m → Takes m moment payload new (Ok Other)
  query : (q : QueryPacket) (used : ℕ) → IsPacket payload (Query q) used → new ≡ m → Takes m moment payload new (Ok Other)
  no_packet : (fault : DatagramFault) → PacketFails payload fault → new ≡ m
      → Takes m moment payload new (Err (Packet fault (refusal m.settings payload fault)))

-- ---- a payload, by what it says

-- IsAnswered settings names L s f outcome: the event says s, that the fragment f came; it is taken in, since
-- its key isn't full where L are live, and the outcome shows what it changed at its key
pub record IsAnswered (settings : Settings) (names : List NetbiosName) (L : List Timed) (s : Saying)
    (f : FragmentParts) (outcome : Outcome) : Type 0 where
  pub room : is_full settings L f.key ≡ false
  pub change : Change
  pub changed : IsChange (table_from L) (table_from (live_after settings L s)) f.key change
  pub answered : outcome ≡ outcome_of settings names f.key change

-- full_fault settings L k: why the key k is full where L are live: its address is, or else all keys are
abbrev pub full_fault : Settings → List Timed → Key → TableFault
full_fault settings L k = cond (is_source_full settings L k) (FullSource k) (Full k)

-- AnswersFragment settings names L s f result: what is answered where the event says s, that the fragment f
-- came: an outcome, or that its key is full
abbrev pub AnswersFragment : Settings → List NetbiosName → List Timed → Saying → FragmentParts → Result Outcome MemberFault → Type 0
AnswersFragment settings names L s f (Ok outcome) = IsAnswered settings names L s f outcome
AnswersFragment settings names L s f (Err fault) =
    (is_full settings L f.key ≡ true) × (fault ≡ Table (full_fault settings L f.key))

-- Answers settings names L s result: what a member with these settings and names answers to a payload that
-- says s, where L are live before
abbrev pub Answers : Settings → List NetbiosName → List Timed → Saying → Result Outcome MemberFault → Type 0
Answers settings names L (came moment f) result = AnswersFragment settings names L (came moment f) f result
Answers settings names L (refused fault) result = result ≡ Err fault
Answers settings names L another result = result ≡ Ok Other
Answers settings names L (clock now) result = ⊥

-- Does m L s new result: the member m, which stands for the fragments L, does what a payload that says s asks
-- for: it becomes new, which stands for the fragments that are live then, and answers with result
pub record Does (m : MemberValue) (L : List Timed) (s : Saying) (new : MemberValue) (result : Result Outcome MemberFault) : Type 0 where
  pub stands : StandsOver new (live_after m.settings L s)
  pub settings_stay : new.settings ≡ m.settings
  pub names_stay : new.names ≡ m.names
  pub answers : Answers m.settings m.names L s result

-- ---- another's table

-- start_after moments other moment k: when the key k came, once the other table was merged at this moment:
-- as before, if it was there, else then, if the other table has it
abbrev pub start_after : Moments → Contents → ℕ → Key → Option ℕ
start_after moments other moment k =
    first_of (maps.get moments k) (cond (maps.contains_key other k) (Some moment) None)

-- IsMerged t other moment new: the table t and its moments, with the other table merged at this moment, are
-- new; the limits stay
pub record IsMerged (t : TimedValue) (other : Contents) (moment : ℕ) (new : TimedValue) : Type 0 where
  pub table_is : new.table ≡ with_contents t.table (join t.table.contents other)
  pub moments_are : (k : Key) → maps.get new.moments k ≡ start_after t.moments other moment k

-- Absorbs m other moment new datagrams: the member m merged the other table at this moment, became new, and
-- handed over these datagrams: of those that became whole, by ascending key, the ones that it hears
pub record Absorbs (m : MemberValue) (other : Contents) (moment : ℕ) (new : MemberValue) (datagrams : List DatagramParts) : Type 0 where
  pub fits : Fits m.timed.table.limits (contents m) other
  pub stays : new ≡ with_timed m new.timed
  pub merged : IsMerged m.timed other moment new.timed
  pub heard : datagrams ≡ filter (hears m.names) (newly_handed (contents m) (contents new))

-- Previews m other datagrams: the member m takes in the other table, and would hand over these datagrams: of those that
-- would become whole, by ascending key, the ones that it hears
pub record Previews (m : MemberValue) (other : Contents) (datagrams : List DatagramParts) : Type 0 where
  pub fits : Fits m.timed.table.limits (contents m) other
  pub heard : datagrams ≡ filter (hears m.names) (newly_handed (contents m) (join (contents m) other))
