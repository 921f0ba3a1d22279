-- Payloads for which a member's table has no room.
use Rattle.nb_member.proofs.Common.{◌≡◌, ◌≢◌, ℕ, inl, inr, true, List, refl, sym, ap, subst, arith, ◌∙◌, Option, Some, None, unwrap_or, MatchOption, IfSome, cases_Bool, false≢true, Key, Direct, Error, Query, FragmentParts, IsPacket, TableFault, Passes, Refuses, Limits, Settings, Saying, came, limits_of, Says, Timed, HasRoom, is_full, is_source_full, MemberValue, contents, StandsOver, MeetsLimit, StopsAt, IsFullAs, MeetsFull, BeginsFull, limit_of, RunStop}
use Rattle.nb_datagram.specs.Packet.{Packet as AnyPacket}
use Rattle.nb_table.specs.declared.fault.TableFault.TheVariants as table_fault
use Rattle.nb_table.specs.Insert.{Takes as TableTakes}
use Rattle.nb_member.specs.declared.outcome.Event.TheVariants.{Packet}
use Rattle.nb_member.specs.Events as saying
use Rattle.nb_member.proofs.EventLemmas.{SaysOf, of_packet, of_fault, says_by}
use Rattle.nb_member.proofs.MemberLemmas.LiveAfter.{full_is, source_full_is, is_full_is, is_source_full_is, source_room_is, is_source_room}
use Rattle.nb_member.proofs.TakingLemmas.Payloads.{valid_is}
use Rattle.nb_member.specs.declared.event_taking.RunStop.TheVariants.{Full, FullSource, NoMemory}

passes_is : (l : Limits) (settings : Settings) (f : FragmentParts) → l ≡ limits_of settings → Passes (limits_of settings) f → Passes l f
passes_is l settings f limits v = subst (λ (x : Limits). Passes x f) (sym limits) v

-- a key that is full by one of the limits
full_as : (m : MemberValue) (L : List Timed) (moment : ℕ) (payload : List ℕ) (f : FragmentParts) (stop : RunStop) → StandsOver m L
    → Says m.settings (Packet moment payload) (came moment f) → IsFullAs m f.key stop → StopsAt m.settings L (Packet moment payload) stop
full_as m L moment payload f (Full q) s says full =
    let there = full_is (contents m) m.timed.table.limits m.settings L f.key s.table_is s.limits_are full.1 in
    let room = is_source_room (contents m) m.timed.table.limits m.settings L f.key s.table_is s.limits_are full.1.is_new full.2 in (
      record { moment = moment; f = f; says = says; key = sym full.0; full = ap (λ (j : Key). is_full m.settings L j) full.0 ∙ there },
      ap (λ (j : Key). is_source_full m.settings L j) full.0 ∙ room,
    )
full_as m L moment payload f NoMemory s says full = absurd full
full_as m L moment payload f (FullSource q) s says full =
    let there = source_full_is (contents m) m.timed.table.limits m.settings L f.key s.table_is s.limits_are full.1 in (
      record { moment = moment; f = f; says = says; key = sym full.0; full = ap (λ (j : Key). is_full m.settings L j) full.0 ∙ there.0 },
      ap (λ (j : Key). is_source_full m.settings L j) full.0 ∙ there.1,
    )

-- a payload that begins with a fragment of a full key says a fragment that meets the limit
meets_limit : (m : MemberValue) (L : List Timed) (moment : ℕ) (payload : List ℕ) (stop : RunStop) → StandsOver m L
    → BeginsFull m payload stop → StopsAt m.settings L (Packet moment payload) stop
meets_limit m L moment payload stop s b =
    full_as m L moment payload b.f stop s
    (saying.fragment moment b.used payload b.f b.found (valid_is m.timed.table.limits m.settings b.f s.limits_are b.meets.passes)) b.meets.full

-- and the other way round
as_full : (m : MemberValue) (L : List Timed) (k : Key) → StandsOver m L → is_full m.settings L k ≡ true → (stop : RunStop) × IsFullAs m k stop
as_full m L k s full = elim (cases_Bool (is_source_full m.settings L k)) [
  | inl source ↦ (FullSource k, (refl, is_source_full_is (contents m) m.timed.table.limits m.settings L k s.table_is s.limits_are full source))
  | inr none ↦ (
    Full k,
    (refl, is_full_is (contents m) m.timed.table.limits m.settings L k s.table_is s.limits_are full none, source_room_is (contents m) m.timed.table.limits m.settings L k s.table_is s.limits_are none),
  )
]

begins_of : (m : MemberValue) (L : List Timed) (moment at : ℕ) (payload : List ℕ) (f : FragmentParts) (k : Key) → StandsOver m L
    → SaysOf m.settings moment payload (came at f) → f.key ≡ k → is_full m.settings L k ≡ true → (stop : RunStop) × BeginsFull m payload stop
begins_of m L moment at payload f k s (of_packet used (Direct g) p (inl h)) key full =
    let e = h.1 in
    let same : g ≡ f = cc in
    let key_is : g.key ≡ k = ap (λ (x : FragmentParts). x.key) same ∙ key in
    let met = as_full m L g.key s (ap (λ (j : Key). is_full m.settings L j) key_is ∙ full) in (
      met.0,
      record {
        f = g;
        used = used;
        found = p;
        meets = record { passes = passes_is m.timed.table.limits m.settings g s.limits_are h.0; full = met.1 };
      },
    )
begins_of m L moment at payload f k s (of_packet used (Direct g) p (inr h)) key full = let e = h.2 in absurd (cc)
begins_of m L moment at payload f k s (of_packet used (Error x) p e) key full = absurd (cc)
begins_of m L moment at payload f k s (of_packet used (Query q) p e) key full = absurd (cc)
begins_of m L moment at payload f k s (of_fault x p e) key full = absurd (cc)

begins_full : (m : MemberValue) (L : List Timed) (moment : ℕ) (payload : List ℕ) (k : Key) → StandsOver m L
    → MeetsLimit m.settings L (Packet moment payload) k → (stop : RunStop) × BeginsFull m payload stop
begins_full m L moment payload k s h =
    begins_of m L moment h.moment payload h.f k s (says_by m.settings (Packet moment payload) (came h.moment h.f) h.says) h.key h.full

-- a fragment meets the limit for which the table refuses it
met_none : (m : MemberValue) (f : FragmentParts) → TableTakes m.timed.table f → (stop : RunStop) → ¬ MeetsFull m f stop
met_none m f takes (FullSource k) h = let full = h.full in takes.source_room full.1
met_none m f takes (Full k) h = let full = h.full in takes.room full.1
met_none m f takes NoMemory h = h.full

pub met_by : (m : MemberValue) (f : FragmentParts) (refusal : Option TableFault)
    → MatchOption refusal (TableTakes m.timed.table f) (Refuses m.timed.table f)
    → IfSome refusal (λ why. why ≢ table_fault.NoMemory)
    → MatchOption (limit_of refusal) ((stop : RunStop) → ¬ MeetsFull m f stop) (MeetsFull m f)
met_by m f None takes some = met_none m f takes
met_by m f (Some table_fault.MisplacedFirst) refuses some = λ stop h. refuses h.passes.placed
met_by m f (Some table_fault.TooLong) refuses some = λ stop h.
    let past = refuses.1 in
    let short = h.passes.short in
    absurd (omega (arith, past, short))
met_by m f (Some (table_fault.FullSource k)) refuses some = record { passes = refuses.0; full = refuses.1 }
met_by m f (Some (table_fault.Full k)) refuses some = record { passes = refuses.0; full = refuses.1 }
met_by m f (Some table_fault.NoMemory) refuses some = absurd (some refl)

-- a payload begins with one fragment
pub begins_by : (m : MemberValue) (payload : List ℕ) (f : FragmentParts) (used : ℕ) (met : Option RunStop)
    → IsPacket payload (Direct f) used
    → ((g : FragmentParts) (behind : ℕ) → IsPacket payload (Direct g) behind → ◌≡◌ {A = AnyPacket} (Direct f) (Direct g))
    → MatchOption met ((stop : RunStop) → ¬ MeetsFull m f stop) (MeetsFull m f)
    → MatchOption met ((stop : RunStop) → ¬ BeginsFull m payload stop) (BeginsFull m payload)
begins_by m payload f used None found only h = λ stop b.
    let one = only b.f b.used b.found in
    let same : b.f ≡ f = cc in
    h stop (subst (λ (g : FragmentParts). MeetsFull m g stop) same b.meets)
begins_by m payload f used (Some stop) found only h = record { f = f; used = used; found = found; meets = h }

-- so a run stops before a payload where there is no room to note an answer
pub stops_at : (m : MemberValue) (L : List Timed) (moment : ℕ) (payload : List ℕ) (met : Option RunStop) → StandsOver m L
    → MatchOption met ((stop : RunStop) → ¬ BeginsFull m payload stop) (BeginsFull m payload)
    → StopsAt m.settings L (Packet moment payload) (unwrap_or met NoMemory)
stops_at m L moment payload None s h = (tt, λ k meets. (let b = begins_full m L moment payload k s meets in h b.0 b.1))
stops_at m L moment payload (Some stop) s h = meets_limit m L moment payload stop s h

-- where what an event says has room, it meets no limit
pub meets_none : (settings : Settings) (L : List Timed) (moment : ℕ) (payload : List ℕ)
    → ((s : Saying) → Says settings (Packet moment payload) s → HasRoom settings L s)
    → (k : Key) → MeetsLimit settings L (Packet moment payload) k → ⊥
meets_none settings L moment payload room k h =
    let open_still = room (came h.moment h.f) h.says in
    let full = h.full in
    absurd (false≢true (sym open_still ∙ (ap (λ (j : Key). is_full settings L j) h.key ∙ full)))
