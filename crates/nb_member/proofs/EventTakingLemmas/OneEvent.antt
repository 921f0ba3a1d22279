-- One event of several, and what they come to.
use Rattle.nb_member.proofs.Common.{◌≡◌, ◌<◌, ◌≤◌, ◌+◌, ◌++◌, ℕ, suc, Bool, true, false, cond, List, [], ◌∷◌, length, take, drop, get_or, refl, sym, ap, ◌∙◌, arith, subst, drop-cons, add-one, take_all, inl, inr, Option, Some, None, Result, Ok, Err, filter, unwrap_or, MatchOption, NetbiosName, Key, ErrorPacket, Direct, Error, Query, FragmentParts, DatagramParts, TableFault, Event, MemberFault, Outcome, RunReport, RunStop, Settings, KeepsSetup, BeginsFull, Answers, Does, delivery_in, error_in, made_by, errors_by, hears, Saying, came, refused, another, clock, Says, Timed, is_full, is_source_full, HasRoom, live_after, live_from, MemberValue, StandsOver, with_timed, after_clock, MeetsLimit, IsLeft, IsPayload, refused_count, StopsAt, StopsBefore, TakesEvents, noted, HandedOut, HasTaken, TakesEvent}
use Rattle.std.proofs.Common.{append-nil}
use Rattle.std.proofs.Math.ListN.{drop_of_length-le}
use Rattle.std.proofs.Math.Seq.{take-suc}
use Rattle.nb_datagram.specs.declared.fault.DatagramFault.{DatagramFault}
use Rattle.nb_table.specs.declared.fault.TableFault.TheVariants as table_fault
use Rattle.nb_member.specs.declared.outcome.Event.TheVariants.{Packet, Tick}
use Rattle.nb_member.specs.declared.outcome.MemberFault.TheVariants as fault
use Rattle.nb_member.specs.declared.event_taking.RunStop.TheVariants.{NoMemory}
use Rattle.nb_member.proofs.TakingLemmas.FullKeys.{stops_at, meets_none}
use Rattle.nb_member.proofs.EventTakingLemmas.EventsInRow.{TookOver, took_none, took_more, takes_from}
use Rattle.nb_member.proofs.EventLemmas.{SaysOf, of_packet, of_fault, IsInvalid, says_by}
use Rattle.nb_member.specs.Taking.{Takes}
use Rattle.nb_member.specs.Events.{tick}

-- ---- what is known of a step

-- the laws on a member's steps
pub record StepsKnown : Type 0 where
  pub says : (m new : MemberValue) (L : List Timed) (moment : ℕ) (payload : List ℕ) (result : Result Outcome MemberFault)
      → StandsOver m L → Takes m moment payload new result → (s : Saying) × Says m.settings (Packet moment payload) s
  pub does : (m new : MemberValue) (L : List Timed) (moment : ℕ) (payload : List ℕ) (result : Result Outcome MemberFault)
      (s : Saying) → StandsOver m L → Says m.settings (Packet moment payload) s → Takes m moment payload new result
      → (result ≡ Err (fault.Table table_fault.NoMemory) → ⊥) → Does m L s new result
  pub memory : (m new : MemberValue) (L : List Timed) (moment : ℕ) (payload : List ℕ) (s : Saying) → StandsOver m L
      → Says m.settings (Packet moment payload) s → Takes m moment payload new (Err (fault.Table table_fault.NoMemory))
      → HasRoom m.settings L s
  pub keeps : (m new : MemberValue) (moment : ℕ) (payload : List ℕ) (x : MemberFault)
      → Takes m moment payload new (Err x) → new ≡ m
  pub delivery : (settings : Settings) (names : List NetbiosName) (L : List Timed) (s : Saying)
      (result : Result Outcome MemberFault) → Answers settings names L s result
      → filter (hears names) (made_by settings L s) ≡ delivery_in result
  pub error : (settings : Settings) (names : List NetbiosName) (L : List Timed) (s : Saying)
      (result : Result Outcome MemberFault) → Answers settings names L s result
      → errors_by settings names L s ≡ error_in result

-- ---- which answers count as refused

-- what an event says that is refused, or isn't, counts as that, and had room
abbrev IsCounted : Settings → List Timed → Saying → Bool → Type 0
IsCounted settings L s was = (cond was 1 0 ≡ refused_count (s ∷ [])) × HasRoom settings L s

-- what is answered with an outcome
not_counted : (settings : Settings) (names : List NetbiosName) (L : List Timed) (s : Saying) (outcome : Outcome)
    → Answers settings names L s (Ok outcome) → IsCounted settings L s false
not_counted settings names L (came moment f) outcome a = (refl, a.room)
not_counted settings names L (refused x) outcome a = absurd (cc)
not_counted settings names L another outcome a = (refl, tt)
not_counted settings names L (clock now) outcome a = absurd a

-- the fault where a key is full, that of its address if b
abbrev limit_fault : Bool → Key → TableFault
limit_fault b k = cond b (table_fault.FullSource k) (table_fault.Full k)

-- a fault of the table that is no such fault
abbrev IsNotFull : MemberFault → Type 0
IsNotFull x = (b : Bool) (k : Key) → x ≡ fault.Table (limit_fault b k) → ⊥

packet_other : (x : DatagramFault) (error : Option ErrorPacket) → IsNotFull (fault.Packet x error)
packet_other x error b k h = absurd (cc)

misplaced_other : IsNotFull (fault.Table table_fault.MisplacedFirst)
misplaced_other true k h = absurd (cc)
misplaced_other false k h = absurd (cc)

long_other : IsNotFull (fault.Table table_fault.TooLong)
long_other true k h = absurd (cc)
long_other false k h = absurd (cc)

-- and what is refused otherwise than as full
counted : (settings : Settings) (names : List NetbiosName) (L : List Timed) (s : Saying) (x : MemberFault) → IsNotFull x
    → Answers settings names L s (Err x) → IsCounted settings L s true
counted settings names L (came moment f) x other a = absurd (other (is_source_full settings L f.key) f.key a.1)
counted settings names L (refused y) x other a = (refl, tt)
counted settings names L another x other a = absurd (cc)
counted settings names L (clock now) x other a = absurd a

-- ---- full keys

-- no payload is refused as full: it says a fragment
never_full_of : (settings : Settings) (moment : ℕ) (payload : List ℕ) (x : TableFault) → ((f : FragmentParts) → IsInvalid settings.longest f x → ⊥)
    → SaysOf settings moment payload (refused (fault.Table x)) → ⊥
never_full_of settings moment payload x valid (of_packet used (Direct f) p (inl h)) = let e = h.1 in absurd (cc)
never_full_of settings moment payload x valid (of_packet used (Direct f) p (inr h)) =
    let e = h.2 in
    let same : h.0 ≡ x = cc in
    valid f (subst (λ (z : TableFault). IsInvalid settings.longest f z) same h.1)
never_full_of settings moment payload x valid (of_packet used (Error q) p e) = absurd (cc)
never_full_of settings moment payload x valid (of_packet used (Query q) p e) = absurd (cc)
never_full_of settings moment payload x valid (of_fault y p e) = absurd (cc)

not_invalid : (b : Bool) (k : Key) (longest : ℕ) (f : FragmentParts) → IsInvalid longest f (limit_fault b k) → ⊥
not_invalid true k longest f i = i
not_invalid false k longest f i = i

-- which of the limits is met
limit_by : (a b : Bool) (q k : Key) → ◌≡◌ {A = MemberFault} (fault.Table (limit_fault b k)) (fault.Table (limit_fault a q)) → (q ≡ k) × (a ≡ b)
limit_by true true q k h = (cc, refl)
limit_by true false q k h = absurd (cc h)
limit_by false true q k h = absurd (cc h)
limit_by false false q k h = (cc, refl)

full_key : (settings : Settings) (names : List NetbiosName) (L : List Timed) (moment : ℕ) (payload : List ℕ) (s : Saying)
    (b : Bool) (k : Key) → Says settings (Packet moment payload) s → Answers settings names L s (Err (fault.Table (limit_fault b k)))
    → MeetsLimit settings L (Packet moment payload) k × (is_source_full settings L k ≡ b)
full_key settings names L moment payload (came at f) b k says a =
    let by = limit_by (is_source_full settings L f.key) b f.key k a.1 in (
      record { moment = at; f = f; says = says; key = by.0; full = subst (λ (j : Key). is_full settings L j ≡ true) by.0 a.0 },
      subst (λ (j : Key). is_source_full settings L j ≡ b) by.0 by.1,
    )
full_key settings names L moment payload (refused x) b k says a =
    let same : x ≡ fault.Table (limit_fault b k) = cc in
    absurd (never_full_of settings moment payload (limit_fault b k) (not_invalid b k settings.longest)
    (says_by settings (Packet moment payload) (refused (fault.Table (limit_fault b k)))
    (subst (λ (y : MemberFault). Says settings (Packet moment payload) (refused y)) same says)))
full_key settings names L moment payload another b k says a = absurd (cc)
full_key settings names L moment payload (clock now) b k says a = absurd a

-- ---- one event

unchanged : (before after : HandedOut) → after.deliveries ≡ before.deliveries ++ [] → after.errors ≡ before.errors ++ []
    → after ≡ before
unchanged before after d e =
    let ds = d ∙ append-nil before.deliveries in
    let es = e ∙ append-nil before.errors in
    λ i. record { deliveries = ds i; errors = es i }

-- what is taken
step_taken : StepsKnown → (m new : MemberValue) (L : List Timed) (moment : ℕ) (payload : List ℕ)
    (answer : Result Outcome MemberFault) (before after : HandedOut) (was : Bool) → StandsOver m L
    → Takes m moment payload new answer → (answer ≡ Err (fault.Table table_fault.NoMemory) → ⊥)
    → ((s : Saying) → Answers m.settings m.names L s answer → IsCounted m.settings L s was)
    → after.deliveries ≡ before.deliveries ++ delivery_in answer → after.errors ≡ before.errors ++ error_in answer
    → HasTaken m.settings m.names L (Packet moment payload) new before after was
step_taken known m new L moment payload answer before after was stands takes memory counts d e =
    let s = known.says m new L moment payload answer stands takes in
    let does = known.does m new L moment payload answer s.0 stands s.1 takes memory in
    let is_counted = counts s.0 does.answers in
    record {
      said = s.0;
      says = s.1;
      has_room = is_counted.1;
      stands = does.stands;
      deliveries = d ∙ ap (λ (xs : List DatagramParts). before.deliveries ++ xs) (sym (known.delivery m.settings m.names L s.0 answer does.answers));
      errors = e ∙ ap (λ (xs : List ErrorPacket). before.errors ++ xs) (sym (known.error m.settings m.names L s.0 answer does.answers));
      count = is_counted.0;
    }

-- what is refused as full
step_full : StepsKnown → (m new : MemberValue) (L : List Timed) (moment : ℕ) (payload : List ℕ) (b : Bool) (k : Key)
    (before after : HandedOut) → StandsOver m L → Takes m moment payload new (Err (fault.Table (limit_fault b k)))
    → (◌≡◌ {A = Result Outcome MemberFault} (Err (fault.Table (limit_fault b k))) (Err (fault.Table table_fault.NoMemory)) → ⊥)
    → after.deliveries ≡ before.deliveries ++ [] → after.errors ≡ before.errors ++ []
    → (MeetsLimit m.settings L (Packet moment payload) k × (is_source_full m.settings L k ≡ b)) × (new ≡ m) × (after ≡ before)
step_full known m new L moment payload b k before after stands takes memory d e =
    let x = fault.Table (limit_fault b k) in
    let s = known.says m new L moment payload (Err x) stands takes in
    let does = known.does m new L moment payload (Err x) s.0 stands s.1 takes memory in (
      full_key m.settings m.names L moment payload s.0 b k s.1 does.answers,
      known.keeps m new moment payload x takes,
      unchanged before after d e,
    )

packet_step : StepsKnown → (m new : MemberValue) (L : List Timed) (moment : ℕ) (payload : List ℕ)
    (answer : Result Outcome MemberFault) (before after : HandedOut) → StandsOver m L → Takes m moment payload new answer
    → after.deliveries ≡ before.deliveries ++ delivery_in answer → after.errors ≡ before.errors ++ error_in answer
    → TakesEvent m L (Packet moment payload) new before after (noted answer)
packet_step known m new L moment payload (Ok outcome) before after stands takes d e =
    step_taken known m new L moment payload (Ok outcome) before after false stands takes (λ h. absurd (cc))
    (λ s a. not_counted m.settings m.names L s outcome a) d e
packet_step known m new L moment payload (Err (fault.Packet x error)) before after stands takes d e =
    step_taken known m new L moment payload (Err (fault.Packet x error)) before after true stands takes (λ h. absurd (cc))
    (λ s a. counted m.settings m.names L s (fault.Packet x error) (packet_other x error) a) d e
packet_step known m new L moment payload (Err (fault.Table table_fault.MisplacedFirst)) before after stands takes d e =
    step_taken known m new L moment payload (Err (fault.Table table_fault.MisplacedFirst)) before after true stands takes (λ h. absurd (cc))
    (λ s a. counted m.settings m.names L s (fault.Table table_fault.MisplacedFirst) misplaced_other a) d e
packet_step known m new L moment payload (Err (fault.Table table_fault.TooLong)) before after stands takes d e =
    step_taken known m new L moment payload (Err (fault.Table table_fault.TooLong)) before after true stands takes (λ h. absurd (cc))
    (λ s a. counted m.settings m.names L s (fault.Table table_fault.TooLong) long_other a) d e
packet_step known m new L moment payload (Err (fault.Table (table_fault.Full k))) before after stands takes d e =
    step_full known m new L moment payload false k before after stands takes (λ h. absurd (cc)) d e
packet_step known m new L moment payload (Err (fault.Table (table_fault.FullSource k))) before after stands takes d e =
    step_full known m new L moment payload true k before after stands takes (λ h. absurd (cc)) d e
packet_step known m new L moment payload (Err (fault.Table table_fault.NoMemory)) before after stands takes d e = (
  (tt, meets_none m.settings L moment payload (λ s says. known.memory m new L moment payload s stands says takes)),
  known.keeps m new moment payload (fault.Table table_fault.NoMemory) takes,
  unchanged before after d e,
)

-- a payload that is taken, and noted
pub payload_step : StepsKnown → (m new : MemberValue) (L : List Timed) (moment : ℕ) (payload : List ℕ)
    (answer : Result Outcome MemberFault) (before after : HandedOut) (result : Result Bool RunStop) → StandsOver m L
    → Takes m moment payload new answer → after.deliveries ≡ before.deliveries ++ delivery_in answer
    → after.errors ≡ before.errors ++ error_in answer → result ≡ noted answer
    → TakesEvent m L (Packet moment payload) new before after result
payload_step known m new L moment payload answer before after result stands takes d e same =
    subst (λ (r : Result Bool RunStop). TakesEvent m L (Packet moment payload) new before after r) (sym same)
    (packet_step known m new L moment payload answer before after stands takes d e)

-- a payload for which there is no room to note an answer
pub no_room_step : (m : MemberValue) (L : List Timed) (moment : ℕ) (payload : List ℕ) (full : Option RunStop) (before after : HandedOut)
    → StandsOver m L → MatchOption full ((stop : RunStop) → ¬ BeginsFull m payload stop) (BeginsFull m payload)
    → after.deliveries ≡ before.deliveries → after.errors ≡ before.errors
    → TakesEvent m L (Packet moment payload) m before after (Err (unwrap_or full NoMemory))
no_room_step m L moment payload full before after stands h d e =
    (stops_at m L moment payload full stands h, refl, λ i. record { deliveries = d i; errors = e i })

-- a look at the clock
pub clock_step : (m new : MemberValue) (L : List Timed) (now : ℕ) (before after : HandedOut)
    → StandsOver (with_timed m (after_clock m.timed now)) (live_after m.settings L (clock now))
    → new ≡ with_timed m (after_clock m.timed now) → after.deliveries ≡ before.deliveries → after.errors ≡ before.errors
    → HasTaken m.settings m.names L (Tick now) new before after false
clock_step m new L now before after stands same d e = record {
  said = clock now;
  says = tick now;
  has_room = tt;
  stands = subst (λ (x : MemberValue). StandsOver x (live_after m.settings L (clock now))) (sym same) stands;
  deliveries = d ∙ sym (append-nil before.deliveries);
  errors = e ∙ sym (append-nil before.errors);
  count = refl;
}

-- ---- events in a row

-- one more event
pub one_more : (m : MemberValue) (L : List Timed) (E : List Event) (old new : MemberValue) (before after : HandedOut) (n more : ℕ)
    (event : Event) (was : Bool) → KeepsSetup m old
    → TookOver m L E old before.deliveries before.errors n
    → ((M : List Timed) → StandsOver old M → TakesEvent old M event new before after (Ok was)) → more ≡ n + cond was 1 0
    → TookOver m L (E ++ event ∷ []) new after.deliveries after.errors more
one_more m L E old new before after n more event was kept took step counts =
    let M = live_from m.settings L took.sayings in
    let P : Settings → Type 0 = λ s. HasTaken s old.names M event new before after was in
    let Q : List NetbiosName → Type 0 = λ ns. HasTaken m.settings ns M event new before after was in
    took_more m L E old new before after n more event was took (subst Q kept.1 (subst P kept.0 (step M took.over))) counts

-- the next event
next_event : (events : List Event) (i : ℕ) (event : Event) → i < length events → event ≡ get_or events i event
    → take (i + 1) events ≡ take i events ++ event ∷ []
next_event events i event h is =
    ap (λ (n : ℕ). take n events) (add-one i)
    ∙ (take-suc events i event h ∙ ap (λ (x : Event). take i events ++ x ∷ []) (sym is))

-- TakenSoFar m events i new out n: the first i events were taken
pub record TakenSoFar (m : MemberValue) (events : List Event) (i : ℕ) (new : MemberValue) (out : HandedOut) (n : ℕ) : Type 0 where
  pub kept : KeepsSetup m new
  pub few : n ≤ i
  pub took : (L : List Timed) → StandsOver m L → TookOver m L (take i events) new out.deliveries out.errors n

pub none_so_far : (m : MemberValue) (events : List Event) (out : HandedOut) → out.deliveries ≡ [] → out.errors ≡ []
    → TakenSoFar m events 0 m out 0
none_so_far m events out d e = record {
  kept = (refl, refl);
  few = omega arith;
  took = λ L s. took_none m L out.deliveries out.errors d e s;
}

at_most_one : (b : Bool) → cond b 1 0 ≤ 1
at_most_one true = omega arith
at_most_one false = omega arith

-- one more event was taken
pub so_far_more : (m : MemberValue) (events : List Event) (i : ℕ) (event : Event) (old new : MemberValue)
    (before after : HandedOut) (n more : ℕ) (was : Bool) → i < length events → event ≡ get_or events i event
    → TakenSoFar m events i old before n → KeepsSetup old new
    → ((M : List Timed) → StandsOver old M → TakesEvent old M event new before after (Ok was)) → more ≡ n + cond was 1 0
    → TakenSoFar m events (i + 1) new after more
so_far_more m events i event old new before after n more was h is so_far kept step counts = record {
  kept = (kept.0 ∙ so_far.kept.0, kept.1 ∙ so_far.kept.1);
  few = let few = so_far.few in let one = at_most_one was in omega (arith, few, one, counts);
  took = λ L s.
      subst (λ (E : List Event). TookOver m L E new after.deliveries after.errors more) (sym (next_event events i event h is))
      (one_more m L (take i events) old new before after n more event was so_far.kept
      (so_far.took L s) step counts);
}

-- no event is left where all were taken
none_left : (settings : Settings) (M : List Timed) (E : List Event) → E ≡ [] → StopsBefore settings M E None
none_left settings M E is = subst (λ (F : List Event). StopsBefore settings M F None) (sym is) tt

-- all events were taken
pub all_taken : (m : MemberValue) (events : List Event) (i : ℕ) (new : MemberValue) (out : HandedOut) (n : ℕ) (report : RunReport)
    → TakenSoFar m events i new out n → length events ≤ i
    → report ≡ record { deliveries = out.deliveries; errors = out.errors; taken = length events; refused = n; stop = None }
    → TakesEvents m events new report
all_taken m events i new out n report so_far h is =
    let same : take i events ≡ take (length events) events =
    take_all i events h ∙ sym (take_all (length events) events (omega arith)) in
    subst (λ (r : RunReport). TakesEvents m events new r) (sym is)
    (takes_from m events new (record { deliveries = out.deliveries; errors = out.errors; taken = length events; refused = n; stop = None })
    so_far.kept.0 so_far.kept.1 (omega arith)
    (subst (λ (F : List Event). IsLeft F None) (sym (drop_of_length-le events (omega arith))) tt) (λ L s. (
      subst (λ (E : List Event). TookOver m L E new out.deliveries out.errors n) same (so_far.took L s),
      none_left m.settings _ (drop (length events) events) (drop_of_length-le events (omega arith)),
    )))

-- the events from a place on
rest_is : (events : List Event) (i : ℕ) (event : Event) → i < length events → event ≡ get_or events i event
    → drop i events ≡ event ∷ drop (suc i) events
rest_is events i event h is = drop-cons events i event h ∙ ap (λ (x : Event). x ∷ drop (suc i) events) (sym is)

-- where no event is taken from one on
stop_is : (settings : Settings) (M : List Timed) (events : List Event) (i : ℕ) (event : Event) (stop : RunStop)
    → i < length events → event ≡ get_or events i event → StopsAt settings M event stop
    → StopsBefore settings M (drop i events) (Some stop)
stop_is settings M events i event stop h is s =
    subst (λ (E : List Event). StopsBefore settings M E (Some stop)) (sym (rest_is events i event h is)) s

pub stopped_at : (m : MemberValue) (events : List Event) (i : ℕ) (event : Event) (old new : MemberValue)
    (before after : HandedOut) (n : ℕ) (stop : RunStop) (report : RunReport) → i < length events
    → event ≡ get_or events i event → TakenSoFar m events i old before n → KeepsSetup old new
    → ((M : List Timed) → StandsOver old M → TakesEvent old M event new before after (Err stop)) → IsPayload event
    → report ≡ record { deliveries = after.deliveries; errors = after.errors; taken = i; refused = n; stop = Some stop }
    → TakesEvents m events new report
stopped_at m events i event old new before after n stop report h is so_far kept step payload reported =
    subst (λ (r : RunReport). TakesEvents m events new r) (sym reported)
    (takes_from m events new (record { deliveries = after.deliveries; errors = after.errors; taken = i; refused = n; stop = Some stop })
    (kept.0 ∙ so_far.kept.0) (kept.1 ∙ so_far.kept.1) (omega (arith, h))
    (subst (λ (E : List Event). IsLeft E (Some stop)) (sym (rest_is events i event h is)) payload) (λ L s.
    let r = so_far.took L s in
    let M = live_from m.settings L r.sayings in
    let t = step M r.over in
    let P : Settings → Type 0 = λ x. StopsAt x M event stop in (
      record {
        sayings = r.sayings;
        said = r.said;
        over = subst (λ (x : MemberValue). StandsOver x M) (sym t.1) r.over;
        deliveries_are = ap (λ (x : HandedOut). x.deliveries) t.2 ∙ r.deliveries_are;
        errors_are = ap (λ (x : HandedOut). x.errors) t.2 ∙ r.errors_are;
        refused_are = r.refused_are;
        has_room = r.has_room;
      },
      stop_is m.settings M events i event stop h is (subst P so_far.kept.0 t.0),
    )))
