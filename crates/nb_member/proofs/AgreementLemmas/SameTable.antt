-- What two members that are given the same fragments hold, and what the merge of two members' tables is.
use Rattle.nb_member.proofs.Common.{◌≡◌, ℕ, true, List, [], ◌∷◌, ◌++◌, length, take, drop, refl, sym, ap, subst, ◌∙◌, arith, Option, Some, None, false≢true, take-append-drop, length-drop, NetbiosName, Key, key_cmp, Core, Contents, table_of, join, SameCores, Event, Pair, RunReport, RunStop, Settings, GiveTheSame, AreGivenTheSame, StoppedForMemory, TookAll, Agree, deliveries, Saying, came, Says, Say, Timed, cores, table_from, is_full, HasRoom, NoneFull, live_after, live_from, live, MemberValue, contents, new_member, Stands, MeetsLimit, StopsBefore, TakesEvents}
use Rattle.std.specs.FinMap as maps
use Rattle.std.proofs.lemmas.List.{append-nil}
use Rattle.nb_member.specs.declared.event_taking.RunStop.TheVariants.{Full, FullSource, NoMemory}
use Rattle.nb_member.proofs.EventLemmas.{say_by}
use Rattle.nb_member.proofs.LiveLemmas.{cores-append}
use Rattle.nb_member.specs.Events.{none, more}

-- what the sayings of events are known to be
pub record SayingsKnown : Type 0 where
  pub one : (settings : Settings) (event : Event) (s t : Saying) → Says settings event s → Says settings event t → s ≡ t
  pub row : (settings : Settings) (events : List Event) (S T : List Saying) → Say settings events S
      → Say settings events T → S ≡ T

-- ---- what parts of a list of events say

-- what two lists of events say together, separated
say_parts : (settings : Settings) (E F : List Event) (S : List Saying) → Say settings (E ++ F) S
    → (P : List Saying) × (Q : List Saying) × Say settings E P × Say settings F Q × (S ≡ P ++ Q)
say_parts settings [] F S h = ([], S, none, h, refl)
say_parts settings (event ∷ E) F S h =
    let first = say_by settings (event ∷ (E ++ F)) S h in
    let parts = say_parts settings E F first.1 first.3 in (
      first.0 ∷ parts.0,
      parts.1,
      more event first.0 E parts.0 first.2 parts.2,
      parts.3,
      first.4 ∙ ap (λ (rest : List Saying). first.0 ∷ rest) parts.4,
    )

-- what the first events of a list say begins what all of them say
pub say_front : SayingsKnown → (settings : Settings) (n : ℕ) (events : List Event) (S P : List Saying)
    → Say settings events S → Say settings (take n events) P
    → (Q : List Saying) × Say settings (drop n events) Q × (S ≡ P ++ Q)
say_front known settings n events S P all front =
    let whole = subst (λ (es : List Event). Say settings es S) (sym (take-append-drop n events)) all in
    let parts = say_parts settings (take n events) (drop n events) S whole in
    let same = known.row settings (take n events) parts.0 P parts.2 front in
    (parts.1, parts.3, parts.4 ∙ ap (λ (xs : List Saying). xs ++ parts.1) same)

-- ---- events that meet no limit

-- the fragment after some events has room, where none of all events meets the limit
room_at : (settings : Settings) (L : List Timed) (S : List Saying) (s : Saying) (T : List Saying)
    → NoneFull settings L (S ++ s ∷ T) → HasRoom settings (live_from settings L S) s
room_at settings L [] s T h = h.0
room_at settings L (r ∷ S) s T h = room_at settings (live_after settings L r) S s T h.1

-- so none stops for the limit
no_limit : SayingsKnown → (settings : Settings) (events later : List Event) (n : ℕ) (S P : List Saying) (event : Event) (k : Key)
    → Say settings events S → Say settings (take n events) P → NoneFull settings [] S → drop n events ≡ event ∷ later
    → ¬ MeetsLimit settings (live settings P) event k
no_limit known settings events later n S P event k all front room next meets =
    let back = say_front known settings n events S P all front in
    let rest = subst (λ (es : List Event). Say settings es back.0) next back.1 in
    let first = say_by settings (event ∷ later) back.0 rest in
    let is_came = known.one settings event first.0 (came meets.moment meets.f) first.2 meets.says in
    let split : S ≡ P ++ (came meets.moment meets.f ∷ first.1) =
    back.2 ∙ (ap (λ (xs : List Saying). P ++ xs) first.4 ∙ ap (λ (s : Saying). P ++ (s ∷ first.1)) is_came) in
    let within = subst (λ (xs : List Saying). NoneFull settings [] xs) split room in
    let open_still = room_at settings [] P (came meets.moment meets.f) first.1 within in
    let full : is_full settings (live settings P) meets.f.key ≡ true =
    ap (λ (key : Key). is_full settings (live settings P) key) meets.key ∙ meets.full in
    absurd (false≢true (sym open_still ∙ full))

-- where none stops, for the limit or for memory, all events are taken
ended : (settings : Settings) (L : List Timed) (rest : List Event) (stop : Option RunStop) → StopsBefore settings L rest stop
    → ¬ (stop ≡ Some NoMemory)
    → ((event : Event) (later : List Event) (k : Key) → rest ≡ event ∷ later → ¬ MeetsLimit settings L event k)
    → (rest ≡ []) × (stop ≡ None)
ended settings L [] None stops memory limit = (refl, refl)
ended settings L [] (Some stop) stops memory limit = absurd stops
ended settings L (event ∷ later) None stops memory limit = absurd stops
ended settings L (event ∷ later) (Some (FullSource k)) stops memory limit = absurd (limit event later k refl stops.0)
ended settings L (event ∷ later) (Some (Full k)) stops memory limit = absurd (limit event later k refl stops.0)
ended settings L (event ∷ later) (Some NoMemory) stops memory limit = absurd (memory refl)

-- ---- new members

-- a new member stands for no event
pub new_stands : (settings : Settings) (names : List NetbiosName) → Stands (new_member settings names) []
new_stands settings names = record {
  sayings = [];
  said = none;
  over = record { table_is = refl; limits_are = refl; moments_are = λ k. maps.get-empty key_cmp k };
}

-- a new member that takes all events holds the table of what is live after them, and hands over what they
-- make
pub took_all : SayingsKnown → (settings : Settings) (names : List NetbiosName) (events : List Event) (new : MemberValue)
    (report : RunReport) (S : List Saying) → TakesEvents (new_member settings names) events new report → Say settings events S
    → NoneFull settings [] S → ¬ (report.stop ≡ Some NoMemory)
    → TookAll events report × (contents new ≡ table_from (live settings S))
    × (report.deliveries ≡ deliveries settings names [] S)
unfolding new_stands
took_all known settings names events new report S runs said room memory =
    let start = new_stands settings names in
    let reported = runs.reports [] start in
    let stands = runs.stands [] start in
    let end = ended settings (live settings reported.sayings) (drop report.taken events) report.stop reported.stops memory
    (λ event later k next. no_limit known settings events later report.taken S reported.sayings event k said reported.said room next) in
    let left = length-drop report.taken events in
    let none_left = ap length end.0 in
    let within = runs.within in
    let taken : report.taken ≡ length events = omega (arith, left, none_left, within) in
    let all : take report.taken events ≡ events =
    sym (append-nil (take report.taken events))
    ∙ (ap (λ (es : List Event). take report.taken events ++ es) (sym end.0) ∙ take-append-drop report.taken events) in
    let same_settings = runs.settings_stay in
    let here : Say settings events stands.sayings =
    subst (λ (es : List Event). Say settings es stands.sayings) all
    (subst (λ (t : Settings). Say t (take report.taken events) stands.sayings) same_settings stands.said) in
    let same = known.row settings events stands.sayings S here said in
    let reported_all : Say settings events reported.sayings = subst (λ (es : List Event). Say settings es reported.sayings) all reported.said in
    let same_reported = known.row settings events reported.sayings S reported_all said in (
      record { all = taken; no_stop = end.1 },
      stands.over.table_is
          ∙ (ap (λ (t : Settings). table_from (live t stands.sayings)) same_settings
          ∙ ap (λ (xs : List Saying). table_from (live settings xs)) same),
      reported.deliveries_are ∙ ap (λ (xs : List Saying). deliveries settings names [] xs) same_reported,
    )

-- Did settings names events new report S: a member with these names took all events, which say S, holds the
-- table of what is live after them, and hands over what they make
pub record Did (settings : Settings) (names : List NetbiosName) (events : List Event) (new : MemberValue)
    (report : RunReport) (S : List Saying) : Type 0 where
  pub took : TookAll events report
  pub table_is : contents new ≡ table_from (live settings S)
  pub deliveries_are : report.deliveries ≡ deliveries settings names [] S

-- two members that are given the same fragments, neither of which ran out of memory
pub record BothDid (settings : Settings) (names_a names_b : List NetbiosName) (events_a events_b : List Event)
    (pair : Pair) (S T : List Saying) : Type 0 where
  pub a : Did settings names_a events_a pair.a pair.report_a S
  pub b : Did settings names_b events_b pair.b pair.report_b T

pub both_did : SayingsKnown
    → ((settings : Settings) (S T : List Saying) → GiveTheSame settings S T → NoneFull settings [] S × NoneFull settings [] T)
    → (settings : Settings) (names_a names_b : List NetbiosName) (events_a events_b : List Event) (pair : Pair)
    → TakesEvents (new_member settings names_a) events_a pair.a pair.report_a
    → TakesEvents (new_member settings names_b) events_b pair.b pair.report_b
    → (h : AreGivenTheSame settings events_a events_b) → ¬ StoppedForMemory pair.report_a → ¬ StoppedForMemory pair.report_b
    → BothDid settings names_a names_b events_a events_b pair h.sayings h.sayings_there
both_did known room settings names_a names_b events_a events_b pair runs_a runs_b h memory_a memory_b =
    let rooms = room settings h.sayings h.sayings_there h.same in
    let a = took_all known settings names_a events_a pair.a pair.report_a h.sayings runs_a h.said rooms.0 memory_a in
    let b = took_all known settings names_b events_b pair.b pair.report_b h.sayings_there runs_b h.said_there rooms.1 memory_b in
    record {
      a = record { took = a.0; table_is = a.1; deliveries_are = a.2 };
      b = record { took = b.0; table_is = b.1; deliveries_are = b.2 };
    }

-- they agree
pub agree : {settings : Settings} {names_a names_b : List NetbiosName} {events_a events_b : List Event} {pair : Pair} {S T : List Saying}
    → BothDid settings names_a names_b events_a events_b pair S T → table_from (live settings S) ≡ table_from (live settings T)
    → Agree events_a events_b pair
agree both same = record {
  took_all = both.a.took;
  took_all_there = both.b.took;
  same_table = both.a.table_is ∙ (same ∙ sym both.b.table_is);
}

-- ---- merging

-- what the tables of lists are known to be
pub record MergingKnown : Type 0 where
  pub of_two : (L M : List Core) → table_of (L ++ M) ≡ join (table_of L) (table_of M)
  pub swapped : (L M : List Core) → SameCores (L ++ M) (M ++ L)
  pub of_same : (L M : List Core) → SameCores L M → table_of L ≡ table_of M

-- the join of the tables of two lists, either way round, is the table of both
pub joined_both_ways : MergingKnown → (L M : List Timed)
    → (join (table_from L) (table_from M) ≡ table_from (L ++ M)) × (join (table_from M) (table_from L) ≡ table_from (L ++ M))
joined_both_ways known L M = (
  sym (ap table_of (cores-append L M) ∙ known.of_two (cores L) (cores M)),
  sym (known.of_two (cores M) (cores L))
      ∙ (known.of_same (cores M ++ cores L) (cores L ++ cores M) (known.swapped (cores M) (cores L))
      ∙ sym (ap table_of (cores-append L M))),
)

-- so the tables of members that stand for events join to the table of what is live after both
pub merged : MergingKnown → (a b : MemberValue) (H G : List Event) (s : Stands a H) (t : Stands b G)
    → (join (contents a) (contents b) ≡ table_from (live a.settings s.sayings ++ live b.settings t.sayings))
    × (join (contents b) (contents a) ≡ table_from (live a.settings s.sayings ++ live b.settings t.sayings))
merged known a b H G s t =
    let L = live a.settings s.sayings in
    let M = live b.settings t.sayings in
    let ways = joined_both_ways known L M in (
      ap (λ (x : Contents). join x (contents b)) s.over.table_is ∙ (ap (λ (x : Contents). join (table_from L) x) t.over.table_is ∙ ways.0),
      ap (λ (x : Contents). join x (contents a)) t.over.table_is ∙ (ap (λ (x : Contents). join (table_from M) x) s.over.table_is ∙ ways.1),
    )
