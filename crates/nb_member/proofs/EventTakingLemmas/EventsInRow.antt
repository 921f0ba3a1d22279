-- Events in a row, one after another.
use Rattle.nb_member.proofs.Common.{◌≡◌, ℕ, ◌+◌, ◌≤◌, List, [], ◌∷◌, ◌++◌, length, take, drop, refl, sym, ap, subst, ◌∙◌, arith, filter, Bool, cond, filter-append, NetbiosName, ErrorPacket, DatagramParts, Event, RunReport, Settings, made_by, errors_by, made, deliveries, errors, hears, Saying, came, refused, another, clock, Says, Say, Timed, NoneFull, live_after, live_from, live, MemberValue, StandsOver, Stands, HandedOut, HasTaken, IsLeft, refused_count, StopsBefore, TakesEvents}
use Rattle.std.proofs.lemmas.List.{append_assoc, append-nil}
use Rattle.std.proofs.lemmas.List.Sums.{fold-append}
use Rattle.nb_member.specs.Events.{none, more}

-- ---- what two lists of events say, one after the other

pub say-append : (settings : Settings) (H E : List Event) (S T : List Saying) → Say settings H S → Say settings E T
    → Say settings (H ++ E) (S ++ T)
say-append settings _ E _ T none k = k
say-append settings _ E _ T (more event s events rest h t) k =
    more event s (events ++ E) (rest ++ T) h (say-append settings events E rest T t k)

pub say_one : (settings : Settings) (event : Event) (s : Saying) → Says settings event s
    → Say settings (event ∷ []) (s ∷ [])
say_one settings event s h = more event s [] [] h none

pub live_from-append : (settings : Settings) (L : List Timed) (S T : List Saying)
    → live_from settings L (S ++ T) ≡ live_from settings (live_from settings L S) T
live_from-append settings L S T = fold-append (live_after settings) L S T

pub none_full-append : (settings : Settings) (L : List Timed) (S T : List Saying) → NoneFull settings L S
    → NoneFull settings (live_from settings L S) T → NoneFull settings L (S ++ T)
none_full-append settings L [] T h k = k
none_full-append settings L (s ∷ S) T h k = (h.0, none_full-append settings (live_after settings L s) S T h.1 k)

pub made-append : (settings : Settings) (L : List Timed) (S T : List Saying)
    → made settings L (S ++ T) ≡ made settings L S ++ made settings (live_from settings L S) T
made-append settings L [] T = refl
made-append settings L (s ∷ S) T =
    ap (λ (ds : List DatagramParts). made_by settings L s ++ ds) (made-append settings (live_after settings L s) S T)
    ∙ sym (append_assoc (made_by settings L s) (made settings (live_after settings L s) S)
    (made settings (live_from settings (live_after settings L s) S) T))

pub deliveries-append : (settings : Settings) (names : List NetbiosName) (L : List Timed) (S T : List Saying)
    → deliveries settings names L (S ++ T)
    ≡ deliveries settings names L S ++ deliveries settings names (live_from settings L S) T
deliveries-append settings names L S T =
    ap (filter (hears names)) (made-append settings L S T)
    ∙ filter-append (hears names) (made settings L S) (made settings (live_from settings L S) T)

pub errors-append : (settings : Settings) (names : List NetbiosName) (L : List Timed) (S T : List Saying)
    → errors settings names L (S ++ T) ≡ errors settings names L S ++ errors settings names (live_from settings L S) T
errors-append settings names L [] T = refl
errors-append settings names L (s ∷ S) T =
    ap (λ (es : List ErrorPacket). errors_by settings names L s ++ es) (errors-append settings names (live_after settings L s) S T)
    ∙ sym (append_assoc (errors_by settings names L s) (errors settings names (live_after settings L s) S)
    (errors settings names (live_from settings (live_after settings L s) S) T))

pub refused_count-append : (S T : List Saying) → refused_count (S ++ T) ≡ refused_count S + refused_count T
refused_count-append [] T = omega arith
refused_count-append (came moment f ∷ S) T = refused_count-append S T
refused_count-append (refused fault ∷ S) T =
    let rest = refused_count-append S T in omega (arith, rest)
refused_count-append (another ∷ S) T = refused_count-append S T
refused_count-append (clock now ∷ S) T = refused_count-append S T

-- ---- events so far

-- TookOver m L E new ds es n: the member m, which stood over L, took the events E, and became new; ds are the
-- deliveries, es the error packets, n events were refused
pub record TookOver (m : MemberValue) (L : List Timed) (E : List Event) (new : MemberValue) (ds : List DatagramParts) (es : List ErrorPacket) (n : ℕ) : Type 0 where
  pub sayings : List Saying
  pub said : Say m.settings E sayings
  pub over : StandsOver new (live_from m.settings L sayings)
  pub deliveries_are : ds ≡ deliveries m.settings m.names L sayings
  pub errors_are : es ≡ errors m.settings m.names L sayings
  pub refused_are : n ≡ refused_count sayings
  pub has_room : NoneFull m.settings L sayings

-- no event
pub took_none : (m : MemberValue) (L : List Timed) (ds : List DatagramParts) (es : List ErrorPacket) → ds ≡ [] → es ≡ []
    → StandsOver m L → TookOver m L [] m ds es 0
took_none m L ds es d e h =
    record { sayings = []; said = none; over = h; deliveries_are = d; errors_are = e; refused_are = refl; has_room = tt }

-- one more event
pub took_more : (m : MemberValue) (L : List Timed) (E : List Event) (old new : MemberValue) (before after : HandedOut) (n total : ℕ)
    (event : Event) (was : Bool) (r : TookOver m L E old before.deliveries before.errors n)
    → HasTaken m.settings m.names (live_from m.settings L r.sayings) event new before after was → total ≡ n + cond was 1 0
    → TookOver m L (E ++ event ∷ []) new after.deliveries after.errors total
took_more m L E old new before after n total event was r t counts =
    let M = live_from m.settings L r.sayings in
    let made_is = ap (filter (hears m.names)) (append-nil (made_by m.settings M t.said)) in
    let errors_is = append-nil (errors_by m.settings m.names M t.said) in
    record {
      sayings = r.sayings ++ t.said ∷ [];
      said = say-append m.settings E (event ∷ []) r.sayings (t.said ∷ []) r.said (say_one m.settings event t.said t.says);
      over = subst (λ (N : List Timed). StandsOver new N) (sym (live_from-append m.settings L r.sayings (t.said ∷ []))) t.stands;
      deliveries_are =
          t.deliveries ∙ (ap (λ (xs : List DatagramParts). xs ++ filter (hears m.names) (made_by m.settings M t.said)) r.deliveries_are
          ∙ (ap (λ (xs : List DatagramParts). deliveries m.settings m.names L r.sayings ++ xs) (sym made_is)
          ∙ sym (deliveries-append m.settings m.names L r.sayings (t.said ∷ []))));
      errors_are =
          t.errors ∙ (ap (λ (xs : List ErrorPacket). xs ++ errors_by m.settings m.names M t.said) r.errors_are
          ∙ (ap (λ (xs : List ErrorPacket). errors m.settings m.names L r.sayings ++ xs) (sym errors_is)
          ∙ sym (errors-append m.settings m.names L r.sayings (t.said ∷ []))));
      refused_are =
          let first = r.refused_are in
          let one = t.count in
          let all = refused_count-append r.sayings (t.said ∷ []) in
          omega (arith, first, counts, one, all);
      has_room = none_full-append m.settings L r.sayings (t.said ∷ []) r.has_room (t.has_room, tt);
    }

-- ---- events, and lists of events

-- what is live after two lists of events
pub stands_after : (m new : MemberValue) (H E : List Event) → new.settings ≡ m.settings → (h : Stands m H)
    → (T : List Saying) → Say m.settings E T → StandsOver new (live_from m.settings (live m.settings h.sayings) T)
    → Stands new (H ++ E)
stands_after m new H E same h T said over =
    let P : Settings → Type 0 = λ settings. Say settings (H ++ E) (h.sayings ++ T) in
    let Q : Settings → Type 0 = λ settings. StandsOver new (live settings (h.sayings ++ T)) in
    record {
      sayings = h.sayings ++ T;
      said = subst P (sym same) (say-append m.settings H E h.sayings T h.said said);
      over = subst Q (sym same)
          (subst (λ (M : List Timed). StandsOver new M) (sym (live_from-append m.settings [] h.sayings T)) over);
    }

-- what events did over what is live, they did for the events for which the member stands
pub takes_from : (m : MemberValue) (events : List Event) (new : MemberValue) (report : RunReport)
    → new.settings ≡ m.settings → new.names ≡ m.names → report.taken ≤ length events → IsLeft (drop report.taken events) report.stop
    → (took : (L : List Timed) → StandsOver m L
    → (r : TookOver m L (take report.taken events) new report.deliveries report.errors report.refused)
    × StopsBefore m.settings (live_from m.settings L r.sayings) (drop report.taken events) report.stop)
    → TakesEvents m events new report
takes_from m events new report settings names within left took = record {
  settings_stay = settings;
  names_stay = names;
  within = within;
  left = left;
  stands = λ H h.
      let r = took (live m.settings h.sayings) h.over in
      stands_after m new H (take report.taken events) settings h r.0.sayings r.0.said r.0.over;
  reports = λ H h.
      let r = took (live m.settings h.sayings) h.over in
      record {
        sayings = r.0.sayings;
        said = r.0.said;
        deliveries_are = r.0.deliveries_are;
        errors_are = r.0.errors_are;
        refused_are = r.0.refused_are;
        has_room = r.0.has_room;
        stops = r.1;
      };
}
