-- The report of lines in a row.
use Rattle.nb_member.proofs.Common.{◌≡◌, ◌+◌, ◌++◌, ℕ, List, [], ◌∷◌, refl, sym, subst, ap, ◌∙◌, NetbiosName, Comments, Event, Settings, KeepsSetup, Saying, clock, Say, Timed, live_from, live, MemberValue, StandsOver, Stands, ReportOfLine, passed, taken, ReportOf, ReportSaid}
use Rattle.nb_capture.specs.LinePrinting.{ShowsLines, TellsLine, none, more}
use Rattle.nb_member.specs.Events as saying
use Rattle.nb_member.specs.Report.{nothing, tick}
use Rattle.nb_member.specs.Report as reports
use Rattle.nb_member.specs.Replaying.{Replayed}
use Rattle.nb_member.proofs.ReplayLemmas.LineReports.{MembersKnown, ReportsLine, line_reported, said_keeps}
use Rattle.nb_member.proofs.EventTakingLemmas.EventsInRow.{live_from-append, say-append}

-- ---- sayings

-- what a line's events say, after which these are live
record LineSays (settings : Settings) (L : List Timed) (events : List Event) (after : List Timed) : Type 0 where
  sayings : List Saying
  said : Say settings events sayings
  live : after ≡ live_from settings L sayings

line_says : (comments : Comments) (settings : Settings) (names : List NetbiosName) (n : ℕ) (L : List Timed) (l : List ℕ) (events : List Event)
    (text : List ℕ) (after : List Timed) → ReportOfLine comments settings names n L l events text after
    → LineSays settings L events after
line_says comments settings names n L _ _ _ _ (nothing l p) = record { sayings = []; said = saying.none; live = refl }
line_says comments settings names n L _ _ _ _ (passed l payload port moment p q) = record { sayings = []; said = saying.none; live = refl }
line_says comments settings names n L _ _ _ _ (taken l payload moment s result p q r) =
    record { sayings = s ∷ []; said = saying.more _ s [] [] q saying.none; live = refl }
line_says comments settings names n L _ _ _ _ (tick l now p) =
    record { sayings = clock now ∷ []; said = saying.more _ (clock now) [] [] (saying.tick now) saying.none; live = refl }

-- ---- lines in a row

-- AreReported comments settings names n L lines new text: where L are live in a member with these names, text is the report of
-- these lines, the first of which is line n, and the member new stands for what is live after their events
record AreReported (comments : Comments) (settings : Settings) (names : List NetbiosName) (n : ℕ) (L : List Timed) (lines : List (List ℕ)) (new : MemberValue) (text : List ℕ) : Type 0 where
  events : List Event
  sayings : List Saying
  said : Say settings events sayings
  stands : StandsOver new (live_from settings L sayings)
  reported : ReportOf comments settings names n L lines events text

-- a line before them
one_before : (comments : Comments) (n : ℕ) (L : List Timed) (l text others : List ℕ) (ls : List (List ℕ)) (m between new : MemberValue)
    (first : ReportsLine comments m L n l between text) → AreReported comments m.settings m.names (n + 1) first.live ls new others
    → AreReported comments m.settings m.names n L (l ∷ ls) new (text ++ others)
one_before comments n L l text others ls m between new first later =
    let says = line_says comments m.settings m.names n L l first.events text first.live first.acts in record {
      events = first.events ++ later.events;
      sayings = says.sayings ++ later.sayings;
      said = say-append m.settings first.events later.events says.sayings later.sayings says.said later.said;
      stands = subst (λ (ls : List Timed). StandsOver new ls)
          (ap (λ (after : List Timed). live_from m.settings after later.sayings) says.live ∙ sym (live_from-append m.settings L says.sayings later.sayings)) later.stands;
      reported = reports.more n L first.live l ls first.events later.events text others first.acts later.reported;
    }

are_reported : MembersKnown → (comments : Comments) (n : ℕ) (ls : List (List ℕ)) (m new : MemberValue) (text : List ℕ)
    → ShowsLines (TellsLine (ReportSaid comments)) n ls m new text → (L : List Timed) → StandsOver m L
    → AreReported comments m.settings m.names n L ls new text
are_reported known comments _ _ _ _ _ (none n m) L stands =
    record { events = []; sayings = []; said = saying.none; stands = stands; reported = reports.none n L }
are_reported known comments _ _ _ _ _ (more n l text others ls m between new tells shows) L stands =
    let first = line_reported known comments n l m between text tells.said tells.reads tells.tells L stands in
    let kept = said_keeps comments n l tells.said m between text tells.tells in
    let later = are_reported known comments (n + 1) ls between new others shows first.live first.stands in
    one_before comments n L l text others ls m between new first
    (subst (λ (x : List NetbiosName). AreReported comments m.settings x (n + 1) first.live ls new others) kept.1
    (subst (λ (x : Settings). AreReported comments x between.names (n + 1) first.live ls new others) kept.0 later))

-- settings and names stay
pub lines_keep : (comments : Comments) (n : ℕ) (ls : List (List ℕ)) (m new : MemberValue) (text : List ℕ)
    → ShowsLines (TellsLine (ReportSaid comments)) n ls m new text → KeepsSetup m new
lines_keep comments _ _ _ _ _ (none n m) = (refl, refl)
lines_keep comments _ _ _ _ _ (more n l text others ls m between new tells shows) =
    let first = said_keeps comments n l tells.said m between text tells.tells in
    let later = lines_keep comments (n + 1) ls between new others shows in
    (later.0 ∙ first.0, later.1 ∙ first.1)

-- ---- from the first line on

pub replayed : MembersKnown → (comments : Comments) (m new : MemberValue) (H : List Event) (s : Stands m H) (lines : List (List ℕ)) (text : List ℕ)
    → ShowsLines (TellsLine (ReportSaid comments)) 1 lines m new text → Replayed comments m H (live m.settings s.sayings) lines new text
replayed known comments m new H s lines text shows =
    let same = (lines_keep comments 1 lines m new text shows).0 in
    let r = are_reported known comments 1 lines m new text shows (live m.settings s.sayings) s.over in record {
      events = r.events;
      reported = r.reported;
      stands = record {
        sayings = s.sayings ++ r.sayings;
        said = subst (λ (x : Settings). Say x (H ++ r.events) (s.sayings ++ r.sayings)) (sym same)
            (say-append m.settings H r.events s.sayings r.sayings s.said r.said);
        over = subst (λ (x : Settings). StandsOver new (live x (s.sayings ++ r.sayings))) (sym same)
            (subst (λ (ls : List Timed). StandsOver new ls) (sym (live_from-append m.settings [] s.sayings r.sayings)) r.stands);
      };
    }
