-- What acting on one line comes to.
use Rattle.nb_member.proofs.Common.{◌≡◌, ◌≢◌, ◌+◌, ◌++◌, ◌∷◌, ℕ, List, [], Option, Some, None, Result, Ok, Err, refl, sym, subst, ◌∙◌, ap, inl, inr, arith, codes, Comments, Event, MemberFault, FragmentParts, Outcome, MayAct, MayLeave, OutcomeFields, ReportSaid, ReportsOutcome, TellsOutcome, dropped_fields, passed_fields, result_fields, Field, field_text, text_of, appended, Does, TakesFragment, KeepsSetup, Saying, clock, Says, Timed, live_after, MemberValue, StandsOver, contents, with_timed, after_clock, ReportOfLine, passed, taken, dropped, numbered, result_text}
use Rattle.std.proofs.Common.{append_assoc}
use Rattle.std.specs.FinMap as maps
use Rattle.std.specs.Fmt.{decimal}
use Rattle.nb_member.specs.declared.outcome.Event.TheVariants as event
use Rattle.nb_capture.specs.declared.line.Line.{Line as Value}
use Rattle.nb_capture.specs.declared.line.Line.TheVariants.{Packet, Tick}
use Rattle.nb_member.specs.declared.outcome.MemberFault.TheVariants as member_fault
use Rattle.nb_member.specs.ReportFields as outcome
use Rattle.nb_table.specs.declared.fault.TableFault.TheVariants.{NoMemory}
use Rattle.nb_member.proofs.FieldLemmas.{dropped_same, result_same}
use Rattle.nb_member.proofs.TakingLemmas.Payloads.{refused_keeps}
use Rattle.nb_member.specs.Taking.{Takes, fragment, error, query, no_packet}
use Rattle.nb_capture.specs.Capture.{HasValue, Reads, SaysNothing, line_feed, space, blank_text}
use Rattle.nb_member.specs.Report.{nothing, tick}

-- ReportsLine comments m L n line new text: the member m, which stands for the fragments L, acted on line n of a capture
-- and became new; text is the line's report
pub record ReportsLine (comments : Comments) (m : MemberValue) (L : List Timed) (n : ℕ) (line : List ℕ) (new : MemberValue) (text : List ℕ) : Type 0 where
  pub events : List Event
  pub live : List Timed
  pub acts : ReportOfLine comments m.settings m.names n L line events text live
  pub stands : StandsOver new live

-- a line that says nothing
quiet : (comments : Comments) (m : MemberValue) (L : List Timed) (n : ℕ) (line : List ℕ) → StandsOver m L → SaysNothing line
    → ReportsLine comments m L n line m (blank_text comments line)
quiet comments m L n line s h = record { events = []; live = L; acts = nothing line h; stands = s }

-- what the laws of members say
pub record MembersKnown : Type 0 where
  pub says : (m new : MemberValue) (L : List Timed) (moment : ℕ) (payload : List ℕ) (result : Result Outcome MemberFault)
      → StandsOver m L → Takes m moment payload new result → (s : Saying) × Says m.settings (event.Packet moment payload) s
  pub does : (m new : MemberValue) (L : List Timed) (moment : ℕ) (payload : List ℕ) (result : Result Outcome MemberFault) (s : Saying)
      → StandsOver m L → Says m.settings (event.Packet moment payload) s → Takes m moment payload new result
      → result ≢ Err (member_fault.Table NoMemory) → Does m L s new result
  pub clock : (m : MemberValue) (L : List Timed) (now : ℕ) → StandsOver m L
      → StandsOver (with_timed m (after_clock m.timed now)) (live_after m.settings L (clock now))

-- a look at the clock
looked : MembersKnown → (comments : Comments) (m new : MemberValue) (L : List Timed) (n now keys : ℕ) (line : List ℕ)
    → new ≡ with_timed m (after_clock m.timed now) → keys + maps.len (contents new) ≡ maps.len (contents m)
    → StandsOver m L → HasValue line (Tick now)
    → ReportsLine comments m L n line new (numbered n (codes "dropped " ++ decimal keys))
looked known comments m new L n now keys line is count s h =
    let stands : StandsOver new (live_after m.settings L (clock now)) =
    subst (λ (x : MemberValue). StandsOver x (live_after m.settings L (clock now))) (sym is) (known.clock m L now s) in
    let number : dropped m.settings L now ≡ keys = omega (arith, count, ap maps.len s.table_is, ap maps.len stands.table_is) in
    record {
      events = event.Tick now ∷ [];
      live = live_after m.settings L (clock now);
      acts = subst (λ (k : ℕ). ReportOfLine comments m.settings m.names n L line (event.Tick now ∷ []) (numbered n (codes "dropped " ++ decimal k)) (live_after m.settings L (clock now)))
          number (tick line now h);
      stands = stands;
    }

-- a payload
took : MembersKnown → (comments : Comments) (m new : MemberValue) (L : List Timed) (n port moment : ℕ) (payload : List ℕ)
    (result : Result Outcome MemberFault) (line : List ℕ) → port ≡ 138 → result ≢ Err (member_fault.Table NoMemory)
    → Takes m moment payload new result → StandsOver m L → HasValue line (Packet port moment payload)
    → ReportsLine comments m L n line new (numbered n (result_text result))
took known comments m new L n port moment payload result line at had takes s h =
    let says = known.says m new L moment payload result s takes in
    let does = known.does m new L moment payload result says.0 s says.1 takes had in
    record {
      events = event.Packet moment payload ∷ [];
      live = live_after m.settings L says.0;
      acts = taken line payload moment says.0 result (subst (λ (p : ℕ). HasValue line (Packet p moment payload)) at h) says.1 does.answers;
      stands = does.stands;
    }

-- what a line says, with the text of what became of it
of_outcome : MembersKnown → (comments : Comments) (value : Value) (m new : MemberValue) (L : List Timed) (n : ℕ) (line : List ℕ) (fields : List Field)
    → OutcomeFields value m new fields → StandsOver m L → HasValue line value → ReportsLine comments m L n line new (numbered n (text_of fields))
of_outcome known comments _ _ _ L n line _ (outcome.dropped now keys m new is count) s h =
    subst (λ (text : List ℕ). ReportsLine comments m L n line new (numbered n text)) (sym (dropped_same keys))
    (looked known comments m new L n now keys line is count s h)
of_outcome known comments _ _ _ L n line _ (outcome.passed port moment payload m new other same) s h =
    subst (λ (x : MemberValue). ReportsLine comments m L n line x (numbered n (codes "passed"))) (sym same)
    (record { events = []; live = L; acts = passed line payload port moment h other; stands = s })
of_outcome known comments _ _ _ L n line _ (outcome.taken port moment payload m new result at had takes) s h =
    subst (λ (text : List ℕ). ReportsLine comments m L n line new (numbered n text)) (sym (result_same result))
    (took known comments m new L n port moment payload result line at had takes s h)

-- a line's report
pub line_reported : MembersKnown → (comments : Comments) (n : ℕ) (line : List ℕ) (m new : MemberValue) (text : List ℕ) (said : Option Value)
    → Reads line (Ok said) → ReportSaid comments n line said m new text → (L : List Timed) → StandsOver m L → ReportsLine comments m L n line new text
line_reported known comments n line m new text None reads r L s =
    subst (λ (bytes : List ℕ). ReportsLine comments m L n line new bytes) (sym r.0)
    (subst (λ (x : MemberValue). ReportsLine comments m L n line x (blank_text comments line)) (sym r.1) (quiet comments m L n line s reads))
line_reported known comments n line m new text (Some value) reads r L s =
    subst (λ (bytes : List ℕ). ReportsLine comments m L n line new bytes) (sym r.written)
    (of_outcome known comments value m new L n line r.fields r.are s reads)

-- ---- what stays

same_keeps : (m new : MemberValue) → new ≡ m → KeepsSetup m new
same_keeps m new same = (ap (λ (x : MemberValue). x.settings) same, ap (λ (x : MemberValue). x.names) same)

fragment_keeps : (m : MemberValue) (moment : ℕ) (f : FragmentParts) (new : MemberValue) (result : Result Outcome MemberFault)
    → TakesFragment m moment f new result → KeepsSetup m new
fragment_keeps m moment f new (Ok outcome) t = (ap (λ (x : MemberValue). x.settings) t.joined, ap (λ (x : MemberValue). x.names) t.joined)
fragment_keeps m moment f new (Err (member_fault.Packet x e)) t = absurd t
fragment_keeps m moment f new (Err (member_fault.Table x)) t = same_keeps m new t.1

-- a payload that is taken changes neither settings nor names
taken_keeps : (m : MemberValue) (moment : ℕ) (payload : List ℕ) (new : MemberValue) (result : Result Outcome MemberFault)
    → Takes m moment payload new result → KeepsSetup m new
taken_keeps m moment payload new _ (fragment f used result p t) = fragment_keeps m moment f new result t
taken_keeps m moment payload new _ (error e used p same) = same_keeps m new same
taken_keeps m moment payload new _ (query q used p same) = same_keeps m new same
taken_keeps m moment payload new _ (no_packet x p same) = same_keeps m new same

outcome_keeps : (value : Value) (m new : MemberValue) (fields : List Field) → OutcomeFields value m new fields → KeepsSetup m new
outcome_keeps _ _ _ _ (outcome.dropped now keys m new is count) =
    (ap (λ (x : MemberValue). x.settings) is, ap (λ (x : MemberValue). x.names) is)
outcome_keeps _ _ _ _ (outcome.passed port moment payload m new other same) = same_keeps m new same
outcome_keeps _ _ _ _ (outcome.taken port moment payload m new result at had takes) = taken_keeps m moment payload new result takes

-- nor does anything else that a line says
pub said_keeps : (comments : Comments) (n : ℕ) (line : List ℕ) (said : Option Value) (m new : MemberValue) (text : List ℕ)
    → ReportSaid comments n line said m new text → KeepsSetup m new
said_keeps comments n line None m new text r = same_keeps m new r.1
said_keeps comments n line (Some value) m new text r = outcome_keeps value m new r.fields r.are

pub left_keeps : (said : Option Value) (m new : MemberValue) → MayLeave said m new → KeepsSetup m new
left_keeps None m new same = same_keeps m new same
left_keeps (Some value) m new (inl same) = same_keeps m new same
left_keeps (Some value) m new (inr did) = outcome_keeps value m new did.0 did.1

-- ---- what a member does with what a line says

pub did_drop : {value : Value} {m new : MemberValue} {now keys : ℕ} → value ≡ Tick now → new ≡ with_timed m (after_clock m.timed now)
    → keys + maps.len (contents new) ≡ maps.len (contents m) → OutcomeFields value m new (dropped_fields keys)
did_drop {value} {m} {new} {now} {keys} is drops count =
    subst (λ (v : Value). OutcomeFields v m new (dropped_fields keys)) (sym is) (outcome.dropped now keys m new drops count)

pub did_pass : {value : Value} {m : MemberValue} {port moment : ℕ} {payload : List ℕ} → value ≡ Packet port moment payload → port ≢ 138
    → OutcomeFields value m m passed_fields
did_pass {value} {m} {port} {moment} {payload} is other =
    subst (λ (v : Value). OutcomeFields v m m passed_fields) (sym is) (outcome.passed port moment payload m m other refl)

pub did_take : {value : Value} {m new : MemberValue} {port moment : ℕ} {payload : List ℕ} {result : Result Outcome MemberFault}
    → value ≡ Packet port moment payload → port ≡ 138 → Takes m moment payload new result → result ≢ Err (member_fault.Table NoMemory)
    → OutcomeFields value m new (result_fields result)
did_take {value} {m} {new} {port} {moment} {payload} {result} is at takes had =
    subst (λ (v : Value). OutcomeFields v m new (result_fields result)) (sym is) (outcome.taken port moment payload m new result at had takes)

-- a payload that is refused leaves the member as it was
may_act : (m : MemberValue) (moment : ℕ) (payload : List ℕ) (new : MemberValue) (result : Result Outcome MemberFault)
    → Takes m moment payload new result → MayAct (Packet 138 moment payload) m new
may_act m moment payload new (Ok x) t = inr (result_fields (Ok x), outcome.taken 138 moment payload m new (Ok x) refl (λ e. absurd (cc e)) t)
may_act m moment payload new (Err fault) t = inl (refused_keeps m new moment payload fault t)

pub may_take : {value : Value} {m new : MemberValue} {port moment : ℕ} {payload : List ℕ} (result : Result Outcome MemberFault)
    → value ≡ Packet port moment payload → port ≡ 138 → Takes m moment payload new result → MayAct value m new
may_take {value} {m} {new} {port} {moment} {payload} result is at takes =
    subst (λ (v : Value). MayAct v m new) (sym is)
    (subst (λ (p : ℕ). MayAct (Packet p moment payload) m new) (sym at) (may_act m moment payload new result takes))

-- a line of the report: its number, what became of what it says, and a line feed
pub line_made : (n : ℕ) {value : Value} {m new : MemberValue} {begun seen text : List ℕ} → begun ≡ decimal n ++ space ∷ []
    → TellsOutcome (λ xs field. xs ++ field_text field) value m new begun seen → text ≡ seen ++ line_feed ∷ [] → ReportsOutcome n value m new text
line_made n {value} {m} {new} {begun} {seen} {text} begins t ends =
    let told = text_of t.fields in record {
      fields = t.fields;
      are = t.are;
      written = ends
          ∙ ap (λ (bs : List ℕ). bs ++ line_feed ∷ []) (t.told ∙ appended field_text begun t.fields ∙ ap (λ (bs : List ℕ). bs ++ told) begins)
          ∙ append_assoc (decimal n ++ space ∷ []) told (line_feed ∷ [])
          ∙ append_assoc (decimal n) (space ∷ []) (told ++ line_feed ∷ []);
    }
