-- What taking the names of words keeps from turn to turn, and what comes before a replay.
use Rattle.nbt_reassembly.proofs.Common.{◌≡◌, ◌≢◌, ◌<◌, ◌+◌, ◌++◌, ◌∷◌, ℕ, List, [], length, get_or, map, take, drop, Bor, Option, Result, Ok, Err, IfErr, sym, ap, subst, ◌∙◌, map-append, take_more, take-append-drop, drop_more, Consumes, Counts, ShowsUnread, Capacity, Fault, Arguments, TooManyNames, Read, Write, Memory, refl, ArgMatches, key_cmp, MemberValue, Stands, new_member, MayLeave, ReportSaid, AreOptions, Streams, IsCapacity, program_settings, ReplaysEvents, AddsEach, AddsName, AreTexts, Begins, IsNamesFault, IsRefusedName, IsUnbegun, none, more}
use Rattle.std.specs.FinMap as maps
use Rattle.nb_names.specs.Name.{NetbiosName}
use Rattle.nb_capture.specs.declared.comment_writing.Comments.{Comments}
use Rattle.nb_capture.specs.declared.fault.PrintFault.{PrintFault}
use Rattle.nb_capture.specs.declared.options.CaptureOptions.{CaptureOptions}
use Rattle.nb_capture.specs.LinePrinting.{Shows, TellsLine}
use Rattle.nb_member.specs.declared.outcome.Event.{Event}
use Rattle.nb_member.specs.declared.settings.Settings.{Settings}
use Rattle.nb_member.specs.Events.{none as none_said}
use Rattle.nb_member.specs.Live.{live}
use Rattle.nb_member.specs.Replaying.{Replays}
use Rattle.nbt_command.specs.declared.fault.Fault.TheVariants.{Text}
use Rattle.nbt_command.specs.Input.{WasCut}
use Rattle.nbt_command.specs.Lines.{EndsWith}

-- ---- names

-- the texts of the words
abbrev pub texts_of : List (Bor (List ℕ)) → List (List ℕ)
texts_of words = map (λ w. w.now) words

pub no_names : (names : List NetbiosName) → names ≡ [] → AddsEach [] names
no_names names is = subst (λ (held : List NetbiosName). AddsEach [] held) (sym is) none

texts_more : (words : List (Bor (List ℕ))) (i : ℕ) (d : Bor (List ℕ)) → i < length words
    → texts_of (take (i + 1) words) ≡ texts_of (take i words) ++ (get_or words i d).now ∷ []
texts_more words i d lt = ap texts_of (take_more words i d lt) ∙ map-append (λ w. w.now) (take i words) (get_or words i d ∷ [])

texts_parts : (words : List (Bor (List ℕ))) (i : ℕ) (d : Bor (List ℕ)) → i < length words
    → texts_of words ≡ texts_of (take i words) ++ (get_or words i d).now ∷ texts_of (drop (i + 1) words)
texts_parts words i d lt = ap texts_of (sym (take-append-drop i words) ∙ ap (λ l. take i words ++ l) (drop_more words i d lt))
    ∙ map-append (λ w. w.now) (take i words) (get_or words i d ∷ drop (i + 1) words)

-- a turn that took a word
pub names_more : (words : List (Bor (List ℕ))) (i : ℕ) (d : Bor (List ℕ)) (old new : List NetbiosName) → i < length words
    → AddsEach (texts_of (take i words)) old → AddsName old (get_or words i d).now new → AddsEach (texts_of (take (i + 1) words)) new
names_more words i d old new lt before adds =
    subst (λ (texts : List (List ℕ)). AddsEach texts new) (sym (texts_more words i d lt)) (more (texts_of (take i words)) (get_or words i d).now old new before adds)

-- a word that is refused
pub name_refused : (words : List (Bor (List ℕ))) (i : ℕ) (d : Bor (List ℕ)) (old : List NetbiosName) (fault : Fault) → i < length words
    → AddsEach (texts_of (take i words)) old → IsRefusedName old (get_or words i d).now fault → IsNamesFault (texts_of words) fault
name_refused words i d old fault lt before refused = record {
  before = texts_of (take i words);
  text = (get_or words i d).now;
  after = texts_of (drop (i + 1) words);
  parts = texts_parts words i d lt;
  names = old;
  added = before;
  refused = refused;
}

-- ---- what is answered before it

-- the names of the words are at fault
pub names_fail : (IsGiven : Capacity → Type 0) (AreWords : List (List ℕ) → Type 0) (words : List (List ℕ)) (fault : Fault) → AreWords words
    → IsNamesFault words fault → IsUnbegun IsGiven AreWords fault
names_fail IsGiven AreWords words (Text fault) said n = (words, said, n)
names_fail IsGiven AreWords words TooManyNames said n = (words, said, n)
names_fail IsGiven AreWords words Arguments said n = absurd n.refused
names_fail IsGiven AreWords words Memory said n = tt
names_fail IsGiven AreWords words _ said n = absurd n.refused

-- a replay begins before the input is read
pub not_cut : (IsGiven : Capacity → Type 0) (AreWords : List (List ℕ) → Type 0) (fault : Fault) → IsUnbegun IsGiven AreWords fault → fault ≢ Read
not_cut IsGiven AreWords fault u is = let v = subst (λ (f : Fault). IsUnbegun IsGiven AreWords f) is u in v

-- and before anything is printed
pub not_written : (IsGiven : Capacity → Type 0) (AreWords : List (List ℕ) → Type 0) (fault : Fault) → IsUnbegun IsGiven AreWords fault → fault ≢ Write
not_written IsGiven AreWords fault u is = let v = subst (λ (f : Fault). IsUnbegun IsGiven AreWords f) is u in v

-- the input was cut where it couldn't be read
pub unread_cut : (IsMost : ℕ → Type 0) (most : ℕ) (old_in new_in : Option (List ℕ)) (reads after : Counts) (bytes : List ℕ) (r : Result Unit Fault) → IsMost most → Consumes old_in new_in bytes
    → (r ≡ Err Read → ShowsUnread most bytes reads after) → IfErr r (λ fault. fault ≡ Read → (n : ℕ) × IsMost n × WasCut n old_in new_in reads after)
unread_cut IsMost most old_in new_in reads after bytes (Ok done) limited read cut = tt
unread_cut IsMost most old_in new_in reads after bytes (Err fault) limited read cut = λ is. (most, limited, (bytes, read, cut (ap (λ (f : Fault). Err f) is)))

-- ---- the report of events

-- what the law on what is printed says
abbrev ReplaysKnown : Type 0
ReplaysKnown = (comments : Comments) (most : ℕ) (m new : MemberValue) (H : List Event) (s : Stands m H) (bytes : List ℕ) (left before after : Option (List ℕ))
    (answer : Result ℕ PrintFault) → Shows (TellsLine (ReportSaid comments)) MayLeave most bytes left m new before after answer
    → Replays comments most m H (live m.settings s.sayings) bytes left new before after answer

ends_weaker : (P Q : Result ℕ PrintFault → Type 0) (result : Result Unit Fault) → ((answer : Result ℕ PrintFault) → P answer → Q answer) → EndsWith P result → EndsWith Q result
ends_weaker P Q (Ok done) step ends = (ends.0, step (Ok ends.0) ends.1)
ends_weaker P Q (Err fault) step ends = (ends.0, ends.1, step (Err ends.0) ends.2)

-- a new member stands for no events, of which nothing is live
new_replays : ReplaysKnown → (settings : Settings) (names : List NetbiosName) (m : MemberValue) → m ≡ new_member settings names → (options : CaptureOptions) (bytes : List ℕ)
    (left before after : Option (List ℕ)) (new : MemberValue) (answer : Result ℕ PrintFault)
    → Shows (TellsLine (ReportSaid options.comments)) MayLeave options.most bytes left m new before after answer
    → Replays options.comments options.most m [] [] bytes left new before after answer
new_replays known settings names m is options bytes left before after new answer shows =
    known options.comments options.most m new []
    (rw is (record { sayings = []; said = none_said; over = record { table_is = refl; limits_are = refl; moments_are = λ k. maps.get-empty key_cmp k } }))
    bytes left before after answer shows

-- what was printed of a new member's report
pub replays_events : ReplaysKnown → (matches : ArgMatches) (s : Streams) (m : MemberValue) (options : CaptureOptions) (result : Result Unit Fault)
    → Begins (IsCapacity matches) (AreTexts matches) m → AreOptions matches options → (bytes : List ℕ) → Consumes s.old_in s.new_in bytes → (new : MemberValue)
    → EndsWith (Shows (TellsLine (ReportSaid options.comments)) MayLeave options.most bytes s.new_in m new s.old_out s.new_out) result
    → ReplaysEvents matches s result
replays_events known matches s m options result begins asked bytes read new ends = record {
  member = m;
  begins = begins;
  options = options;
  asked = asked;
  bytes = bytes;
  read = read;
  new = new;
  replays = ends_weaker _ _ result
      (new_replays known (program_settings begins.capacity) begins.names m begins.is options bytes s.new_in s.old_out s.new_out new) ends;
}
