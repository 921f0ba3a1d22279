-- How a replay ends.
use Rattle.nb_member.proofs.Common.{◌≡◌, ◌+◌, ◌++◌, ℕ, List, [], ◌∷◌, length, Option, Some, None, Result, Ok, Err, refl, sym, subst, ◌∙◌, inl, inr, arith, Comments, text_of, Event, KeepsSetup, live, MemberValue, Stands, numbered, MayLeave, ReportSaid}
use Rattle.std.proofs.Common.{append_assoc}
use Rattle.std.specs.Io.KnownBytes.{Appends, Consumes}
use Rattle.std.proofs.lemmas.List.{append-nil}
use Rattle.nb_streams.specs.Counted.{Counts}
use Rattle.nb_streams.specs.Devices.{ShowsUnread}
use Rattle.nb_capture.specs.declared.fault.PrintFault.{PrintFault}
use Rattle.nb_capture.specs.declared.fault.PrintFault.TheVariants.{Line, Read, Write, NoMemory}
use Rattle.nb_capture.specs.CaptureLines.{AreLines}
use Rattle.nb_capture.specs.LinePrinting.{LeavesOff, Prints, Shows, ShowsLines, TellsLine, before_all, in_first, none, more}
use Rattle.nb_member.specs.Replaying.{Replayed, Writes, Stops, Replays, ReplaysInput}
use Rattle.nb_member.proofs.ReplayLemmas.LineReports.{left_keeps}
use Rattle.nb_member.proofs.ReplayLemmas.LinesInRow.{lines_keep}

-- the report that lines have
abbrev pub Reported : Comments → ℕ → List (List ℕ) → MemberValue → MemberValue → List ℕ → Type 0
Reported comments = ShowsLines (TellsLine (ReportSaid comments))

-- what the law on reports says
abbrev pub ReportsKnown : Type 0
ReportsKnown = (comments : Comments) (m new : MemberValue) (H : List Event) (s : Stands m H) (lines : List (List ℕ)) (text : List ℕ)
    → Reported comments 1 lines m new text → Replayed comments m H (live m.settings s.sayings) lines new text

-- a line after others
and_line : (comments : Comments) (n k : ℕ) (ls : List (List ℕ)) (l text last : List ℕ) (m between new : MemberValue) → Reported comments n ls m between text
    → k ≡ n + length ls → TellsLine (ReportSaid comments) k l between new last → Reported comments n (ls ++ l ∷ []) m new (text ++ last)
and_line comments _ k _ l _ last _ _ new (none n m) at tells =
    let number : k ≡ n = omega (arith, at) in
    subst (λ (bs : List ℕ). Reported comments n (l ∷ []) m new bs) (append-nil last)
    (more n l last [] [] m new new (subst (λ (i : ℕ). TellsLine (ReportSaid comments) i l m new last) number tells) (none (n + 1) new))
and_line comments _ k _ l _ last _ _ new (more n first text others ls m mid between says shows) at tells =
    let number : k ≡ n + 1 + length ls = omega (arith, at) in
    subst (λ (bs : List ℕ). Reported comments n (first ∷ (ls ++ l ∷ [])) m new bs) (sym (append_assoc text others last))
    (more n first text (others ++ last) (ls ++ l ∷ []) m mid new says (and_line comments (n + 1) k ls l others last mid between new shows number tells))

-- ---- where it ends

-- the report of these lines is written
writes : ReportsKnown → (comments : Comments) (m new : MemberValue) (H : List Event) (s : Stands m H) (lines : List (List ℕ)) (before after : Option (List ℕ))
    → Prints (TellsLine (ReportSaid comments)) lines m new before after → Writes comments m H (live m.settings s.sayings) lines new before after
writes known comments m new H s lines before after p =
    record { text = p.text; replayed = known comments m new H s lines p.text p.shows; written = p.printed }

-- the replay stopped at this line, a front of whose report is written
stops_in : ReportsKnown → (comments : Comments) (most : ℕ) (m between new : MemberValue) (H : List Event) (s : Stands m H) (bytes : List ℕ) (left before after : Option (List ℕ))
    (done others : List (List ℕ)) (l text front later : List ℕ) → AreLines most bytes left (done ++ l ∷ others) → Reported comments 1 done m between text
    → TellsLine (ReportSaid comments) (length done + 1) l between new (front ++ later) → Appends before after (text ++ front)
    → Stops comments most m H (live m.settings s.sayings) bytes left new before after
stops_in known comments most m between new H s bytes left before after done others l text front later are shows tells written =
    let r = known comments m between H s done text shows in record {
      ready = done;
      last = l ∷ [];
      more = others;
      at_most_one = omega arith;
      are_lines = subst (λ (ls : List (List ℕ)). AreLines most bytes left ls) (sym (append_assoc done (l ∷ []) others)) are;
      others = r.events;
      report = text;
      reported = r.reported;
      front = front;
      later = later;
      replayed = subst (λ (bs : List ℕ). Replayed comments m H (live m.settings s.sayings) (done ++ l ∷ []) new bs) (sym (append_assoc text front later))
          (known comments m new H s (done ++ l ∷ []) (text ++ (front ++ later))
          (and_line comments 1 (length done + 1) done l text (front ++ later) m between new shows (omega arith) tells));
      written = written;
    }

-- nothing of a further line came to pass
stops_after : ReportsKnown → (comments : Comments) (most : ℕ) (m new : MemberValue) (H : List Event) (s : Stands m H) (bytes : List ℕ) (left before after : Option (List ℕ))
    (done others : List (List ℕ)) → AreLines most bytes left (done ++ others) → Prints (TellsLine (ReportSaid comments)) done m new before after
    → Stops comments most m H (live m.settings s.sayings) bytes left new before after
stops_after known comments most m new H s bytes left before after done others are p =
    let r = known comments m new H s done p.text p.shows in record {
      ready = done;
      last = [];
      more = others;
      at_most_one = omega arith;
      are_lines = subst (λ (ls : List (List ℕ)). AreLines most bytes left (ls ++ others)) (sym (append-nil done)) are;
      others = r.events;
      report = p.text;
      reported = r.reported;
      front = [];
      later = [];
      replayed =
          subst (λ (ls : List (List ℕ)). Replayed comments m H (live m.settings s.sayings) ls new (p.text ++ [] ++ [])) (sym (append-nil done))
          (subst (λ (bs : List ℕ). Replayed comments m H (live m.settings s.sayings) done new bs) (sym (append-nil (p.text ++ []) ∙ append-nil p.text)) r);
      written = subst (λ (bs : List ℕ). Appends before after bs) (sym (append-nil p.text)) p.printed;
    }

-- memory ran out
stops_some : ReportsKnown → (comments : Comments) (most : ℕ) (m between new : MemberValue) (H : List Event) (s : Stands m H) (bytes : List ℕ) (left before after : Option (List ℕ))
    (done others : List (List ℕ)) → AreLines most bytes left (done ++ others) → Prints (TellsLine (ReportSaid comments)) done m between before after
    → LeavesOff MayLeave others between new → Stops comments most m H (live m.settings s.sayings) bytes left new before after
stops_some known comments most m _ _ H s bytes left before after done _ are p (before_all others new) =
    stops_after known comments most m new H s bytes left before after done others are p
stops_some known comments most m _ _ H s bytes left before after done _ are p (in_first l others None between new reads same) =
    stops_after known comments most m new H s bytes left before after done (l ∷ others) are
    (subst (λ (x : MemberValue). Prints (TellsLine (ReportSaid comments)) done m x before after) (sym same) p)
stops_some known comments most m _ _ H s bytes left before after done _ are p (in_first l others (Some value) between new reads (inl same)) =
    stops_after known comments most m new H s bytes left before after done (l ∷ others) are
    (subst (λ (x : MemberValue). Prints (TellsLine (ReportSaid comments)) done m x before after) (sym same) p)
stops_some known comments most m _ _ H s bytes left before after done _ are p (in_first l others (Some value) between new reads (inr did)) =
    stops_in known comments most m between new H s bytes left before after done others l p.text [] (numbered (length done + 1) (text_of did.0)) are p.shows
    (record { said = Some value; reads = reads; tells = record { fields = did.0; are = did.1; written = refl } })
    (subst (λ (bs : List ℕ). Appends before after bs) (sym (append-nil p.text)) p.printed)

-- what was printed is what a replay answers
pub replays : ReportsKnown → (comments : Comments) (most : ℕ) (m new : MemberValue) (H : List Event) (s : Stands m H) (bytes : List ℕ) (left before after : Option (List ℕ))
    (answer : Result ℕ PrintFault) → Shows (TellsLine (ReportSaid comments)) MayLeave most bytes left m new before after answer
    → Replays comments most m H (live m.settings s.sayings) bytes left new before after answer
replays known comments most m new H s bytes left before after (Ok n) t = (t.0, t.1, t.2, t.3, t.4, writes known comments m new H s _ before after t.5)
replays known comments most m new H s bytes left before after (Err (Line n)) t = (t.0, t.1, t.2, writes known comments m new H s t.0 before after t.3)
replays known comments most m new H s bytes left before after (Err Read) t = (t.0, t.1, t.2, t.3, writes known comments m new H s t.0 before after t.4)
replays known comments most m new H s bytes left before after (Err Write) t =
    stops_in known comments most m t.between new H s bytes left before after t.ready t.more_lines t.next t.text t.front t.later t.are_lines t.shows t.shows_next t.printed
replays known comments most m new H s bytes left before after (Err NoMemory) t =
    stops_some known comments most m t.between new H s bytes left before after t.ready t.others t.are_lines t.prints t.leaves

-- ---- what stays

off_keeps : (others : List (List ℕ)) (m new : MemberValue) → LeavesOff MayLeave others m new → KeepsSetup m new
off_keeps _ _ _ (before_all others m) = (refl, refl)
off_keeps _ _ _ (in_first l others said m new reads left) = left_keeps said m new left

both_keep : (m between new : MemberValue) → KeepsSetup m between → KeepsSetup between new → KeepsSetup m new
both_keep m between new first later = (later.0 ∙ first.0, later.1 ∙ first.1)

replay_keeps : (comments : Comments) (most : ℕ) (m new : MemberValue) (bytes : List ℕ) (left before after : Option (List ℕ)) (answer : Result ℕ PrintFault)
    → Shows (TellsLine (ReportSaid comments)) MayLeave most bytes left m new before after answer → KeepsSetup m new
replay_keeps comments most m new bytes left before after (Ok n) t = lines_keep comments 1 _ m new t.5.text t.5.shows
replay_keeps comments most m new bytes left before after (Err (Line n)) t = lines_keep comments 1 t.0 m new t.3.text t.3.shows
replay_keeps comments most m new bytes left before after (Err Read) t = lines_keep comments 1 t.0 m new t.4.text t.4.shows
replay_keeps comments most m new bytes left before after (Err Write) t =
    lines_keep comments 1 (t.ready ++ t.next ∷ []) m new (t.text ++ (t.front ++ t.later))
    (and_line comments 1 (length t.ready + 1) t.ready t.next t.text (t.front ++ t.later) m t.between new t.shows (omega arith) t.shows_next)
replay_keeps comments most m new bytes left before after (Err NoMemory) t =
    both_keep m t.between new (lines_keep comments 1 t.ready m t.between t.prints.text t.prints.shows) (off_keeps t.others t.between new t.leaves)

-- ---- the bytes that came

-- TellsBytes comments most first left counts later m new before after answer: what was made of the bytes that were read
abbrev pub TellsBytes : Comments → ℕ → Option (List ℕ) → Option (List ℕ) → Counts → Counts → MemberValue → MemberValue → Option (List ℕ) → Option (List ℕ) → Result ℕ PrintFault → Type 0
TellsBytes comments most first left counts later m new before after answer =
    (bytes : List ℕ) × Consumes first left bytes × ((answer ≡ Err Read → ShowsUnread most bytes counts later)
    × Shows (TellsLine (ReportSaid comments)) MayLeave most bytes left m new before after answer)

-- what the law on what is printed says
abbrev pub ReplaysKnown : Type 0
ReplaysKnown = (comments : Comments) (most : ℕ) (m new : MemberValue) (H : List Event) (s : Stands m H) (bytes : List ℕ) (left before after : Option (List ℕ))
    (answer : Result ℕ PrintFault) → Shows (TellsLine (ReportSaid comments)) MayLeave most bytes left m new before after answer
    → Replays comments most m H (live m.settings s.sayings) bytes left new before after answer

-- the member is what the lines left
pub replays_bytes : ReplaysKnown → (comments : Comments) (most : ℕ) (first left : Option (List ℕ)) (counts later : Counts) (old made new : MemberValue) (before after : Option (List ℕ))
    (answer : Result ℕ PrintFault) → new ≡ made → TellsBytes comments most first left counts later old made before after answer
    → ReplaysInput comments most old new first left counts later before after answer
replays_bytes known comments most first left counts later old made new before after answer is t =
    subst (λ (x : MemberValue). ReplaysInput comments most old x first left counts later before after answer) (sym is)
    (t.0, t.1, (t.2.0, λ H s. known comments most old made H s t.0 left before after answer t.2.1))

pub bytes_keep : (comments : Comments) (most : ℕ) (first left : Option (List ℕ)) (counts later : Counts) (old made : MemberValue) (before after : Option (List ℕ))
    (answer : Result ℕ PrintFault) → TellsBytes comments most first left counts later old made before after answer → KeepsSetup old made
bytes_keep comments most first left counts later old made before after answer t = replay_keeps comments most old made t.0 left before after answer t.2.1
