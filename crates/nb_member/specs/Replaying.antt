-- What a replay makes of a reader's bytes, a writer, and a member (our choice).
use Rattle.std.specs.Prelude.{ℕ, List, ◌≤◌, length, Option, ◌+◌, ◌++◌, ◌≡◌, Result, Ok, Err}
use Rattle.std.specs.Io.KnownBytes.{Appends, Consumes}
use Rattle.nb_capture.specs.declared.limits.TheConstants.{MAX_LINE}
use Rattle.nb_capture.specs.declared.comment_writing.Comments.{Comments}
use Rattle.nb_member.specs.declared.outcome.Event.{Event}
use Rattle.nb_capture.specs.declared.fault.PrintFault.{PrintFault}
use Rattle.nb_capture.specs.declared.fault.PrintFault.TheVariants.{Line, Read, Write, NoMemory}
use Rattle.nb_streams.specs.Counted.{Counts}
use Rattle.nb_streams.specs.Devices.{ShowsUnread}
use Rattle.nb_streams.specs.Lines.{CutInto, with_rest}
use Rattle.nb_member.specs.Live.{Timed, live}
use Rattle.nb_member.specs.Member.{MemberValue, Stands}
use Rattle.nb_member.specs.Report.{ReportOf}
use Rattle.nb_capture.specs.CaptureLines.{AreLines, ComesMalformed, IsWhole, looked_at}

-- ---- what was acted on

-- Replayed comments m H L lines new text: the member m, which stands for the events H, acted on these lines, whose
-- report is text, and became new, which stands for H and the events of the lines. L are live after H
pub record Replayed (comments : Comments) (m : MemberValue) (H : List Event) (L : List Timed) (lines : List (List ℕ)) (new : MemberValue) (text : List ℕ) : Type 0 where
  pub events : List Event
  pub reported : ReportOf comments m.settings m.names 1 L lines events text
  pub stands : Stands new (H ++ events)

-- Writes comments m H L lines new before after: the same, and exactly the report was written
pub record Writes (comments : Comments) (m : MemberValue) (H : List Event) (L : List Timed) (lines : List (List ℕ)) (new : MemberValue) (before after : Option (List ℕ)) : Type 0 where
  pub text : List ℕ
  pub replayed : Replayed comments m H L lines new text
  pub written : Appends before after text

-- Stops comments most m H L bytes left new before after: the first lines were acted on, `ready` and then `last`, which is
-- one line at most. The report of `ready` is written, and then a front of what `last` adds to it
pub record Stops (comments : Comments) (most : ℕ) (m : MemberValue) (H : List Event) (L : List Timed) (bytes : List ℕ) (left : Option (List ℕ)) (new : MemberValue) (before after : Option (List ℕ)) : Type 0 where
  pub ready : List (List ℕ)
  pub last : List (List ℕ)
  pub more : List (List ℕ)
  pub at_most_one : length last ≤ 1
  pub are_lines : AreLines most bytes left (ready ++ last ++ more)
  pub others : List Event
  pub report : List ℕ
  pub reported : ReportOf comments m.settings m.names 1 L ready others report
  pub front : List ℕ
  pub later : List ℕ
  pub replayed : Replayed comments m H L (ready ++ last) new (report ++ front ++ later)
  pub written : Appends before after (report ++ front)

-- Replays comments most m H L bytes left new before after result: what is answered where these bytes came from the
-- reader, with those left, an input may have so many, and the report has comments or not
abbrev pub Replays : Comments → ℕ → MemberValue → List Event → List Timed → List ℕ → Option (List ℕ) → MemberValue → Option (List ℕ) → Option (List ℕ)
    → Result ℕ PrintFault → Type 0
Replays comments most m H L bytes left new before after (Ok n) =
    (lines : List (List ℕ)) × (rest : List ℕ) × CutInto bytes lines rest × IsWhole most bytes left
    × (n ≡ length (with_rest lines rest)) × Writes comments m H L (with_rest lines rest) new before after
Replays comments most m H L bytes left new before after (Err (Line n)) =
    (lines : List (List ℕ)) × ComesMalformed most bytes left lines × (n ≡ length lines + 1)
    × Writes comments m H L lines new before after
Replays comments most m H L bytes left new before after (Err Read) =
    (lines : List (List ℕ)) × (rest : List ℕ) × CutInto (looked_at most bytes) lines rest
    × (length rest ≤ MAX_LINE) × Writes comments m H L lines new before after
Replays comments most m H L bytes left new before after (Err Write) = Stops comments most m H L bytes left new before after
Replays comments most m H L bytes left new before after (Err NoMemory) = Stops comments most m H L bytes left new before after

-- ReplaysInput comments most m new old_in new_in reads later before after result: these bytes came from the reader, whose calls
-- show why where the input wasn't read to its end, and m, whatever events it stands for, replayed them and became new
abbrev pub ReplaysInput : Comments → ℕ → MemberValue → MemberValue → Option (List ℕ) → Option (List ℕ) → Counts → Counts
    → Option (List ℕ) → Option (List ℕ) → Result ℕ PrintFault → Type 0
ReplaysInput comments most m new old_in new_in reads later before after result =
    (bytes : List ℕ) × Consumes old_in new_in bytes
    × ((result ≡ Err Read → ShowsUnread most bytes reads later)
    × ((H : List Event) (s : Stands m H) → Replays comments most m H (live m.settings s.sayings) bytes new_in new before after result))
