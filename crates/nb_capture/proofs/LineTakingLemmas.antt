-- What taking the lines of a capture keeps from line to line, and how it ends.
use Rattle.nb_capture.proofs.Common.{◌≡◌, ◌⊎◌, ◌+◌, ◌≤◌, ◌++◌, ℕ, List, [], ◌∷◌, length, Option, Some, None, Result, Ok, Err, refl, sym, subst, ◌∙◌, ap, inl, inr, append_assoc, arith, Consumes, append-nil, length-append, Counts, LineFails, ReadsLine, RoomValue, nothing_within, TakesLine, TakesEach, EndsEarly, TakesLines, HandedOut, nothing_handed, cut_both, was_reading, came, kept_are, none_over, handed_more, handed_all, shows_unread, long_first, bytes_less}
use Rattle.nb_streams.specs.LineFacts.{any_cut}
use Rattle.nb_streams.specs.Lines.{CutInto, rest, with_rest}
use Rattle.nb_capture.specs.declared.line.Line as capture
use Rattle.nb_capture.specs.declared.fault.LineReadFault.TheVariants as unread
use Rattle.nb_capture.specs.declared.fault.CaptureFault.{CaptureFault}
use Rattle.nb_capture.specs.declared.fault.CaptureFault.TheVariants.{Line, Read, NoMemory}
use Rattle.nb_capture.specs.Code.LineTurns.{malformed as line_malformed, no_memory as line_unheld, not_taken as line_not_taken}
use Rattle.nb_capture.specs.LineTaking.{none, more, malformed, unread as not_read, no_memory, not_taken}
use Rattle.nb_capture.specs.LinesCame.{lines_held, comes_malformed}
use Rattle.nb_capture.specs.CaptureLines.{AreLines, ComesMalformed, finished, ended, looked_at}

-- TakesOf S: when a line that says this, or nothing, makes one S another
abbrev pub TakesOf : Type 0 → Type 1
TakesOf S = ℕ → List ℕ → Option capture.Line → S → S → Type 0

-- FailsOf S F: when it doesn't, and why
abbrev pub FailsOf : Type 0 → Type 0 → Type 1
FailsOf S F = ℕ → List ℕ → Option capture.Line → S → S → F → Type 0

-- GivesTo F: which F stands for a fault of a replay
abbrev pub GivesTo : Type 0 → Type 1
GivesTo F = CaptureFault → F → Type 0

-- ---- lines in a row

-- one line more
pub takes_more : {S : Type 0} (Takes : TakesOf S) (n : ℕ) (ls : List (List ℕ)) (l : List ℕ) (old mid new : S) → TakesEach Takes n ls old mid
    → (k : ℕ) → k ≡ n + length ls → TakesLine Takes k l mid new → TakesEach Takes n (ls ++ l ∷ []) old new
takes_more {S} Takes _ _ l _ mid new (none n s) k at t =
    let here : k ≡ n = omega (arith, at) in
    more n l [] s new new (subst (λ (x : ℕ). TakesLine Takes x l s new) here t) (none (n + 1) new)
takes_more {S} Takes _ _ l _ mid new (more n x ls old between _ first others) k at t =
    let later : k ≡ n + 1 + length ls = omega (arith, at) in
    more n x (ls ++ l ∷ []) old between new first (takes_more Takes (n + 1) ls l between mid new others k later t)

-- ---- what a taker keeps beside

-- where the same is kept, a line makes the same of it
pub line_alike : {B S : Type 0} (Takes : B → TakesOf S) (b d : B) (n : ℕ) (l : List ℕ) (old new : S) → b ≡ d → TakesLine (Takes b) n l old new → TakesLine (Takes d) n l old new
line_alike Takes b d n l old new same t = subst (λ x. TakesLine (Takes x) n l old new) same t

pub fault_alike : {B S F : Type 0} (Fails : B → FailsOf S F) (Gives : GivesTo F) (b d : B) (n : ℕ) (l : List ℕ) (old new : S) (fault : F) → b ≡ d
    → LineFails (Fails b) Gives n l old new fault → LineFails (Fails d) Gives n l old new fault
fault_alike Fails Gives b d n l old new fault same t = subst (λ x. LineFails (Fails x) Gives n l old new fault) same t

-- ---- turns of the loop

-- IsTaking Takes most first now counts later room number old new: so many lines of an input of so many bytes at most were
-- handed out, and made old new
pub record IsTaking {S : Type 0} (Takes : TakesOf S) (most : ℕ) (first now : Option (List ℕ)) (counts later : Counts) (room : RoomValue) (number : ℕ) (old new : S) : Type 0 where
  pub lines : List (List ℕ)
  pub last : List ℕ
  pub handed : HandedOut most first now counts later room lines last
  pub counted : number ≡ length (with_rest lines last)
  pub within : number + length room.rest ≤ room.taken
  pub taken : TakesEach Takes 1 (with_rest lines last) old new

-- before the first line
pub first_turn : {S : Type 0} (Takes : TakesOf S) (most : ℕ) (known : Option (List ℕ)) (counts : Counts) (room : RoomValue) (s : S) → room ≡ nothing_within most
    → IsTaking Takes most known known counts counts room 0 s s
first_turn Takes most known counts room s is = record {
  lines = [];
  last = [];
  handed = nothing_handed most known counts room is;
  counted = refl;
  within = rw is (omega arith);
  taken = none 1 s;
}

one_more : (n k : ℕ) → n ≡ k → n + 1 ≡ k + 1
one_more n k same = ap (λ (x : ℕ). x + 1) same

-- after one more line
pub next_turn : {S : Type 0} (Takes : TakesOf S) (most : ℕ) (first now next : Option (List ℕ)) (counts later after : Counts) (room left : RoomValue)
    (l : List ℕ) (number : ℕ) (old mid new : S) → IsTaking Takes most first now counts later room number old mid
    → ReadsLine room now next later after (Ok (Some l)) left → TakesLine Takes (number + 1) l mid new
    → IsTaking Takes most first next counts after left (number + 1) old new
next_turn Takes most first now next counts later after room left l number old mid new s r takes =
    let o = handed_more most first now next counts later after room left s.lines s.last l s.handed r in
    let size : length (with_rest s.lines s.last ++ l ∷ []) ≡ length (with_rest s.lines s.last) + 1 =
    length-append (with_rest s.lines s.last) (l ∷ []) in
    let at : number + 1 ≡ 1 + length (with_rest s.lines s.last) = omega (arith, s.counted) in record {
      lines = o.lines;
      last = o.last;
      handed = o.handed;
      counted = omega (arith, s.counted, size, ap length o.are);
      within = omega (arith, s.within, bytes_less room left now next later after l r);
      taken = subst (λ (ls : List (List ℕ)). TakesEach Takes 1 ls old new) (sym o.are)
          (takes_more Takes 1 (with_rest s.lines s.last) l old mid new s.taken (number + 1) at takes);
    }

-- ---- how the loop ends

-- EndsTaking Takes Fails Gives most first left counts later old new result: what is said of the bytes that were read
abbrev pub EndsTaking : {S F : Type 0} → TakesOf S → FailsOf S F → GivesTo F → ℕ → Option (List ℕ) → Option (List ℕ) → Counts → Counts → S → S
    → Result ℕ F → Type 0
EndsTaking Takes Fails Gives most first left counts later old new result =
    (bytes : List ℕ) × Consumes first left bytes × TakesLines Takes Fails Gives most bytes left counts later old new result

-- at a line
at_line : {S F : Type 0} (Takes : TakesOf S) (Fails : FailsOf S F) (Gives : GivesTo F) (most : ℕ) (bytes : List ℕ) (left : Option (List ℕ)) (counts later : Counts)
    (done more_lines : List (List ℕ)) (l : List ℕ) (number : ℕ) (old mid new : S) → number ≡ length done + 1 → TakesEach Takes 1 done old mid
    → AreLines most bytes left (done ++ l ∷ more_lines) → (fault : F) → LineFails Fails Gives number l mid new fault
    → EndsEarly Takes Fails Gives most bytes left counts later old new fault
at_line Takes Fails Gives most bytes left counts later done more_lines l number old mid new at t are fault (line_malformed is_malformed same gives) =
    malformed done (ended done more_lines l are is_malformed) (subst (λ s. TakesEach Takes 1 done old s) (sym same) t)
    (subst (λ (n : ℕ). Gives (Line n) fault) at gives)
at_line Takes Fails Gives most bytes left counts later done more_lines l number old mid new at t are fault (line_unheld same gives) =
    no_memory done (l ∷ more_lines) are (subst (λ s. TakesEach Takes 1 done old s) (sym same) t) gives
at_line Takes Fails Gives most bytes left counts later done more_lines l number old mid new at t are fault (line_not_taken said reads fails) = not_taken (record {
  done = done;
  line = l;
  more_lines = more_lines;
  are_lines = are;
  between = mid;
  taken = t;
  said = said;
  reads = reads;
  fails = subst (λ (n : ℕ). Fails n l said mid new fault) at fails;
})

pub ends_at_line : {S F : Type 0} (Takes : TakesOf S) (Fails : FailsOf S F) (Gives : GivesTo F) (most : ℕ) (first now next : Option (List ℕ)) (counts later after : Counts)
    (room left : RoomValue) (l : List ℕ) (number : ℕ) (old mid new : S) (fault : F) → IsTaking Takes most first now counts later room number old mid
    → ReadsLine room now next later after (Ok (Some l)) left → LineFails Fails Gives (number + 1) l mid new fault
    → EndsTaking Takes Fails Gives most first next counts after old new (Err fault)
ends_at_line Takes Fails Gives most first now next counts later after room left l number old mid new fault s r u =
    let o = handed_more most first now next counts later after room left s.lines s.last l s.handed r in
    let acted = with_rest s.lines s.last in
    let held = lines_held most first next counts after left o.lines o.last o.handed in
    let bytes = o.handed.passed ++ left.rest in
    let are : AreLines most bytes next (acted ++ l ∷ held.more) =
    subst (λ (ls : List (List ℕ)). AreLines most bytes next ls) (append_assoc acted (l ∷ []) held.more)
    (subst (λ (ls : List (List ℕ)). AreLines most bytes next (ls ++ held.more)) o.are held.are) in (
      bytes,
      o.handed.consumes,
      at_line Takes Fails Gives most bytes next counts after acted held.more l (number + 1) old mid new (one_more number (length acted) s.counted) s.taken are fault u,
    )

-- where the next line is too long
pub ends_too_long : {S F : Type 0} (Takes : TakesOf S) (Fails : FailsOf S F) (Gives : GivesTo F) (most : ℕ) (first now next : Option (List ℕ)) (counts later after : Counts)
    (room left : RoomValue) (number : ℕ) (old new : S) (fault : F) → IsTaking Takes most first now counts later room number old new
    → ReadsLine room now next later after (Err unread.TooLong) left
    → Gives (Line (number + 1)) fault → EndsTaking Takes Fails Gives most first next counts after old new (Err fault)
ends_too_long Takes Fails Gives most first now next counts later after room left number old new fault s r gives =
    let was = was_reading most first now counts later room s.lines s.last (Err unread.TooLong) s.handed r.again (λ e. absurd (cc e)) in
    let c = came most first now next counts later after room left s.lines s.last (Err unread.TooLong) s.handed was.1 r in
    let over = none_over room now next later after (Err unread.TooLong) left r (λ e. absurd (cc e)) in
    let held = room.rest ++ r.got in
    let acted : s.lines ≡ with_rest s.lines s.last = ap (with_rest s.lines) (sym was.1) in
    let bytes = (c.passed ++ held) ++ r.over in (
      bytes,
      c.consumes,
      malformed (with_rest s.lines s.last)
          (subst (λ (ls : List (List ℕ)). ComesMalformed most bytes next ls) acted
          (comes_malformed most bytes next c.passed held s.lines c.cut
          (kept_are most first next counts after s.lines held r.over left.taken c (inl over)) (long_first held r.answers.0)))
          s.taken (subst (λ (n : ℕ). Gives (Line n) fault) (one_more number (length (with_rest s.lines s.last)) s.counted) gives),
    )

-- where the input can't be read further
pub ends_unread : {S F : Type 0} (Takes : TakesOf S) (Fails : FailsOf S F) (Gives : GivesTo F) (most : ℕ) (first now next : Option (List ℕ)) (counts later after : Counts)
    (room left : RoomValue) (number : ℕ) (old new : S) (fault : F) → IsTaking Takes most first now counts later room number old new
    → ReadsLine room now next later after (Err unread.Read) left
    → Gives Read fault → EndsTaking Takes Fails Gives most first next counts after old new (Err fault)
ends_unread Takes Fails Gives most first now next counts later after room left number old new fault s r gives =
    let was = was_reading most first now counts later room s.lines s.last (Err unread.Read) s.handed r.again (λ e. absurd (cc e)) in
    let c = came most first now next counts later after room left s.lines s.last (Err unread.Read) s.handed was.1 r in
    let held = room.rest ++ r.got in
    let over : (r.over ≡ []) ⊎ (left.taken ≡ most) = elim (r.kept) [
      | inl empty ↦ inl empty
      | inr full ↦ inr (full.1 ∙ s.handed.limit)
    ] in
    let acted : s.lines ≡ with_rest s.lines s.last = ap (with_rest s.lines) (sym was.1) in
    let cut : CutInto (c.passed ++ held) s.lines held =
    subst (λ (ls : List (List ℕ)). CutInto (c.passed ++ held) ls held) (append-nil s.lines)
    (cut_both c.passed held s.lines [] [] held refl c.cut (rest held r.answers.0.1)) in (
      (c.passed ++ held) ++ r.over,
      c.consumes,
      not_read (with_rest s.lines s.last) held
          (subst (λ (ls : List (List ℕ)). CutInto (looked_at most ((c.passed ++ held) ++ r.over)) ls held) acted
          (subst (λ (bs : List ℕ). CutInto bs s.lines held)
          (sym (kept_are most first next counts after s.lines held r.over left.taken c over)) cut))
          r.answers.0.0 s.taken (shows_unread most first now next counts later after room left s.lines s.last s.handed r c was.0) gives,
    )

-- where there is no memory for the next line
pub ends_unheld : {S F : Type 0} (Takes : TakesOf S) (Fails : FailsOf S F) (Gives : GivesTo F) (most : ℕ) (first now next : Option (List ℕ)) (counts later after : Counts)
    (room left : RoomValue) (number : ℕ) (old new : S) (fault : F) → IsTaking Takes most first now counts later room number old new
    → ReadsLine room now next later after (Err unread.NoMemory) left
    → Gives NoMemory fault → EndsTaking Takes Fails Gives most first next counts after old new (Err fault)
ends_unheld Takes Fails Gives most first now next counts later after room left number old new fault s r gives =
    let was = was_reading most first now counts later room s.lines s.last (Err unread.NoMemory) s.handed r.again (λ e. absurd (cc e)) in
    let c = came most first now next counts later after room left s.lines s.last (Err unread.NoMemory) s.handed was.1 r in
    let over = none_over room now next later after (Err unread.NoMemory) left r (λ e. absurd (cc e)) in
    let held = room.rest ++ r.got in
    let cut = any_cut held in
    let acted : s.lines ≡ with_rest s.lines s.last = ap (with_rest s.lines) (sym was.1) in
    let bytes = (c.passed ++ held) ++ r.over in
    let are : AreLines most bytes next (s.lines ++ cut.lines) =
    finished (s.lines ++ cut.lines) cut.left (subst (λ (bs : List ℕ). CutInto bs (s.lines ++ cut.lines) cut.left)
    (sym (kept_are most first next counts after s.lines held r.over left.taken c (inl over)))
    (cut_both c.passed held s.lines cut.lines [] cut.left refl c.cut cut.cut)) in (
      bytes,
      c.consumes,
      no_memory (with_rest s.lines s.last) cut.lines
          (subst (λ (ls : List (List ℕ)). AreLines most bytes next (ls ++ cut.lines)) acted are) s.taken gives,
    )

-- at the input's end
pub ends_at_end : {S F : Type 0} (Takes : TakesOf S) (Fails : FailsOf S F) (Gives : GivesTo F) (most : ℕ) (first now next : Option (List ℕ)) (counts later after : Counts)
    (room left : RoomValue) (number : ℕ) (old new : S) → IsTaking Takes most first now counts later room number old new
    → ReadsLine room now next later after (Ok None) left → EndsTaking Takes Fails Gives most first next counts after old new (Ok number)
ends_at_end Takes Fails Gives most first now next counts later after room left number old new s r =
    let a = handed_all most first now next counts later after room left s.lines s.last s.handed r in (
      a.bytes,
      a.consumes,
      (s.lines, s.last, a.cut, record { at_end = a.at_end; within = a.within }, s.counted, s.taken),
    )
