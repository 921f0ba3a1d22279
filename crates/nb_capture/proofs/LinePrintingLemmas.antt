-- What printing the texts of lines keeps from line to line, and how it ends.
use Rattle.nb_capture.proofs.Common.{◌≡◌, ◌+◌, ◌++◌, ℕ, List, [], ◌∷◌, length, take, drop, Option, Result, Ok, Err, refl, sym, subst, arith, Appends, Consumes, take-append-drop, Counts, CountedOf, GrowTo, ShowsUnread, ShowsWriteFault, Appends-nil, Appends-more, Appends-kept, fails_from, grows_on, TakesEach, StopsAt, TakesLines}
use Rattle.nb_capture.specs.declared.line.Line as capture
use Rattle.nb_capture.specs.declared.fault.PrintFault.{PrintFault}
use Rattle.nb_capture.specs.declared.fault.PrintFault.TheVariants.{Read, Write, NoMemory}
use Rattle.nb_capture.specs.Code.PrintedLines.{PrintsOn, IsUnprinted}
use Rattle.nb_capture.specs.LinePrinting.{Prints, Shows, ShowsLines, TellsLine, of_capture, before_all, in_first, none, more}
use Rattle.nb_capture.specs.LineTaking.{none as no_lines, more as more_lines, malformed, unread, no_memory, not_taken}

-- when a text is that of a line
abbrev pub TextOf : Type 0 → Type 1
TextOf S = ℕ → List ℕ → Option capture.Line → S → S → List ℕ → Type 0

-- what may stand where memory ran out in a line
abbrev pub LeftOf : Type 0 → Type 1
LeftOf S = Option capture.Line → S → S → Type 0

-- ---- lines in a row

-- the texts of these lines are printed
prints_each : {W S : Type 0} (C : W → Option (List ℕ)) (IsText : TextOf S) (n : ℕ) (ls : List (List ℕ)) (old new : CountedOf W × S) → TakesEach (PrintsOn C IsText) n ls old new
    → (text : List ℕ) × ShowsLines (TellsLine IsText) n ls old.1 new.1 text × Appends (C old.0.inner) (C new.0.inner) text
prints_each C IsText _ _ _ _ (no_lines n s) = ([], none n s.1, Appends-nil (C s.0.inner))
prints_each C IsText _ _ _ _ (more_lines n l ls old between new first others) =
    let later = prints_each C IsText (n + 1) ls between new others in (
      first.takes.text ++ later.0,
      more n l first.takes.text later.0 ls old.1 between.1 new.1 (record { said = first.said; reads = first.reads; tells = first.takes.tells }) later.1,
      Appends-more (C old.0.inner) (C between.0.inner) (C new.0.inner) first.takes.text later.0 first.takes.printed later.2,
    )

calls_each : {W S : Type 0} (C : W → Option (List ℕ)) (IsText : TextOf S) (n : ℕ) (ls : List (List ℕ)) (old new : CountedOf W × S) → TakesEach (PrintsOn C IsText) n ls old new
    → GrowTo old.0.counts new.0.counts
calls_each C IsText _ _ _ _ (no_lines n s) = record { empty = omega arith; interrupted = omega arith; failed = omega arith }
calls_each C IsText _ _ _ _ (more_lines n l ls old between new first others) =
    grows_on old.0.counts between.0.counts new.0.counts first.takes.grow (calls_each C IsText (n + 1) ls between new others)

prints_lines : {W S : Type 0} (C : W → Option (List ℕ)) (IsText : TextOf S) (ls : List (List ℕ)) (old new : CountedOf W × S) → TakesEach (PrintsOn C IsText) 1 ls old new
    → Prints (TellsLine IsText) ls old.1 new.1 (C old.0.inner) (C new.0.inner)
prints_lines C IsText ls old new each =
    let p = prints_each C IsText 1 ls old new each in record { text = p.0; shows = p.1; printed = p.2 }

-- ---- what is answered

-- PrintsBytes C IsText MayLeave most bytes left counts later old new taken: what is said of the lines of these bytes
abbrev pub PrintsBytes : {W S : Type 0} → (W → Option (List ℕ)) → TextOf S → LeftOf S → ℕ → List ℕ → Option (List ℕ) → Counts → Counts → CountedOf W × S → CountedOf W × S
    → Result ℕ PrintFault → Type 0
PrintsBytes C IsText MayLeave most bytes left counts later old new taken =
    TakesLines (PrintsOn C IsText) (IsUnprinted C IsText MayLeave) (λ why f. f ≡ of_capture why) most bytes left counts later old new taken

-- a line isn't printed whole
shows_part : {W S : Type 0} (C : W → Option (List ℕ)) (IsText : TextOf S) (MayLeave : LeftOf S) (most : ℕ) (bytes : List ℕ) (left : Option (List ℕ)) (old new : CountedOf W × S) (fault : PrintFault)
    → StopsAt (PrintsOn C IsText) (IsUnprinted C IsText MayLeave) most bytes left old new fault
    → Shows (TellsLine IsText) MayLeave most bytes left old.1 new.1 (C old.0.inner) (C new.0.inner) (Err fault)
shows_part C IsText MayLeave most bytes left old new Write t =
    let p = prints_lines C IsText t.done old t.between t.taken in
    let u = t.fails in
    let front = take u.2.0 u.0 in record {
      ready = t.done;
      next = t.line;
      more_lines = t.more_lines;
      are_lines = t.are_lines;
      text = p.text;
      between = t.between.1;
      shows = p.shows;
      front = front;
      later = drop u.2.0 u.0;
      shows_next = subst (λ (bs : List ℕ). TellsLine IsText (length t.done + 1) t.line t.between.1 new.1 bs) (sym (take-append-drop u.2.0 u.0))
          (record { said = t.said; reads = t.reads; tells = u.1 });
      printed = Appends-more (C old.0.inner) (C t.between.0.inner) (C new.0.inner) p.text front p.printed u.2.2;
    }
shows_part C IsText MayLeave most bytes left old new NoMemory t =
    let p = prints_lines C IsText t.done old t.between t.taken in record {
      ready = t.done;
      others = t.line ∷ t.more_lines;
      are_lines = t.are_lines;
      between = t.between.1;
      prints = record {
        text = p.text;
        shows = p.shows;
        printed = Appends-kept (C old.0.inner) (C t.between.0.inner) (C new.0.inner) p.text p.printed t.fails.0;
      };
      leaves = in_first t.line t.more_lines t.said t.between.1 new.1 t.reads t.fails.1;
    }
shows_part C IsText MayLeave most bytes left old new _ t = absurd t.fails

shows_early : {W S : Type 0} (C : W → Option (List ℕ)) (IsText : TextOf S) (MayLeave : LeftOf S) (most : ℕ) (bytes : List ℕ) (left : Option (List ℕ)) (counts later : Counts) (old new : CountedOf W × S)
    (fault : PrintFault) → PrintsBytes C IsText MayLeave most bytes left counts later old new (Err fault)
    → Shows (TellsLine IsText) MayLeave most bytes left old.1 new.1 (C old.0.inner) (C new.0.inner) (Err fault)
shows_early C IsText MayLeave most bytes left counts later old new fault (malformed lines comes each is) =
    rw is (lines, comes, refl, prints_lines C IsText _ old new each)
shows_early C IsText MayLeave most bytes left counts later old new fault (unread lines rest cut within each shows is) =
    rw is (lines, rest, cut, within, prints_lines C IsText _ old new each)
shows_early C IsText MayLeave most bytes left counts later old new fault (no_memory lines later_lines are each is) =
    rw is (record {
      ready = lines;
      others = later_lines;
      are_lines = are;
      between = new.1;
      prints = prints_lines C IsText _ old new each;
      leaves = before_all later_lines new.1;
    })
shows_early C IsText MayLeave most bytes left counts later old new fault (not_taken t) = shows_part C IsText MayLeave most bytes left old new fault t

shows_lines : {W S : Type 0} (C : W → Option (List ℕ)) (IsText : TextOf S) (MayLeave : LeftOf S) (most : ℕ) (bytes : List ℕ) (left : Option (List ℕ)) (counts later : Counts) (old new : CountedOf W × S)
    (taken : Result ℕ PrintFault) → PrintsBytes C IsText MayLeave most bytes left counts later old new taken
    → Shows (TellsLine IsText) MayLeave most bytes left old.1 new.1 (C old.0.inner) (C new.0.inner) taken
shows_lines C IsText MayLeave most bytes left counts later old new (Ok n) t = (t.0, t.1, t.2, t.3, t.4, prints_lines C IsText _ old new t.5)
shows_lines C IsText MayLeave most bytes left counts later old new (Err fault) t = shows_early C IsText MayLeave most bytes left counts later old new fault t

-- ---- which device is at fault

-- the input only where its calls show it, or it is too long
unread_by : {W S : Type 0} (C : W → Option (List ℕ)) (IsText : TextOf S) (MayLeave : LeftOf S) (most : ℕ) (bytes : List ℕ) (left : Option (List ℕ)) (counts later : Counts) (old new : CountedOf W × S)
    (fault : PrintFault) → PrintsBytes C IsText MayLeave most bytes left counts later old new (Err fault) → fault ≡ Read → ShowsUnread most bytes counts later
unread_by C IsText MayLeave most bytes left counts later old new fault (malformed lines comes each why) is = absurd (cc (why, is))
unread_by C IsText MayLeave most bytes left counts later old new fault (unread lines rest cut within each shows why) is = shows
unread_by C IsText MayLeave most bytes left counts later old new fault (no_memory lines later_lines are each why) is = absurd (cc (why, is))
unread_by C IsText MayLeave most bytes left counts later old new fault (not_taken t) is =
    absurd (let u = subst (λ (f : PrintFault). IsUnprinted C IsText MayLeave (length t.done + 1) t.line t.said t.between new f) is t.fails in u)

unread_so : {W S : Type 0} (C : W → Option (List ℕ)) (IsText : TextOf S) (MayLeave : LeftOf S) (most : ℕ) (bytes : List ℕ) (left : Option (List ℕ)) (counts later : Counts) (old new : CountedOf W × S)
    (taken : Result ℕ PrintFault) → PrintsBytes C IsText MayLeave most bytes left counts later old new taken → taken ≡ Err Read → ShowsUnread most bytes counts later
unread_so C IsText MayLeave most bytes left counts later old new (Ok n) t is = absurd (cc is)
unread_so C IsText MayLeave most bytes left counts later old new (Err fault) t is = unread_by C IsText MayLeave most bytes left counts later old new fault t (cc is)

-- the writer only where its calls show it
written_by : {W S : Type 0} (C : W → Option (List ℕ)) (IsText : TextOf S) (MayLeave : LeftOf S) (most : ℕ) (bytes : List ℕ) (left : Option (List ℕ)) (counts later : Counts) (old new : CountedOf W × S)
    (fault : PrintFault) → PrintsBytes C IsText MayLeave most bytes left counts later old new (Err fault) → fault ≡ Write → ShowsWriteFault old.0.counts new.0.counts
written_by C IsText MayLeave most bytes left counts later old new fault (malformed lines comes each why) is = absurd (cc (why, is))
written_by C IsText MayLeave most bytes left counts later old new fault (unread lines rest cut within each shows why) is = absurd (cc (why, is))
written_by C IsText MayLeave most bytes left counts later old new fault (no_memory lines later_lines are each why) is = absurd (cc (why, is))
written_by C IsText MayLeave most bytes left counts later old new fault (not_taken t) is =
    let u = subst (λ (f : PrintFault). IsUnprinted C IsText MayLeave (length t.done + 1) t.line t.said t.between new f) is t.fails in
    fails_from old.0.counts t.between.0.counts new.0.counts (calls_each C IsText 1 t.done old t.between t.taken) u.3

pub shows_write : {W S : Type 0} (C : W → Option (List ℕ)) (IsText : TextOf S) (MayLeave : LeftOf S) (most : ℕ) (bytes : List ℕ) (left : Option (List ℕ)) (counts later : Counts) (old new : CountedOf W × S)
    (taken : Result ℕ PrintFault) → PrintsBytes C IsText MayLeave most bytes left counts later old new taken → taken ≡ Err Write → ShowsWriteFault old.0.counts new.0.counts
shows_write C IsText MayLeave most bytes left counts later old new (Ok n) t is = absurd (cc is)
shows_write C IsText MayLeave most bytes left counts later old new (Err fault) t is = written_by C IsText MayLeave most bytes left counts later old new fault t (cc is)

-- ---- the bytes that came

-- the lines and the writer are what this left
pub shows_input : {W S : Type 0} (C : W → Option (List ℕ)) (IsText : TextOf S) (MayLeave : LeftOf S) (most : ℕ) (first left : Option (List ℕ)) (counts later : Counts) (old new : CountedOf W × S)
    (made : S) (w : W) (taken : Result ℕ PrintFault) → (bytes : List ℕ) × Consumes first left bytes × PrintsBytes C IsText MayLeave most bytes left counts later old new taken
    → made ≡ new.1 → w ≡ new.0.inner
    → (bytes : List ℕ) × Consumes first left bytes × ((taken ≡ Err Read → ShowsUnread most bytes counts later)
    × Shows (TellsLine IsText) MayLeave most bytes left old.1 made (C old.0.inner) (C w) taken)
shows_input {W} {S} C IsText MayLeave most first left counts later old new made w taken t made_is left_writer = (
  t.0,
  t.1,
  (
    unread_so C IsText MayLeave most t.0 left counts later old new taken t.2,
    subst (λ (x : W). Shows (TellsLine IsText) MayLeave most t.0 left old.1 made (C old.0.inner) (C x) taken) (sym left_writer)
        (subst (λ (s : S). Shows (TellsLine IsText) MayLeave most t.0 left old.1 s (C old.0.inner) (C new.0.inner) taken) (sym made_is)
        (shows_lines C IsText MayLeave most t.0 left counts later old new taken t.2)),
  ),
)
