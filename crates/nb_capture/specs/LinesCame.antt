-- Lemmas on the lines among the bytes that came from an input, for proofs here and in the crates above.
use Rattle.std.proofs.Common.{◌≡◌, ◌≤◌, ◌++◌, ℕ, List, [], ◌∷◌, length, Option, refl, sym, subst, ◌∙◌, ap, inl, inr, arith}
use Rattle.std.proofs.lemmas.List.{append-nil, take_all}
use Rattle.nb_streams.specs.Counted.{Counts}
use Rattle.nb_streams.specs.LineFacts.{any_cut}
use Rattle.nb_streams.specs.Lines.{CutInto, rest, line, with_rest}
use Rattle.nb_capture.specs.LineReading.{RoomValue}
use Rattle.nb_capture.specs.Shared.LinesSoFar.{HandedOut, cut_both, LongFirst, open_end, with_feed, long_line}
use Rattle.nb_capture.specs.CaptureLines.{AreLines, finished, whole, ComesMalformed, ended, too_long, looked_at}

-- all the bytes are looked at where they are no more than the limit
pub all_looked_at : (most : ℕ) (bytes : List ℕ) → length bytes ≤ most → looked_at most bytes ≡ bytes
all_looked_at most bytes within = take_all most bytes within

-- the lines that were handed out, and those among what is held
pub record LinesHeld (most : ℕ) (bytes : List ℕ) (left : Option (List ℕ)) (acted : List (List ℕ)) : Type 0 where
  pub more : List (List ℕ)
  pub are : AreLines most bytes left (acted ++ more)

pub lines_held : (most : ℕ) (first now : Option (List ℕ)) (counts later : Counts) (room : RoomValue) (lines : List (List ℕ)) (last : List ℕ)
    (h : HandedOut most first now counts later room lines last) → LinesHeld most (h.passed ++ room.rest) now (with_rest lines last)
lines_held most first now counts later room lines last h =
    let within : length (h.passed ++ room.rest) ≤ most = omega (arith, h.within, h.taken) in
    let all = all_looked_at most (h.passed ++ room.rest) within in
    elim (h.stands) [
      | inl reading ↦
          let held = any_cut room.rest in
          let acted : lines ≡ with_rest lines last = ap (with_rest lines) (sym reading.1) in
          record {
            more = held.lines;
            are = subst (λ (ls : List (List ℕ)). AreLines most (h.passed ++ room.rest) now (ls ++ held.lines)) acted
                (finished (lines ++ held.lines) held.left
                (subst (λ (bs : List ℕ). CutInto bs (lines ++ held.lines) held.left) (sym all)
                (cut_both h.passed room.rest lines held.lines last held.left reading.1 h.cut held.cut)));
          }
      | inr stopped ↦
          let front : h.passed ++ room.rest ≡ h.passed = ap (λ (bs : List ℕ). h.passed ++ bs) stopped.1 ∙ append-nil h.passed in
          record {
            more = [];
            are = subst (λ (ls : List (List ℕ)). AreLines most (h.passed ++ room.rest) now ls) (sym (append-nil (with_rest lines last)))
                (whole lines last (subst (λ (bs : List ℕ). CutInto bs lines last) (sym (all ∙ front)) h.cut)
                (record { at_end = stopped.2; within = within }));
          }
    ]

-- what is held begins with a line that is too long
pub comes_malformed : (most : ℕ) (bytes : List ℕ) (left : Option (List ℕ)) (passed held : List ℕ) (lines : List (List ℕ))
    → CutInto passed lines [] → looked_at most bytes ≡ passed ++ held → LongFirst held → ComesMalformed most bytes left lines
comes_malformed most bytes left passed _ lines before is (open_end held clear long) =
    too_long lines held (subst (λ (bs : List ℕ). CutInto bs lines held) (sym is)
    (subst (λ (ls : List (List ℕ)). CutInto (passed ++ held) ls held) (append-nil lines)
    (cut_both passed held lines [] [] held refl before (rest held clear)))) long
comes_malformed most bytes left passed _ lines before is (with_feed l after clear long) =
    let c = any_cut after in
    ended lines c.lines l (finished (lines ++ l ∷ c.lines) c.left (subst (λ (bs : List ℕ). CutInto bs (lines ++ l ∷ c.lines) c.left) (sym is)
    (cut_both passed (l ++ 10 ∷ after) lines (l ∷ c.lines) [] c.left refl before (line l after c.left c.lines clear c.cut)))) (long_line l long)
