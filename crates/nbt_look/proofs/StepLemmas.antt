-- What reading on, and giving a frame, leave of a merge.
use Rattle.std.proofs.Common.{◌≡◌, ◌≢◌, ◌∙◌, ◌⊎◌, inl, inr, ◌++◌, ◌∷◌, ℕ, Bool, true, false, List, [], length, set, slice_get, Option, Some, None, cond, drop, nat_eq, ap, refl, sym, subst, arith, append_assoc}
use Rattle.std.proofs.lemmas.Bool.{eqb-true, cases_eq}
use Rattle.std.proofs.lemmas.Bool.Decides.{nat_tests}
use Rattle.std.proofs.lemmas.Option.{slice_get_within}
use Rattle.nb_streams.specs.Counted.{Counts as Calls}
use Rattle.nb_pcap.specs.Frame.{FrameValue}
use Rattle.nb_pcap.specs.Reading.{FileValue, Numbered, last_of}
use Rattle.nbt_look.specs.declared.sources.Waiting.{Waiting}
use Rattle.nbt_look.specs.declared.sources.Waiting.TheVariants.{Unread, Frame, Ended}
use Rattle.nbt_look.specs.Merging.{IsNext, Merges, comes_first, first_of, with_more, without}
use Rattle.nbt_look.specs.Printing.{MayGive, MayGiveOf, MergesOn, held}
use Rattle.nbt_look.specs.Sources.{Fills, FillsAll, FillsFrom, IsFirst, ReadAs, SourceValue, given, held_in, held_of, last_given, time_in, time_of}
use Rattle.nbt_look.proofs.MergingLemmas.{merges_more, same_files}
use Rattle.nbt_look.proofs.SourcesLemmas.{IsKnown, set_elsewhere, set_here, some_at}

-- ---- what a step leaves of a merge

abbrev pub FillsOf : Option SourceValue → Option SourceValue → Type 0
FillsOf None None = Unit
FillsOf None (Some new) = ⊥
FillsOf (Some mid) None = ⊥
FillsOf (Some mid) (Some new) = Fills mid new

fills_at : (mids news : List SourceValue) (i : ℕ) (o p : Option SourceValue) → length mids ≡ length news → FillsAll mids news
    → slice_get mids i ≡ o → slice_get news i ≡ p → FillsOf o p
fills_at mids news i None None long fills is_mid is_new = tt
fills_at mids news i None (Some new) long fills is_mid is_new =
    let mid = some_at mids i (omega (arith, long, slice_get_within news i new is_new)) in absurd (cc (is_mid, mid.1))
fills_at mids news i (Some mid) None long fills is_mid is_new =
    let new = some_at news i (omega (arith, long, slice_get_within mids i mid is_mid)) in absurd (cc (is_new, new.1))
fills_at mids news i (Some mid) (Some new) long fills is_mid is_new = fills i mid new is_mid is_new

-- the frame that a step gave
abbrev pub gained_in : Waiting → List FrameValue → List FrameValue
gained_in Unread fs = fs
gained_in (Frame time) fs = []
gained_in (Ended ending) fs = []

abbrev pub gained : Option SourceValue → List FrameValue → List FrameValue
gained None fs = []
gained (Some mid) fs = gained_in mid.waiting fs

held_same : (w : Waiting) (mid new : SourceValue) (more : List FrameValue) → mid.waiting ≡ w → new ≡ mid
    → held_in w mid.file ++ more ≡ held_in new.waiting new.file ++ more
held_same w mid new more is same =
    ap (λ (v : Waiting). held_in v mid.file ++ more) (sym is) ∙ ap (λ (s : SourceValue). held_in s.waiting s.file ++ more) (sym same)

held_from : (w : Waiting) (mid new : SourceValue) (more : List FrameValue) → mid.waiting ≡ w → FillsFrom w mid new
    → held_in w mid.file ++ (gained_in w (held_in new.waiting new.file) ++ more) ≡ held_in new.waiting new.file ++ more
held_from Unread mid new more is fills = refl
held_from (Frame time) mid new more is same = held_same (Frame time) mid new more is same
held_from (Ended ending) mid new more is same = held_same (Ended ending) mid new more is same

held_gained : (o p : Option SourceValue) (more : List FrameValue) → FillsOf o p → held_of o ++ (gained o (held_of p) ++ more) ≡ held_of p ++ more
held_gained None None more fills = refl
held_gained None (Some new) more fills = absurd fills
held_gained (Some mid) None more fills = absurd fills
held_gained (Some mid) (Some new) more fills = held_from mid.waiting mid new more refl fills

may_from : (w : Waiting) (mid new : SourceValue) (fs more : List FrameValue) → mid.waiting ≡ w → FillsFrom w mid new → MayGive new.waiting more
    → MayGive w (gained_in w fs ++ more)
may_from Unread mid new fs more is fills may = tt
may_from (Frame time) mid new fs more is same may = tt
may_from (Ended ending) mid new fs more is same may =
    subst (λ (w : Waiting). MayGive w more) (ap (λ (s : SourceValue). s.waiting) same ∙ is) may

may_gained : (o p : Option SourceValue) (more : List FrameValue) → FillsOf o p → MayGiveOf p more → MayGiveOf o (gained o (held_of p) ++ more)
may_gained None None more fills may = may
may_gained None (Some new) more fills may = absurd fills
may_gained (Some mid) None more fills may = absurd fills
may_gained (Some mid) (Some new) more fills may = may_from mid.waiting mid new (held_of (Some new)) more refl fills may

pub merges_filled : (mids news : List SourceValue) (frames : ℕ → List FrameValue) (merged : List FrameValue) → length mids ≡ length news → FillsAll mids news
    → MergesOn mids frames merged → MergesOn news frames merged
merges_filled mids news frames merged long fills m more may =
    let fill : (i : ℕ) → FillsOf (slice_get mids i) (slice_get news i) =
    λ i. fills_at mids news i (slice_get mids i) (slice_get news i) long fills refl refl in
    let wider : ℕ → List FrameValue = λ i. gained (slice_get mids i) (held news i) ++ more i in
    let same : with_more (held mids) wider ≡ with_more (held news) more =
    same_files (with_more (held mids) wider) (with_more (held news) more) (λ i. held_gained (slice_get mids i) (slice_get news i) (more i) (fill i)) in
    subst (λ (rest : ℕ → List FrameValue). Merges (with_more frames rest) merged rest) same
    (m wider (λ i. may_gained (slice_get mids i) (slice_get news i) (more i) (fill i) (may i)))

-- ---- the frame that comes first

-- what a file has to give is known, and what it shows of it
abbrev pub Shows : Waiting → FileValue → Type 0
Shows Unread file = ⊥
Shows (Frame time) file = (found : Numbered) × (last_of file ≡ Some found) × (time ≡ found.frame.time)
Shows (Ended ending) file = Unit

abbrev pub ShowsOf : Option SourceValue → Type 0
ShowsOf None = Unit
ShowsOf (Some s) = Shows s.waiting s.file

pub shows_in : (w : Waiting) (calls : Calls) (new : SourceValue) (got : List ℕ) (frames : List FrameValue) → ReadAs w calls new got frames → IsKnown w → Shows w new.file
shows_in Unread calls new got frames reads known = absurd known
shows_in (Frame time) calls new got frames reads known = (reads.0, reads.1, reads.2)
shows_in (Ended ending) calls new got frames reads known = tt

-- the time of the frame that a file has to give
head_of : (w : Waiting) (file : FileValue) (more : List FrameValue) (g : FrameValue) → Shows w file → MayGive w more
    → first_of (held_in w file ++ more) ≡ Some g → time_in w ≡ Some g.time
head_of Unread file more g shows may is = absurd shows
head_of (Frame time) file more g (found, last, at) may is =
    let begins : Some found.frame ≡ Some g = ap (λ (o : Option Numbered). first_of (last_given o ++ more)) (sym last) ∙ is in
    let same : found.frame ≡ g = cc begins in ap Some (at ∙ ap (λ (f : FrameValue). f.time) same)
head_of (Ended ending) file more g shows may is = absurd (cc (ap first_of (sym may) ∙ is))

head_at : (o : Option SourceValue) (more : List FrameValue) (g : FrameValue) → ShowsOf o → MayGiveOf o more → first_of (held_of o ++ more) ≡ Some g
    → time_of o ≡ Some g.time
head_at None more g shows may is = absurd (cc (ap first_of (sym may) ∙ is))
head_at (Some s) more g shows may is = head_of s.waiting s.file more g shows may is

-- the frame that the first file has to give
pub held_frame : (w : Waiting) (file : FileValue) (time : Option ℕ) → Shows w file → time_in w ≡ Some time
    → (found : Numbered) × (last_of file ≡ Some found) × (found.frame.time ≡ time) × (held_in w file ≡ found.frame ∷ [])
held_frame Unread file time shows is = absurd shows
held_frame (Frame t) file time (found, last, at) is =
    let same : t ≡ time = cc is in (found, last, sym at ∙ same, ap last_given last)
held_frame (Ended ending) file time shows is = absurd (cc is)

-- the frames of each file, where one more of the file at this place was given
abbrev pub added : ℕ → FrameValue → (ℕ → List FrameValue) → ℕ → List FrameValue
added at f frames i = cond (nat_eq i at) (frames i ++ f ∷ []) (frames i)

-- what is held before and after the frame of this file is given
record IsTaken (at : ℕ) (f : FrameValue) (before after : ℕ → List FrameValue) : Type 0 where
  here : before at ≡ f ∷ []
  gone : after at ≡ []
  others : (i : ℕ) → i ≢ at → after i ≡ before i

left_at : (at : ℕ) (f : FrameValue) (before after more : ℕ → List FrameValue) → IsTaken at f before after → (i : ℕ) (b : Bool) → nat_eq i at ≡ b
    → cond b (drop 1 (before i ++ more i)) (before i ++ more i) ≡ after i ++ more i
left_at at f before after more t i true is =
    let same : i ≡ at = eqb-true i at is in
    let was : before i ≡ f ∷ [] = ap before same ∙ t.here in
    let now : after i ≡ [] = ap after same ∙ t.gone in
    ap (λ (fs : List FrameValue). drop 1 (fs ++ more i)) was ∙ ap (λ (fs : List FrameValue). fs ++ more i) (sym now)
left_at at f before after more t i false is =
    let other : i ≢ at = λ e. grind (arith, nat_tests, is, e) in ap (λ (fs : List FrameValue). fs ++ more i) (sym (t.others i other))

whole_at : (at : ℕ) (f : FrameValue) (frames before after more : ℕ → List FrameValue) → IsTaken at f before after → (i : ℕ) (b : Bool) → nat_eq i at ≡ b
    → frames i ++ (before i ++ more i) ≡ cond b (frames i ++ f ∷ []) (frames i) ++ (after i ++ more i)
whole_at at f frames before after more t i true is =
    let same : i ≡ at = eqb-true i at is in
    let was : before i ≡ f ∷ [] = ap before same ∙ t.here in
    let now : after i ≡ [] = ap after same ∙ t.gone in
    ap (λ (fs : List FrameValue). frames i ++ (fs ++ more i)) was ∙ sym (append_assoc (frames i) (f ∷ []) (more i))
    ∙ ap (λ (fs : List FrameValue). (frames i ++ f ∷ []) ++ (fs ++ more i)) (sym now)
whole_at at f frames before after more t i false is =
    let other : i ≢ at = λ e. grind (arith, nat_tests, is, e) in ap (λ (fs : List FrameValue). frames i ++ (fs ++ more i)) (sym (t.others i other))

-- the next frame of a merge, whatever frames follow
is_next : (news : List SourceValue) (at : ℕ) (found : Numbered) (more : ℕ → List FrameValue) → ((i : ℕ) → ShowsOf (slice_get news i))
    → ((i : ℕ) → MayGiveOf (slice_get news i) (more i)) → (first : IsFirst news at) → found.frame.time ≡ first.time → held news at ≡ found.frame ∷ []
    → IsNext (with_more (held news) more) at found.frame
is_next news at found more shows may first time here = record {
  begins = ap (λ (fs : List FrameValue). first_of (fs ++ more at)) here;
  earlier = λ i g lt is.
      subst (λ (t : Option ℕ). comes_first g.time t ≡ false) (sym time)
      (first.earlier i g.time lt (head_at (slice_get news i) (more i) g (shows i) (may i) is));
  later = λ i g lt is.
      subst (λ (t : Option ℕ). comes_first t g.time ≡ true) (sym time)
      (first.later i g.time lt (head_at (slice_get news i) (more i) g (shows i) (may i) is));
}

-- a file that has a frame to give may have any others
may_any : (w : Waiting) (time : Option ℕ) (more : List FrameValue) → time_in w ≡ Some time → MayGive w more
may_any Unread time more is = tt
may_any (Frame t) time more is = tt
may_any (Ended ending) time more is = absurd (cc is)

may_before : (news : List SourceValue) (at : ℕ) (s : SourceValue) (time : Option ℕ) (more : ℕ → List FrameValue) → slice_get news at ≡ Some s
    → time_in s.waiting ≡ Some time → ((i : ℕ) → MayGiveOf (slice_get (set news at (given s)) i) (more i)) → (i : ℕ) → MayGiveOf (slice_get news i) (more i)
may_before news at s time more here waits may i = by_place (cases_eq i at)
  where
    by_place : (i ≡ at) ⊎ (i ≡ at → ⊥) → MayGiveOf (slice_get news i) (more i)
    by_place (inl same) =
        subst (λ (o : Option SourceValue). MayGiveOf o (more i)) (sym (ap (slice_get news) same ∙ here)) (may_any s.waiting time (more i) waits)
    by_place (inr other) = subst (λ (o : Option SourceValue). MayGiveOf o (more i)) (set_elsewhere news at i (given s) other) (may i)

is_taken : (news : List SourceValue) (at : ℕ) (s : SourceValue) (f : FrameValue) → slice_get news at ≡ Some s → held_of (Some s) ≡ f ∷ []
    → IsTaken at f (held news) (held (set news at (given s)))
is_taken news at s f here was = record {
  here = ap held_of here ∙ was;
  gone = ap held_of (set_here news at (given s) (slice_get_within news at s here));
  others = λ i other. ap held_of (set_elsewhere news at i (given s) other);
}

pub merges_given : (news : List SourceValue) (frames : ℕ → List FrameValue) (merged : List FrameValue) (at : ℕ) (s : SourceValue) (found : Numbered)
    → ((i : ℕ) → ShowsOf (slice_get news i)) → slice_get news at ≡ Some s → (first : IsFirst news at) → time_in s.waiting ≡ Some first.time
    → found.frame.time ≡ first.time → held_of (Some s) ≡ found.frame ∷ [] → MergesOn news frames merged
    → MergesOn (set news at (given s)) (added at found.frame frames) (merged ++ found.frame ∷ [])
merges_given news frames merged at s found shows here first waits time was m more may =
    let before = with_more (held news) more in
    let after = with_more (held (set news at (given s))) more in
    let old_may = may_before news at s first.time more here waits may in
    let taken = is_taken news at s found.frame here was in
    let left_same : without at before ≡ after =
    same_files (without at before) after (λ i. left_at at found.frame (held news) (held (set news at (given s))) more taken i (nat_eq i at) refl) in
    let whole_same : with_more frames before ≡ with_more (added at found.frame frames) after =
    same_files (with_more frames before) (with_more (added at found.frame frames) after)
    (λ i. whole_at at found.frame frames (held news) (held (set news at (given s))) more taken i (nat_eq i at) refl) in
    subst (λ (whole : ℕ → List FrameValue). Merges whole (merged ++ found.frame ∷ []) after) whole_same
    (subst (λ (rest : ℕ → List FrameValue). Merges (with_more frames before) (merged ++ found.frame ∷ []) rest) left_same
    (merges_more (with_more frames before) before merged at found.frame (m more old_may)
    (is_next news at found more shows old_may first time (taken.here))))
