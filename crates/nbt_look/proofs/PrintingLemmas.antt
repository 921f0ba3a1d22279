-- What printing the list of files keeps from frame to frame, and how it ends.
use Rattle.std.proofs.Common.{◌≡◌, ◌≢◌, ◌∙◌, ◌⊎◌, inl, inr, ◌+◌, ◌-◌, ◌^◌, ◌++◌, ◌∷◌, ℕ, zero, suc, Bool, true, false, List, [], length, set, slice_get, Option, Some, None, Result, Ok, Err, cond, nat_eq, ap, refl, sym, subst, arith, append_assoc}
use Rattle.std.specs.Io.KnownBytes.{Appends}
use Rattle.std.proofs.lemmas.Bool.{eqb-true}
use Rattle.std.proofs.lemmas.Bool.Decides.{nat_tests}
use Rattle.std.proofs.lemmas.List.{append-nil, length-append, length-set}
use Rattle.std.proofs.lemmas.Option.{slice_get_within}
use Rattle.nb_streams.specs.Counted.{Counts as Calls}
use Rattle.nb_streams.specs.Devices.{GrowTo}
use Rattle.nb_streams.specs.DeviceFacts.{Appends-kept, Appends-more, Appends-nil, fails_from, front_after, grows_on}
use Rattle.nb_pcap.specs.Frame.{FrameValue}
use Rattle.nb_pcap.specs.Reading.{Numbered, last_of}
use Rattle.nbt_look.specs.declared.asked.Asked.{Asked}
use Rattle.nbt_look.specs.declared.listing.Listing.{Listing}
use Rattle.nbt_look.specs.declared.printing.PrintFault.{PrintFault}
use Rattle.nbt_look.specs.declared.printing.PrintFault.TheVariants.{Write, NoMemory}
use Rattle.nbt_look.specs.declared.sources.Waiting.{Waiting}
use Rattle.nbt_look.specs.declared.sources.Waiting.TheVariants.{Unread, Frame, Ended}
use Rattle.nbt_look.specs.Listing.{IsBeginning, Lists, ListsAll, SoFar, end_of, none, nothing_listed, one_more}
use Rattle.nbt_look.specs.Merging.{IsNext, Merges, comes_first, first_of, with_more, without}
use Rattle.nbt_look.specs.Merging as merging
use Rattle.nbt_look.specs.Printing.{PrintsFrame, PrintsLast}
use Rattle.nbt_look.specs.Printing.{AreListed, AreUnread, GivenAt, HasEnded, IsDone, MergesOn, PrintsList, Prints, held}
use Rattle.nbt_look.specs.Sources.{AreRead, FillsAll, IsFirst, IsOn, IsRead, NoneFirst, ReadAs, SourceValue, given, held_of, time_in, time_of, unread}
use Rattle.nbt_look.specs.Totals.{last_text}
use Rattle.nbt_look.specs.Wanted.{is_enough}
use Rattle.nbt_look.proofs.SourcesLemmas.{IsKnown, fill_each, nothing_yet, same_calls, set_elsewhere, set_here, some_at}
use Rattle.nbt_look.proofs.StepLemmas.{ShowsOf, added, held_frame, merges_filled, merges_given, shows_in}

-- one frame more
pub lists_more : (n k : ℕ) (fs : List FrameValue) (f : FrameValue) (old mid new : SoFar) (text line : List ℕ) → ListsAll n fs old mid text
    → k ≡ n + length fs → is_enough mid.listing.asked.wanted mid.listing.shown ≡ false → Lists k f mid new line → ListsAll n (fs ++ f ∷ []) old new (text ++ line)
lists_more _ k _ f _ mid new _ line (none n s) at few t =
    let here : k ≡ n = omega (arith, at) in
    subst (λ (b : List ℕ). ListsAll n (f ∷ []) s new b) (append-nil line)
    (one_more n f [] s new new line [] few (subst (λ (x : ℕ). Lists x f s new line) here t) (none (n + 1) new))
lists_more _ k _ f _ mid new _ line (one_more n x fs old between _ first others fewer here later) at few t =
    let next : k ≡ n + 1 + length fs = omega (arith, at) in
    subst (λ (b : List ℕ). ListsAll n (x ∷ (fs ++ f ∷ [])) old new b) (sym (append_assoc first others line))
    (one_more n x (fs ++ f ∷ []) old between new first (others ++ line) fewer here (lists_more (n + 1) k fs f between mid new others line later next few t))

-- ---- what was read, once a frame was given

read_given : (w : Waiting) (old s : SourceValue) (frames : List FrameValue) (time : Option ℕ) (found : Numbered) → s.waiting ≡ w → time_in w ≡ Some time
    → last_of s.file ≡ Some found → IsRead old s frames → IsRead old (given s) (frames ++ found.frame ∷ [])
read_given Unread old s frames time found is waits last r = absurd (cc waits)
read_given (Frame t) old s frames time found is waits last r =
    let reads = subst (λ (w : Waiting). ReadAs w old.calls s r.got frames) is r.reads in
    let same : reads.0 ≡ found = cc (reads.1, last) in record {
      got = r.got;
      consumes = r.consumes;
      grow = r.grow;
      reads = subst (λ (n : Numbered). IsOn s.file r.got (frames ++ n.frame ∷ [])) same reads.3;
    }
read_given (Ended ending) old s frames time found is waits last r = absurd (cc waits)

are_given : (olds news : List SourceValue) (frames : ℕ → List FrameValue) (at : ℕ) (s : SourceValue) (time : Option ℕ) (found : Numbered)
    → slice_get news at ≡ Some s → time_in s.waiting ≡ Some time → last_of s.file ≡ Some found → AreRead olds news frames
    → AreRead olds (set news at (given s)) (added at found.frame frames)
are_given olds news frames at s time found here waits last reads i old new is_old is_new = by_place (nat_eq i at) refl
  where
    by_place : (b : Bool) → nat_eq i at ≡ b → IsRead old new (cond b (frames i ++ found.frame ∷ []) (frames i))
    by_place true is =
        let same : i ≡ at = eqb-true i at is in
        let was : slice_get news i ≡ Some s = ap (slice_get news) same ∙ here in
        let now : slice_get (set news at (given s)) i ≡ Some (given s) =
        ap (slice_get (set news at (given s))) same ∙ set_here news at (given s) (slice_get_within news at s here) in
        let is_given : given s ≡ new = cc (now, is_new) in
        subst (λ (x : SourceValue). IsRead old x (frames i ++ found.frame ∷ [])) is_given
        (read_given s.waiting old s (frames i) time found refl waits last (reads i old s is_old was))
    by_place false is =
        let other : i ≢ at = λ e. grind (arith, nat_tests, is, e) in reads i old new is_old (sym (set_elsewhere news at i (given s) other) ∙ is_new)

-- ---- the frames so far

pub record IsMerging (w : Asked) (olds news : List SourceValue) (number : ℕ) (stage : SoFar) (out so_far : Option (List ℕ)) (writes written : Calls) : Type 0 where
  pub frames : ℕ → List FrameValue
  pub merged : List FrameValue
  pub text : List ℕ
  pub long : length news ≡ length olds
  pub reads : AreRead olds news frames
  pub merges : MergesOn news frames merged
  pub counted : number ≡ length merged
  pub start : SoFar
  pub begins : IsBeginning w start
  pub lists : ListsAll 1 merged start stage text
  pub printed : Appends out so_far text
  pub wrote : GrowTo writes written

-- files of which nothing was read: none, and one more
pub unread_none : (xs : List SourceValue) → xs ≡ [] → AreUnread xs
unread_none xs is i t at = absurd (cc (sym (ap (λ (ys : List SourceValue). slice_get ys i) is) ∙ at))

unread_at : (xs : List SourceValue) (known : Option (List ℕ)) (i : ℕ) (t : SourceValue) → AreUnread xs → slice_get (xs ++ unread known ∷ []) i ≡ Some t
    → t ≡ unread t.known
unread_at [] known zero t all is =
    let same : unread known ≡ t = cc is in subst (λ (s : SourceValue). s ≡ unread s.known) same refl
unread_at [] known (suc i) t all is = absurd (cc is)
unread_at (x ∷ xs) known zero t all is = all 0 t is
unread_at (x ∷ xs) known (suc i) t all is = unread_at xs known i t (λ j s at. all (suc j) s at) is

pub unread_more : (xs ys : List SourceValue) (s : SourceValue) (known : Option (List ℕ)) → AreUnread xs → ys ≡ xs ++ s ∷ [] → s ≡ unread known
    → AreUnread ys
unread_more xs ys s known all is fresh i t at =
    let grown : ys ≡ xs ++ unread known ∷ [] = is ∙ ap (λ (x : SourceValue). xs ++ x ∷ []) fresh in
    unread_at xs known i t all (sym (ap (λ (zs : List SourceValue). slice_get zs i) grown) ∙ at)

-- what is asked, before the first frame
pub asked_same : (w : Asked) (s : SoFar) → IsBeginning w s → s.listing.asked ≡ w
asked_same w s (follows, is) = ap (λ (l : Listing). l.asked) is

pub list_begun : (w : Asked) (s : SoFar) → IsBeginning w s → IsBeginning s.listing.asked s
list_begun w s (follows, is) = (follows, is ∙ ap nothing_listed (sym (ap (λ (l : Listing). l.asked) is)))

pub begins : (w : Asked) (olds : List SourceValue) (start : SoFar) (out : Option (List ℕ)) (writes : Calls) → IsBeginning w start → AreUnread olds
    → IsMerging w olds olds 0 start out out writes writes
begins w olds start out writes is fresh = record {
  frames = λ i. [];
  merged = [];
  text = [];
  long = refl;
  reads = λ i old new is_old is_new. nothing_yet old new (fresh i old is_old) (let same : Some new ≡ Some old = sym is_new ∙ is_old in cc same);
  merges = λ more may. merging.none (with_more (held olds) more);
  counted = refl;
  start = start;
  begins = is;
  lists = none 1 start;
  printed = Appends-nil out;
  wrote = same_calls writes;
}

-- what is known once the next frame of each file is read
pub record IsFilled (w : Asked) (olds news : List SourceValue) (number : ℕ) (stage : SoFar) (out so_far : Option (List ℕ)) (writes written : Calls) : Type 0 where
  pub merging : IsMerging w olds news number stage out so_far writes written
  pub known : (i : ℕ) (s : SourceValue) → slice_get news i ≡ Some s → IsKnown s.waiting
  pub shows : (i : ℕ) → ShowsOf (slice_get news i)

shows_at : (olds news : List SourceValue) (frames : ℕ → List FrameValue) (i : ℕ) (o : Option SourceValue) → length news ≡ length olds
    → ((i : ℕ) (old new : SourceValue) → slice_get olds i ≡ Some old → slice_get news i ≡ Some new → IsRead old new (frames i) × IsKnown new.waiting)
    → slice_get news i ≡ o → ShowsOf o
shows_at olds news frames i None long each is = tt
shows_at olds news frames i (Some s) long each is =
    let old = some_at olds i (omega (arith, long, slice_get_within news i s is)) in
    let known = each i old.0 s old.1 is in shows_in s.waiting old.0.calls s known.0.got (frames i) known.0.reads known.1

pub filled : (w : Asked) (olds mids news : List SourceValue) (number : ℕ) (stage : SoFar) (out so_far : Option (List ℕ)) (writes written : Calls)
    → IsMerging w olds mids number stage out so_far writes written → length news ≡ length mids → FillsAll mids news
    → IsFilled w olds news number stage out so_far writes written
filled w olds mids news number stage out so_far writes written m long fills =
    let each = fill_each olds mids news m.frames (sym long) m.reads fills in
    let lengths : length news ≡ length olds = long ∙ m.long in record {
      merging = record {
        frames = m.frames;
        merged = m.merged;
        text = m.text;
        long = lengths;
        reads = λ i old new is_old is_new. (each i old new is_old is_new).0;
        merges = merges_filled mids news m.frames m.merged (sym long) fills m.merges;
        counted = m.counted;
        start = m.start;
        begins = m.begins;
        lists = m.lists;
        printed = m.printed;
        wrote = m.wrote;
      };
      known = λ i s is.
          (let old = some_at olds i (omega (arith, lengths, slice_get_within news i s is)) in (each i old.0 s old.1 is).1);
      shows = λ i. shows_at olds news m.frames i (slice_get news i) lengths each refl;
    }

-- ---- no frame comes

are_listed : (w : Asked) (olds news : List SourceValue) (number : ℕ) (stage : SoFar) (out so_far : Option (List ℕ)) (writes written : Calls)
    → (m : IsMerging w olds news number stage out so_far writes written) → AreListed w olds news stage m.text m.merged
are_listed w olds news number stage out so_far writes written m =
    record { frames = m.frames; reads = m.reads; merges = m.merges; start = m.start; begins = m.begins; lists = m.lists }

-- the list is done
pub prints_done : (w : Asked) (olds news : List SourceValue) (number : ℕ) (stage : SoFar) (out so_far : Option (List ℕ)) (writes written : Calls)
    → (m : IsMerging w olds news number stage out so_far writes written) → IsDone news stage m.merged
    → PrintsList w olds news out so_far writes written stage (Ok tt)
prints_done w olds news number stage out so_far writes written m done =
    (m.text, m.merged, are_listed w olds news number stage out so_far writes written m, done, m.printed, m.wrote)

-- there are enough lines, or as many frames as 64 bits count
pub prints_enough : (w : Asked) (olds news : List SourceValue) (number : ℕ) (stage : SoFar) (out so_far : Option (List ℕ)) (writes written : Calls)
    → IsMerging w olds news number stage out so_far writes written → (is_enough stage.listing.asked.wanted stage.listing.shown ≡ true) ⊎ (number ≡ 2 ^ 64 - 1)
    → PrintsList w olds news out so_far writes written stage (Ok tt)
prints_enough w olds news number stage out so_far writes written m (inl enough) =
    prints_done w olds news number stage out so_far writes written m (inr (inl enough))
prints_enough w olds news number stage out so_far writes written m (inr full) =
    prints_done w olds news number stage out so_far writes written m (inr (inr (sym m.counted ∙ full)))

ended : (w : Waiting) → IsKnown w → time_in w ≡ None → HasEnded w
ended Unread known nothing = known
ended (Frame time) known nothing = absurd (cc nothing)
ended (Ended ending) known nothing = tt

-- all files are at their ends
pub prints_ended : (w : Asked) (olds news : List SourceValue) (number : ℕ) (stage : SoFar) (out so_far : Option (List ℕ)) (writes written : Calls)
    → IsFilled w olds news number stage out so_far writes written → NoneFirst news
    → PrintsList w olds news out so_far writes written stage (Ok tt)
prints_ended w olds news number stage out so_far writes written f nothing =
    prints_done w olds news number stage out so_far writes written f.merging
    (inl (λ i s is. ended s.waiting (f.known i s is) (sym (ap time_of is) ∙ nothing i)))

-- ---- a frame comes

-- the frame of the file whose turn it is
pub record IsTurn (news : List SourceValue) (at : ℕ) (s : SourceValue) (first : IsFirst news at) : Type 0 where
  pub here : slice_get news at ≡ Some s
  pub waits : time_in s.waiting ≡ Some first.time
  pub found : Numbered
  pub last : last_of s.file ≡ Some found
  pub time : found.frame.time ≡ first.time
  pub held : held_of (Some s) ≡ found.frame ∷ []

pub turn_of : (news : List SourceValue) (at : ℕ) (s : SourceValue) → ((i : ℕ) → ShowsOf (slice_get news i)) → (first : IsFirst news at)
    → slice_get news at ≡ Some s → IsTurn news at s first
turn_of news at s shows first here =
    let waits : time_in s.waiting ≡ Some first.time = sym (ap time_of here) ∙ first.stands in
    let has = held_frame s.waiting s.file first.time (subst ShowsOf here (shows at)) waits in
    record { here = here; waits = waits; found = has.0; last = has.1; time = has.2; held = has.3 }

-- its line is made, and is printed or not
next_listed : (w : Asked) (olds news : List SourceValue) (number : ℕ) (old new : SoFar) (line : List ℕ) (out so_far : Option (List ℕ)) (writes written : Calls) (at : ℕ) (s : SourceValue)
    → (f : IsFilled w olds news number old out so_far writes written) → (first : IsFirst news at) → (t : IsTurn news at s first)
    → is_enough old.listing.asked.wanted old.listing.shown ≡ false → Lists (number + 1) t.found.frame old new line
    → AreListed w olds (set news at (given s)) new (f.merging.text ++ line) (f.merging.merged ++ t.found.frame ∷ [])
next_listed w olds news number old new line out so_far writes written at s f first t few lists =
    let m = f.merging in record {
      frames = added at t.found.frame m.frames;
      reads = are_given olds news m.frames at s first.time t.found t.here t.waits t.last m.reads;
      merges = merges_given news m.frames m.merged at s t.found f.shows t.here first t.waits t.time t.held m.merges;
      start = m.start;
      begins = m.begins;
      lists = lists_more 1 (number + 1) m.merged t.found.frame m.start old new m.text line m.lists (omega (arith, m.counted)) few lists;
    }

pub next_printed : (w : Asked) (olds news : List SourceValue) (number : ℕ) (old new : SoFar) (out so_far after : Option (List ℕ)) (writes written last : Calls) (at : ℕ) (s t : SourceValue)
    → IsFilled w olds news number old out so_far writes written → IsFirst news at → slice_get news at ≡ Some s
    → is_enough old.listing.asked.wanted old.listing.shown ≡ false → GivenAt (Ok tt) s t
    → ((found : Numbered) → last_of s.file ≡ Some found → PrintsFrame (number + 1) found.frame old new so_far after written last (Ok tt))
    → IsMerging w olds (set news at t) (number + 1) new out after writes last
next_printed w olds news number old new out so_far after writes written last at s t f first here few same prints =
    let m = f.merging in
    let turn = turn_of news at s f.shows first here in
    let p = prints turn.found turn.last in
    let l = next_listed w olds news number old new p.0 out so_far writes written at s f first turn few p.1 in
    subst (λ (x : SourceValue). IsMerging w olds (set news at x) (number + 1) new out after writes last) (sym same)
    (record {
      frames = l.frames;
      merged = m.merged ++ turn.found.frame ∷ [];
      text = m.text ++ p.0;
      long = length-set news at (given s) ∙ m.long;
      reads = l.reads;
      merges = l.merges;
      counted = omega (arith, m.counted, length-append m.merged (turn.found.frame ∷ []));
      start = l.start;
      begins = l.begins;
      lists = l.lists;
      printed = Appends-more out so_far after m.text p.0 m.printed p.2;
      wrote = grows_on writes written last m.wrote p.3;
    })

same_set : (xs : List SourceValue) (i : ℕ) (x : SourceValue) → slice_get xs i ≡ Some x → set xs i x ≡ xs
same_set [] i x is = refl
same_set (y ∷ xs) zero x is = let same : y ≡ x = cc is in ap (λ (z : SourceValue). z ∷ xs) (sym same)
same_set (y ∷ xs) (suc i) x is = ap (λ (zs : List SourceValue). y ∷ zs) (same_set xs i x is)

pub not_printed : (w : Asked) (olds news : List SourceValue) (number : ℕ) (old new final : SoFar) (out so_far after : Option (List ℕ)) (writes written last : Calls) (at : ℕ) (s t : SourceValue) (why : PrintFault)
    → IsFilled w olds news number old out so_far writes written → IsFirst news at → slice_get news at ≡ Some s
    → is_enough old.listing.asked.wanted old.listing.shown ≡ false → GivenAt (Err why) s t
    → ((found : Numbered) → last_of s.file ≡ Some found → PrintsFrame (number + 1) found.frame old new so_far after written last (Err why))
    → PrintsList w olds (set news at t) out after writes last final (Err why)
not_printed w olds news number old new final out so_far after writes written last at s t Write f first here few same prints =
    let m = f.merging in
    let turn = turn_of news at s f.shows first here in
    let p = prints turn.found turn.last in
    subst (λ (x : SourceValue). PrintsList w olds (set news at x) out after writes last final (Err Write)) (sym same) (
      new,
      m.text ++ p.0,
      m.merged ++ turn.found.frame ∷ [],
      next_listed w olds news number old new p.0 out so_far writes written at s f first turn few p.1,
      front_after out so_far after m.text p.0 m.printed p.2,
      fails_from writes written last m.wrote p.3,
    )
not_printed w olds news number old new final out so_far after writes written last at s t NoMemory f first here few same prints =
    let m = f.merging in
    let turn = turn_of news at s f.shows first here in
    let kept : set news at t ≡ news = ap (set news at) same ∙ same_set news at s here in
    subst (λ (xs : List SourceValue). PrintsList w olds xs out after writes last final (Err NoMemory)) (sym kept) (
      old,
      m.text,
      m.merged,
      are_listed w olds news number old out so_far writes written m,
      Appends-kept out so_far after m.text m.printed (prints turn.found turn.last),
    )

-- ---- the counts

pub counts_printed : (w : Asked) (olds news : List SourceValue) (out mid after : Option (List ℕ)) (writes written last : Calls) (new : SoFar) (end : Listing)
    → PrintsList w olds news out mid writes written new (Ok tt) → end ≡ end_of new → (result : Result Unit PrintFault) → PrintsLast end mid after written last result
    → Prints w olds news out after writes last result
counts_printed w olds news out mid after writes written last new end (text, merged, listed, done, printed, wrote) is (Ok unit) p =
    (new, text, merged, listed, done, Appends-more out mid after text (last_text (end_of new)) printed (rw is at p))
counts_printed w olds news out mid after writes written last new end (text, merged, listed, done, printed, wrote) is (Err Write) p =
    let front = rw is at p.0 in
    (new, text, merged, listed, inr (done, front_after out mid after text (last_text (end_of new)) printed front), fails_from writes written last wrote p.1)
counts_printed w olds news out mid after writes written last new end (text, merged, listed, done, printed, wrote) is (Err NoMemory) p =
    (new, text, merged, listed, Appends-kept out mid after text printed p)

pub list_unprinted : (w : Asked) (olds news : List SourceValue) (out after : Option (List ℕ)) (writes written : Calls) (new : SoFar) (why : PrintFault)
    → PrintsList w olds news out after writes written new (Err why) → Prints w olds news out after writes written (Err why)
list_unprinted w olds news out after writes written new Write (s, text, merged, listed, front, shows) = (s, text, merged, listed, inl front, shows)
list_unprinted w olds news out after writes written new NoMemory p = p
