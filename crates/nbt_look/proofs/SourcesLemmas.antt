-- Files that are read side by side.
use Rattle.std.proofs.Common.{◌≡◌, ◌≢◌, ◌∙◌, ◌⊎◌, inl, inr, ◌<◌, ◌≤◌, ◌+◌, ◌++◌, ◌∷◌, ℕ, zero, suc, List, [], length, set, slice_get, Option, Some, None, Result, Ok, Err, ap, refl, sym, subst, arith}
use Rattle.std.proofs.lemmas.Bool.{cases_eq}
use Rattle.std.proofs.lemmas.List.{append-nil, length-append, length-set}
use Rattle.std.proofs.lemmas.Option.{slice_get_within}
use Rattle.nb_streams.specs.Devices.{GrowTo}
use Rattle.nb_streams.specs.DeviceFacts.{Consumes-more, Consumes-nil, grows_on}
use Rattle.nb_pcap.specs.declared.context.Context.TheVariants.{Beginning}
use Rattle.nb_pcap.specs.declared.fault.FileFault.{FileFault}
use Rattle.nb_pcap.specs.declared.file_reading.Standing.{Standing}
use Rattle.nb_pcap.specs.File.{Spells, no_part}
use Rattle.nb_pcap.specs.Frame.{FrameValue}
use Rattle.nb_pcap.specs.Reading.{GivesAgain, Numbered, ReadsFrom, ReadsOn}
use Rattle.nbt_look.specs.declared.sources.Waiting.{Waiting}
use Rattle.nbt_look.specs.declared.sources.Waiting.TheVariants.{Unread, Frame, Ended}
use Rattle.nbt_look.specs.Sources.{AreRead, Fills, FillsAll, FillsFrom, IsOn, IsRead, ReadAs, SourceValue, unread, waiting_after}
use Rattle.nbt_look.proofs.FrontLemmas.{spells_came}
use Rattle.nb_streams.specs.Counted.{Counts as Calls}
use Rattle.nb_streams.specs.Devices.{ShowsReadFault}
use Rattle.nb_streams.specs.DeviceFacts.{cut_from}
use Rattle.nb_streams.specs.Room.{RoomValue}
use Rattle.nb_pcap.specs.declared.context.Context.{Context}
use Rattle.nb_pcap.specs.Steps.{Stops, bad, cut, unread as unread_more, no_memory}

-- ---- lists

pub some_at : {X : Type 0} (xs : List X) (i : ℕ) → i < length xs → (x : X) × (slice_get xs i ≡ Some x)
some_at [] i within = absurd (omega (arith, within))
some_at (x ∷ xs) zero within = (x, refl)
some_at (x ∷ xs) (suc i) within = some_at xs i (omega (arith, within))

pub set_here : {X : Type 0} (xs : List X) (i : ℕ) (x : X) → i < length xs → slice_get (set xs i x) i ≡ Some x
set_here [] i x within = absurd (omega (arith, within))
set_here (y ∷ xs) zero x within = refl
set_here (y ∷ xs) (suc i) x within = set_here xs i x (omega (arith, within))

pub set_elsewhere : {X : Type 0} (xs : List X) (i j : ℕ) (x : X) → j ≢ i → slice_get (set xs i x) j ≡ slice_get xs j
set_elsewhere [] i j x other = refl
set_elsewhere (y ∷ xs) zero zero x other = absurd (other refl)
set_elsewhere (y ∷ xs) zero (suc j) x other = refl
set_elsewhere (y ∷ xs) (suc i) zero x other = refl
set_elsewhere (y ∷ xs) (suc i) (suc j) x other = set_elsewhere xs i j x (λ e. other (ap suc e))

-- ---- one step

pub same_calls : (calls : Calls) → GrowTo calls calls
same_calls calls = record { empty = omega arith; interrupted = omega arith; failed = omega arith }

pub place_on : (p q : ℕ) (rest came got : List ℕ) → p + length rest ≡ length got → q ≡ p + length (rest ++ came) → q ≡ length (got ++ came)
place_on p q rest came got x y = omega (arith, x, y, length-append rest came, length-append got came)

unread_longer : (calls midway later : Calls) (room : RoomValue) → GrowTo calls midway → ShowsReadFault midway later ⊎ (room.taken ≡ room.most)
    → ShowsReadFault calls later ⊎ (room.taken ≡ room.most)
unread_longer calls midway later room g (inl h) = inl (cut_from calls midway later g h)
unread_longer calls midway later room g (inr h) = inr h

pub stops_longer : (c : Context) (bytes : List ℕ) (left : Option (List ℕ)) (calls midway later : Calls) (room : RoomValue) (why : FileFault) → GrowTo calls midway
    → Stops c bytes left midway later room why → Stops c bytes left calls later room why
stops_longer c bytes left calls midway later room _ g (bad why is) = bad why is
stops_longer c bytes left calls midway later room _ g (cut u at_end not_end) = cut u at_end not_end
stops_longer c bytes left calls midway later room _ g (unread_more u shows) = unread_more u (unread_longer calls midway later room g shows)
stops_longer c bytes left calls midway later room _ g no_memory = no_memory

-- it is known what a file has to give
abbrev pub IsKnown : Waiting → Type 0
IsKnown Unread = ⊥
IsKnown (Frame time) = Unit
IsKnown (Ended ending) = Unit

-- where a file is read on
read_on : (result : Result (Option Numbered) FileFault) (old mid new : SourceValue) (got : List ℕ) (frames : List FrameValue) → GrowTo old.calls mid.calls
    → IsOn mid.file got frames → (r : ReadsOn mid.file mid.known new.known mid.calls new.calls result new.file) → GivesAgain result new.file
    → ReadAs (waiting_after result new.file) old.calls new (got ++ r.got) frames × IsKnown (waiting_after result new.file)
read_on (Ok (Some found)) old mid new got frames grow on r again =
    let f = r.finds in (
      (
        found,
        again,
        refl,
        record {
          spells = spells_came Beginning mid.file.context new.file.context got r.got mid.file.room.rest new.file.room.rest frames (found.frame ∷ []) on.spells f.0;
          counted = omega (arith, f.2, on.counted, length-append frames (found.frame ∷ []));
          on = f.3;
          place_is = place_on mid.file.place (new.file.place + length new.file.room.rest) mid.file.room.rest r.got got on.place_is f.5;
          kept = omega (arith, on.kept, r.taken, length-append got r.got);
          most = r.most ∙ on.most;
        },
      ),
      tt,
    )
read_on (Ok None) old mid new got frames grow on r again = (
  record {
    last = new.file.context;
    spells = subst (λ (fs : List FrameValue). Spells Beginning (got ++ r.got) fs new.file.context []) (append-nil frames)
        (spells_came Beginning mid.file.context new.file.context got r.got mid.file.room.rest [] frames [] on.spells r.finds.0);
    begun = r.finds.2;
    at_end = r.finds.1;
  },
  tt,
)
read_on (Err why) old mid new got frames grow on r again =
    let f = r.finds in (
      record {
        last = new.file.context;
        rest = f.0;
        spells = subst (λ (fs : List FrameValue). Spells Beginning (got ++ r.got) fs new.file.context f.0) (append-nil frames)
            (spells_came Beginning mid.file.context new.file.context got r.got mid.file.room.rest f.0 frames [] on.spells f.1);
        number_is = f.4 ∙ on.counted;
        place_is = place_on mid.file.place (new.file.place + length f.0) mid.file.room.rest r.got got on.place_is f.3;
        room = new.file.room;
        kept = omega (arith, on.kept, r.taken, length-append got r.got);
        most = r.most ∙ on.most;
        stops = stops_longer new.file.context f.0 new.known old.calls mid.calls new.calls new.file.room why grow f.2;
      },
      tt,
    )

-- what was read, and then a step
fill_from : (w : Waiting) (old mid new : SourceValue) (frames : List FrameValue) → mid.waiting ≡ w → IsRead old mid frames → FillsFrom w mid new
    → IsRead old new frames × IsKnown new.waiting
fill_from Unread old mid new frames is r (result, reads, waits) =
    let on : IsOn mid.file r.got frames = subst (λ (w : Waiting). ReadAs w old.calls mid r.got frames) is r.reads in
    let step : ReadsOn mid.file mid.known new.known mid.calls new.calls result new.file =
    subst (λ (s : Standing). ReadsFrom s mid.file mid.known new.known mid.calls new.calls result new.file) on.on reads.0 in
    let all = read_on result old mid new r.got frames r.grow on step reads.1 in (
      record {
        got = r.got ++ step.got;
        consumes = Consumes-more old.known mid.known new.known r.got step.got r.consumes step.consumes;
        grow = grows_on old.calls mid.calls new.calls r.grow step.grow;
        reads = subst (λ (w : Waiting). ReadAs w old.calls new (r.got ++ step.got) frames) (sym waits) all.0;
      },
      subst IsKnown (sym waits) all.1,
    )
fill_from (Frame time) old mid new frames is r same =
    subst (λ (s : SourceValue). IsRead old s frames × IsKnown s.waiting) (sym same) (r, subst IsKnown (sym is) tt)
fill_from (Ended ending) old mid new frames is r same =
    subst (λ (s : SourceValue). IsRead old s frames × IsKnown s.waiting) (sym same) (r, subst IsKnown (sym is) tt)

-- the same of all files, of which each is known then
pub fill_each : (olds mids news : List SourceValue) (frames : ℕ → List FrameValue) → length mids ≡ length news → AreRead olds mids frames → FillsAll mids news
    → (i : ℕ) (old new : SourceValue) → slice_get olds i ≡ Some old → slice_get news i ≡ Some new → IsRead old new (frames i) × IsKnown new.waiting
fill_each olds mids news frames long reads fills i old new is_old is_new =
    let mid = some_at mids i (omega (arith, long, slice_get_within news i new is_new)) in
    fill_from mid.0.waiting old mid.0 new (frames i) refl (reads i old mid.0 is_old mid.1) (fills i mid.0 new mid.1 is_new)

-- ---- the first

unread_is : (known : Option (List ℕ)) → IsRead (unread known) (unread known) []
unread_is known = record {
  got = [];
  consumes = Consumes-nil known;
  grow = same_calls (unread known).calls;
  reads = record { spells = no_part Beginning []; counted = refl; on = refl; place_is = refl; kept = refl; most = refl };
}

-- nothing was read
pub nothing_yet : (s t : SourceValue) → s ≡ unread s.known → t ≡ s → IsRead s t []
nothing_yet s t is same =
    subst (λ (x : SourceValue). IsRead s x []) (sym same) (subst (λ (x : SourceValue). IsRead x x []) (sym is) (unread_is s.known))

-- ---- all files

-- the files before this place are read on, and the others are as they were
pub record IsFilling (olds news : List SourceValue) (k : ℕ) : Type 0 where
  pub done : (i : ℕ) (old new : SourceValue) → i < k → slice_get olds i ≡ Some old → slice_get news i ≡ Some new → Fills old new
  pub others : (i : ℕ) → k ≤ i → slice_get news i ≡ slice_get olds i
  pub long : length news ≡ length olds

pub filling_begins : (olds : List SourceValue) → IsFilling olds olds 0
filling_begins olds = record { done = λ i old new lt is_old is_new. absurd (omega (arith, lt)); others = λ i within. refl; long = refl }

pub filling_next : (olds news : List SourceValue) (k : ℕ) (s t : SourceValue) → IsFilling olds news k → slice_get news k ≡ Some s → Fills s t
    → IsFilling olds (set news k t) (k + 1)
filling_next olds news k s t f here fills = record {
  done = λ i old new lt is_old is_new. by_place i old new lt is_old is_new (cases_eq i k);
  others = λ i within.
      (let other : i ≢ k = λ e. omega (arith, within, e) in set_elsewhere news k i t other ∙ f.others i (omega (arith, within)));
  long = length-set news k t ∙ f.long;
}
  where
    by_place : (i : ℕ) (old new : SourceValue) → i < k + 1 → slice_get olds i ≡ Some old → slice_get (set news k t) i ≡ Some new → (i ≡ k) ⊎ (i ≡ k → ⊥) → Fills old new
    by_place i old new lt is_old is_new (inl same) =
        let was : slice_get news k ≡ slice_get olds k = f.others k (omega arith) in
        let first : s ≡ old = (let at : slice_get olds k ≡ Some old = ap (slice_get olds) (sym same) ∙ is_old in cc (here, was, at)) in
        let second : t ≡ new = (let at : slice_get (set news k t) k ≡ Some t = set_here news k t (slice_get_within news k s here) in
        let there : slice_get (set news k t) k ≡ Some new = ap (slice_get (set news k t)) (sym same) ∙ is_new in cc (at, there)) in
        subst (λ (x : SourceValue). Fills x new) first (subst (λ (y : SourceValue). Fills s y) second fills)
    by_place i old new lt is_old is_new (inr other) =
        f.done i old new (omega (arith, lt, other)) is_old (sym (set_elsewhere news k i t other) ∙ is_new)

pub filling_done : (olds news : List SourceValue) (k : ℕ) → IsFilling olds news k → length news ≤ k → FillsAll olds news
filling_done olds news k f all i old new is_old is_new = f.done i old new (omega (arith, all, slice_get_within news i new is_new)) is_old is_new
