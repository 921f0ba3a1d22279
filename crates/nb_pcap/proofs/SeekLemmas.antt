-- Reading from part to part.
use Rattle.std.proofs.Common.{◌≡◌, ◌⊎◌, inl, inr, ◌<◌, ◌≤◌, ◌+◌, ◌-◌, ◌++◌, ◌∷◌, ℕ, List, [], take, length, Option, Some, None, Result, Ok, Err, refl, sym, subst, ◌∙◌, ap, append_assoc, arith}
use Rattle.std.proofs.lemmas.List.{append-nil, length-append, length-drop, take-append-drop}
use Rattle.nb_streams.specs.Counted.{Counts}
use Rattle.nb_streams.specs.Room.{RoomValue, handed_out}
use Rattle.nb_streams.specs.declared.limits.TheConstants.{MAX_READ}
use Rattle.nb_pcap.specs.declared.context.Context.{Context}
use Rattle.nb_pcap.specs.declared.fault.FileFault.{FileFault}
use Rattle.nb_pcap.specs.declared.frame.Head.{Head}
use Rattle.nb_pcap.specs.Context.{size_of, content}
use Rattle.nb_pcap.specs.File.{IsPart, IsUnfinished, Spells, no_part, frames_of, in_content}
use Rattle.nb_pcap.specs.Section.{Taken, Gives}
use Rattle.nb_pcap.specs.Seeking.{Seeks, SeeksFrame}
use Rattle.nb_pcap.specs.Steps.{Passes, Reads, Stops, Took, bad, no_memory}
use Rattle.nb_pcap.proofs.FileLemmas.{spells_on, spells_then, spells_one}
use Rattle.nb_pcap.proofs.SizeLemmas.{either, ok_is, least_size, least_long, size_same, whole_part}
use Rattle.nb_pcap.proofs.StepLemmas.{stops_longer, took_more, took_none}

-- no frame was found so far; of a whole part that is held, not more than a read was read behind its end
pub record IsSeeking (c : Context) (place : ℕ) (old : RoomValue) (before now : Option (List ℕ)) (counts later : Counts) (next : Context) (there : ℕ) (room : RoomValue) : Type 0 where
  pub got : List ℕ
  pub took : Took got old before now counts later room
  pub spells : Spells c (old.rest ++ got) [] next room.rest
  pub place_is : there + length room.rest ≡ room.taken
  pub after : place ≤ there
  pub within : room.taken ≤ room.most
  pub ahead : (n : ℕ) → size_of next room.rest ≡ Ok n → n ≤ length room.rest → length room.rest ≤ n + MAX_READ

pub seeks_none : (c : Context) (place : ℕ) (room : RoomValue) (known : Option (List ℕ)) (counts : Counts) → place + length room.rest ≡ room.taken → room.taken ≤ room.most
    → length room.rest ≤ MAX_READ → IsSeeking c place room known known counts counts c place room
seeks_none c place room known counts place_is within near = record {
  got = [];
  took = took_none room room known counts refl refl;
  spells = subst (λ (b : List ℕ). Spells c b [] c room.rest) (sym (append-nil room.rest)) (no_part c room.rest);
  place_is = place_is;
  after = omega arith;
  within = within;
  ahead = λ n says there. omega (arith, near);
}

-- ---- more bytes

-- a part that was unfinished has more bytes than were held then
longer : (c : Context) (earlier last : List ℕ) (size n : ℕ) → size_of c earlier ≡ Ok size → length earlier < size → size_of c (earlier ++ last) ≡ Ok n
    → n ≤ length (earlier ++ last) → (length earlier < n) ⊎ (n ≤ length earlier) → length earlier < n
longer c earlier last size n says short whole within (inl long) = long
longer c earlier last size n says short whole within (inr few) =
    let least_there = least_size c (earlier ++ last) n whole within in
    let same : size ≡ n = ok_is size n (size_of c earlier) says (sym (size_same c earlier last (omega (arith, least_there, few))) ∙ whole) in
    absurd (omega (arith, same, short, few))

-- a read more, where a part was unfinished; each one brings the end of all nearer
pub seeks_more : (c mid : Context) (place there n size : ℕ) (old room new : RoomValue) (before now left : Option (List ℕ)) (counts midway later : Counts)
    → IsSeeking c place old before now counts midway mid there room → size_of mid room.rest ≡ Ok size → length room.rest < size
    → Reads room now left midway later (Ok n) new
    → IsSeeking c place old before left counts later mid there new × ((n ≡ 0 → ⊥) → (new.most - there) + (new.most - new.taken) < (room.most - there) + (room.most - room.taken))
seeks_more c mid place there n size old room new before now left counts midway later w says short r =
    let within : new.taken ≤ new.most = r.took.within w.within in (
      record {
        got = w.got ++ r.got;
        took = took_more w.got r.got old room new before now left counts midway later w.took r.took;
        spells = subst (λ (b : List ℕ). Spells c b [] mid new.rest) (append_assoc old.rest w.got r.got)
            (subst (λ (b : List ℕ). Spells c ((old.rest ++ w.got) ++ r.got) [] mid b) (sym r.rest) (spells_on c mid (old.rest ++ w.got) r.got room.rest [] w.spells));
        place_is = omega (arith, w.place_is, r.took.taken, ap length r.rest, length-append room.rest r.got);
        after = w.after;
        within = within;
        ahead = λ m whole there.
            let long = longer mid room.rest r.got size m says short (ap (size_of mid) (sym r.rest) ∙ whole) (omega (arith, there, ap length r.rest)) (either (length room.rest) m) in
            omega (arith, ap length r.rest, length-append room.rest r.got, long, r.once.0, r.once.2);
      },
      λ some. omega (arith, some, r.once.0, r.took.taken, r.took.most, within, w.within, w.place_is),
    )

-- ---- a part more

part_long : (c : Context) (part : List ℕ) → size_of c part ≡ Ok (length part) → 12 ≤ length part
part_long c part says = omega (arith, least_long c, least_size c part (length part) says (omega arith))

few_frames : (next : Context) (part : List ℕ) (head : Option Head) → length (frames_of next part head) ≤ 1
few_frames next part None = omega arith
few_frames next part (Some head) = omega arith

-- TookPart mid next head part room now left midway later new: after bytes that came this part is taken in, and gives this
pub record TookPart (mid next : Context) (head : Option Head) (part : List ℕ) (room : RoomValue) (now left : Option (List ℕ)) (midway later : Counts) (new : RoomValue) : Type 0 where
  pub came : List ℕ
  pub took : Took came room now left midway later new
  pub all : room.rest ++ came ≡ part ++ new.rest
  pub is_part : IsPart mid part (record { head = head; next = next })
  pub near : length new.rest ≤ MAX_READ

seeks_part : (c mid next : Context) (place there after : ℕ) (head : Option Head) (part : List ℕ) (old room new : RoomValue) (before now left : Option (List ℕ))
    (counts midway later : Counts) → IsSeeking c place old before now counts midway mid there room → TookPart mid next head part room now left midway later new
    → after + length new.rest ≡ new.taken → Seeks c place old before left counts later (frames_of next part head) new.rest next after new × (there < after)
seeks_part c mid next place there after head part old room new before now left counts midway later w p place_is =
    let long : 12 ≤ length part = part_long mid part p.is_part.size in
    let further : there + length part ≡ after =
    omega (arith, place_is, p.took.taken, w.place_is, ap length p.all, length-append room.rest p.came, length-append part new.rest) in (
      record {
        got = w.got ++ p.came;
        took = took_more w.got p.came old room new before now left counts midway later w.took p.took;
        spells = subst (λ (b : List ℕ). Spells c b (frames_of next part head) next new.rest) (append_assoc old.rest w.got p.came)
            (spells_then c mid next ((old.rest ++ w.got) ++ p.came) (room.rest ++ p.came) new.rest [] (frames_of next part head)
            (spells_on c mid (old.rest ++ w.got) p.came room.rest [] w.spells)
            (subst (λ (b : List ℕ). Spells mid b (frames_of next part head) next new.rest) (sym p.all) (spells_one mid part new.rest (record { head = head; next = next }) p.is_part)));
        place_is = place_is;
        after = omega (arith, w.after, further, long, few_frames next part head);
      },
      omega (arith, further, long),
    )

-- a part without a frame, which brings the end of all nearer
pub seeks_other : (c mid next : Context) (place there after : ℕ) (part : List ℕ) (old room new : RoomValue) (before now left : Option (List ℕ)) (counts midway later : Counts)
    → IsSeeking c place old before now counts midway mid there room → TookPart mid next None part room now left midway later new → after + length new.rest ≡ new.taken
    → IsSeeking c place old before left counts later next after new × ((new.most - after) + (new.most - new.taken) < (room.most - there) + (room.most - room.taken))
seeks_other c mid next place there after part old room new before now left counts midway later w p place_is =
    let s = seeks_part c mid next place there after None part old room new before now left counts midway later w p place_is in
    let within : new.taken ≤ new.most = p.took.within w.within in (
      record {
        got = s.0.got;
        took = s.0.took;
        spells = s.0.spells;
        place_is = place_is;
        after = omega (arith, s.0.after);
        within = within;
        ahead = λ n says whole. omega (arith, p.near);
      },
      omega (arith, s.1, within, place_is, p.took.most, p.took.taken, w.within, w.place_is),
    )

-- a frame is found
pub seeks_frame : (c mid next : Context) (place there after : ℕ) (head : Head) (old room new : RoomValue) (before now left : Option (List ℕ)) (counts midway later : Counts)
    → IsSeeking c place old before now counts midway mid there room → TookPart mid next (Some head) new.lent room now left midway later new → after + length new.rest ≡ new.taken
    → SeeksFrame c place old before left counts later (Ok (Some head)) next after new
seeks_frame c mid next place there after head old room new before now left counts midway later w p place_is =
    ((seeks_part c mid next place there after (Some head) new.lent old room new before now left counts midway later w p place_is).0, p.near)

-- ---- a part that is held

given : (x : Result (Taken Context) FileFault) (h : Option Head) (old new : Context) → Gives x (Ok h) old new → x ≡ Ok (record { head = h; next = new })
given (Ok taken) h old new g = λ i. Ok (record { head = sym g.0 i; next = sym g.1 i })
given (Err why) h old new g = absurd g

-- it is taken in, and handed out
pub took_held : (mid next : Context) (head : Option Head) (part : List ℕ) (size : ℕ) (room new : RoomValue) (now : Option (List ℕ)) (midway : Counts)
    → part ≡ take size room.rest → size_of mid room.rest ≡ Ok size → size ≤ length room.rest → length room.rest ≤ size + MAX_READ
    → Gives (content mid part) (Ok head) mid next → new ≡ handed_out size room → TookPart mid next head new.lent room now now midway midway new
took_held mid next head part size room new now midway is says within ahead g out = rw out (record {
  came = [];
  took = took_none room (handed_out size room) now midway refl refl;
  all = append-nil room.rest ∙ sym (take-append-drop size room.rest);
  is_part = record { size = whole_part mid room.rest size says within; gives = ap (content mid) (sym is) ∙ given (content mid part) head mid next g };
  near = omega (arith, ahead, length-drop size room.rest);
})

-- it is passed over
pub took_passed : (mid : Context) (done : Unit) (room new : RoomValue) (now left : Option (List ℕ)) (midway later : Counts) (p : Passes mid room now left midway later (Ok done) new)
    → TookPart mid mid None p.passes.0 room now left midway later new
took_passed mid done room new now left midway later p = record { came = p.got; took = p.took; all = p.passes.1; is_part = p.passes.2; near = p.passes.3 }

-- or can't be, or memory runs out
pub held_stops : (mid next : Context) (why : FileFault) (part : List ℕ) (size : ℕ) (room : RoomValue) (now : Option (List ℕ)) (counts later : Counts) (x : Result (Taken Context) FileFault)
    → part ≡ take size room.rest → size_of mid room.rest ≡ Ok size → size ≤ length room.rest → content mid part ≡ x → Gives x (Err why) mid next
    → Stops mid room.rest now counts later room why × (next ≡ mid)
held_stops mid next why part size room now counts later (Ok taken) is says within content_is g =
    (subst (λ (w : FileFault). Stops mid room.rest now counts later room w) (sym g.0) no_memory, g.1)
held_stops mid next why part size room now counts later (Err fault) is says within content_is g =
    (bad why (in_content size says within (ap (content mid) (sym is) ∙ content_is ∙ ap Err (sym g.0))), g.1)

-- ---- the end

-- no part is read further
pub seeks_fails : (c mid : Context) (place there : ℕ) (came : List ℕ) (old room new : RoomValue) (before now left : Option (List ℕ)) (counts midway later : Counts) (why : FileFault)
    → IsSeeking c place old before now counts midway mid there room → Took came room now left midway later new → Stops mid (room.rest ++ came) left midway later new why
    → SeeksFrame c place old before left counts later (Err why) mid there new
seeks_fails c mid place there came old room new before now left counts midway later why w took stops = (
  room.rest ++ came,
  record {
    got = w.got ++ came;
    took = took_more w.got came old room new before now left counts midway later w.took took;
    spells = subst (λ (b : List ℕ). Spells c b [] mid (room.rest ++ came)) (append_assoc old.rest w.got came) (spells_on c mid (old.rest ++ w.got) came room.rest [] w.spells);
    place_is = omega (arith, w.place_is, took.taken, length-append room.rest came);
    after = omega (arith, w.after);
  },
  stops_longer mid (room.rest ++ came) left counts midway later new why w.took.grow stops,
)

-- of what is held no part is read
pub seeks_stops : (c mid next : Context) (place there : ℕ) (old room : RoomValue) (before now : Option (List ℕ)) (counts midway : Counts) (why : FileFault)
    → IsSeeking c place old before now counts midway mid there room → Stops mid room.rest now midway midway room why → next ≡ mid
    → SeeksFrame c place old before now counts midway (Err why) next there room
seeks_stops c mid next place there old room before now counts midway why w stops same =
    rw same (seeks_fails c mid place there [] old room room before now now counts midway midway why w (took_none room room now midway refl refl)
    (subst (λ (b : List ℕ). Stops mid b now midway midway room why) (sym (append-nil room.rest)) stops))

-- nothing came, and what is held is unfinished
pub unfinished : (mid : Context) (size : ℕ) (rest came all : List ℕ) → size_of mid rest ≡ Ok size → length rest < size → length came ≡ 0 → all ≡ rest ++ came
    → IsUnfinished mid all
unfinished mid size rest [] all says short none is =
    let same : all ≡ rest = is ∙ append-nil rest in record { size = size; says = ap (size_of mid) same ∙ says; short = omega (arith, ap length same, short) }
unfinished mid size rest (x ∷ came) all says short none is = absurd (omega (arith, none))
