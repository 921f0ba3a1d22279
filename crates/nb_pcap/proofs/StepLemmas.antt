-- Bytes that come into a room.
use Rattle.std.proofs.Common.{◌≡◌, ◌⊎◌, inl, inr, ◌++◌, ℕ, List, [], Option, Ok, Err, refl, sym, subst, ◌∙◌, ap, arith}
use Rattle.std.specs.Io.KnownBytes.{Consumes}
use Rattle.std.proofs.lemmas.List.{append-nil, length-append}
use Rattle.nb_streams.specs.Counted.{Counts}
use Rattle.nb_streams.specs.Devices.{GrowTo}
use Rattle.nb_streams.specs.DeviceFacts.{Consumes-nil, Consumes-more, Consumes-kept, grows_on, cut_from}
use Rattle.nb_streams.specs.Room.{RoomValue, ReadsMore, let_go_of}
use Rattle.nb_streams.specs.declared.fault.RoomFault.TheVariants as room_fault
use Rattle.nb_pcap.specs.declared.context.Context.{Context}
use Rattle.nb_pcap.specs.declared.fault.FileFault.{FileFault}
use Rattle.nb_pcap.specs.declared.fault.FileFault.TheVariants as fault
use Rattle.nb_pcap.specs.File.{IsUnfinished}
use Rattle.nb_pcap.specs.Steps.{Reads, ShowsUnread, Stops, Took, bad, cut, unread, no_memory}

-- ---- bytes that came

pub same_counts : (counts : Counts) → GrowTo counts counts
same_counts counts = record { empty = omega arith; interrupted = omega arith; failed = omega arith }

pub took_none : (old new : RoomValue) (known : Option (List ℕ)) (counts : Counts) → new.taken ≡ old.taken → new.most ≡ old.most → Took [] old known known counts counts new
took_none old new known counts taken most =
    record { consumes = Consumes-nil known; taken = omega (arith, taken); most = most; within = λ w. omega (arith, w, taken, most); grow = same_counts counts }

pub took_more : (xs ys : List ℕ) (old mid new : RoomValue) (before now left : Option (List ℕ)) (counts midway later : Counts)
    → Took xs old before now counts midway mid → Took ys mid now left midway later new → Took (xs ++ ys) old before left counts later new
took_more xs ys old mid new before now left counts midway later p q = record {
  consumes = Consumes-more before now left xs ys p.consumes q.consumes;
  taken = omega (arith, p.taken, q.taken, length-append xs ys);
  most = q.most ∙ p.most;
  within = λ w. q.within (p.within w);
  grow = grows_on counts midway later p.grow q.grow;
}

pub stops_longer : (c : Context) (bytes : List ℕ) (left : Option (List ℕ)) (counts midway later : Counts) (room : RoomValue) (why : FileFault) → GrowTo counts midway
    → Stops c bytes left midway later room why → Stops c bytes left counts later room why
stops_longer c bytes left counts midway later room _ g (bad why is) = bad why is
stops_longer c bytes left counts midway later room _ g (cut u at_end not_end) = cut u at_end not_end
stops_longer c bytes left counts midway later room _ g (unread u (inl shows)) = unread u (inl (cut_from counts midway later g shows))
stops_longer c bytes left counts midway later room _ g (unread u (inr full)) = unread u (inr full)
stops_longer c bytes left counts midway later room _ g no_memory = no_memory

pub stops_unread : (c : Context) (bytes : List ℕ) (left : Option (List ℕ)) (counts later : Counts) (room : RoomValue) (why : FileFault) → IsUnfinished c bytes
    → (why ≡ fault.NoMemory) ⊎ ((why ≡ fault.Read) × ShowsUnread counts later room) → Stops c bytes left counts later room why
stops_unread c bytes left counts later room why u (inl is) = subst (λ (w : FileFault). Stops c bytes left counts later room w) (sym is) no_memory
stops_unread c bytes left counts later room why u (inr x) = subst (λ (w : FileFault). Stops c bytes left counts later room w) (sym x.0) (unread u x.1)

-- ---- one read

pub read_ok : (n : ℕ) (old new : RoomValue) (before left : Option (List ℕ)) (counts later : Counts)
    → ReadsMore old before left counts later (Ok n) new → Reads old before left counts later (Ok n) new
read_ok n old new before left counts later r = rw (r.5) (record {
  got = r.0;
  took = record { consumes = r.2; taken = refl; most = refl; within = λ w. omega (arith, r.1, r.3); grow = r.6 };
  rest = refl;
  once = (r.1, r.4, r.7);
})

-- no byte came
bare : (old new : RoomValue) (before left : Option (List ℕ)) (counts later : Counts) (why : FileFault) → Consumes before left [] → GrowTo counts later
    → new ≡ let_go_of old → (why ≡ fault.NoMemory) ⊎ ((why ≡ fault.Read) × ShowsUnread counts later new) → Reads old before left counts later (Err why) new
bare old new before left counts later why consumes grow is shows =
    let taken : new.taken ≡ old.taken = ap (λ (v : RoomValue). v.taken) is in
    let most : new.most ≡ old.most = ap (λ (v : RoomValue). v.most) is in
    record {
      got = [];
      took = record { consumes = consumes; taken = omega (arith, taken); most = most; within = λ w. omega (arith, w, taken, most); grow = grow };
      rest = ap (λ (v : RoomValue). v.rest) is ∙ sym (append-nil old.rest);
      once = (refl, shows);
    }

pub read_full : (room : RoomValue) (known : Option (List ℕ)) (counts : Counts) → room.taken ≡ room.most → Reads room known known counts counts (Err fault.Read) room
read_full room known counts full =
    record { got = []; took = took_none room room known counts refl refl; rest = sym (append-nil room.rest); once = (refl, inr (refl, inr full)) }

pub read_failed : (old new : RoomValue) (before left : Option (List ℕ)) (counts later : Counts) → (old.taken ≡ old.most → ⊥)
    → ReadsMore old before left counts later (Err room_fault.Read) new → Reads old before left counts later (Err fault.Read) new
read_failed old new before left counts later not_full r =
    elim (r.2) [
      | inl x ↦ bare old new before left counts later fault.Read (subst (λ (b : List ℕ). Consumes before left b) x.1 r.1) r.4 r.3 (inr (refl, inl x.0))
      | inr x ↦ absurd (not_full x.1)
    ]

pub read_no_memory : (old new : RoomValue) (before left : Option (List ℕ)) (counts later : Counts)
    → ReadsMore old before left counts later (Err room_fault.NoMemory) new → Reads old before left counts later (Err fault.NoMemory) new
read_no_memory old new before left counts later r =
    bare old new before left counts later fault.NoMemory (Consumes-kept before before left [] (Consumes-nil before) r.0)
    (subst (λ (k : Counts). GrowTo counts k) (sym r.2) (same_counts counts)) r.1 (inl refl)
