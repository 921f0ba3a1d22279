-- What a room has after its bytes were moved, read and lent.
use Rattle.std.proofs.Common.{◌≡◌, ◌≤◌, ◌+◌, ◌-◌, ◌++◌, ℕ, List, length, take, drop, Option, Err, sym, ◌∙◌, ap, inl, inr, arith}
use borrow.Rule.Slice.PartMut.{post_of, put_mid}
use Rattle.std.proofs.lemmas.List.{length-take-le, length-drop, take-append-le, take_at, take-take, drop-drop, drop-take}
use Rattle.std.proofs.Math.Seq.{take-append-add}
use Rattle.nb_streams.specs.Counted.{Counts}
use Rattle.nb_streams.specs.Code.RoomSteps.{ReadsBehind}
use Rattle.nb_streams.specs.Room.{RoomValue, ReadsMore, let_go_of}
use Rattle.nb_streams.specs.declared.fault.RoomFault.{RoomFault}
use Rattle.nb_streams.specs.declared.fault.RoomFault.TheVariants.{Read, NoMemory}

-- the front of a buffer whose part from a on was written
pub take-written : (a k n : ℕ) (xs ys : List ℕ) → a ≤ length xs → n ≤ length ys → take (a + n) (put_mid a k xs ys) ≡ take a xs ++ take n ys
take-written a k n xs ys h m =
    ap (λ (b : ℕ). take (b + n) (put_mid a k xs ys)) (sym (length-take-le a xs h))
    ∙ take-append-add (take a xs) (ys ++ post_of a k xs) n
    ∙ ap (λ r. take a xs ++ r) (take-append-le n ys (post_of a k xs) m)

pub front_written : (a k : ℕ) (xs ys : List ℕ) → a ≤ length xs → take a (put_mid a k xs ys) ≡ take a xs
front_written a k xs ys h = take_at (take a xs) (ys ++ post_of a k xs) a (length-take-le a xs h)

-- a part of a vector, from both sides
pub part_is : (start end : ℕ) (bytes : List ℕ) → start ≤ end → take (end - start) (drop start bytes) ≡ drop start (take end bytes)
part_is start end bytes h =
    let whole : start + (end - start) ≡ end = omega (arith, h) in
    sym (drop-take start (end - start) bytes) ∙ ap (λ (n : ℕ). drop start (take n bytes)) whole

-- a front of a part
pub front_of_part : (start end size : ℕ) (bytes : List ℕ) → start ≤ end → size ≤ end - start
    → drop start (take (start + size) bytes) ≡ take size (drop start (take end bytes))
front_of_part start end size bytes h m =
    drop-take start size bytes ∙ sym (take-take size (end - start) (drop start bytes) m) ∙ ap (take size) (part_is start end bytes h)

-- what handing out a front of a part leaves
pub handed_out_is : (bytes : List ℕ) (start end size : ℕ) → start ≤ end → end ≤ length bytes → size ≤ length (drop start (take end bytes))
    → (drop start (take (start + size) bytes) ≡ take size (drop start (take end bytes)))
    × (drop (start + size) (take end bytes) ≡ drop size (drop start (take end bytes)))
handed_out_is bytes start end size order kept within =
    let room : size ≤ end - start = omega (arith, within, length-drop start (take end bytes), length-take-le end bytes kept) in
    (front_of_part start end size bytes order room, sym (drop-drop size start (take end bytes)))

-- a read failed, and the room was seen from inside
pub no_more : (old seen new : RoomValue) (before left : Option (List ℕ)) (counts later : Counts) (bytes : List ℕ) (held : ℕ) (fault : RoomFault)
    → seen ≡ old → ReadsBehind before left counts later seen.rest bytes held (seen.most - seen.taken) (Err fault) → seen.taken ≤ seen.most
    → (take held bytes ≡ seen.rest → new ≡ let_go_of seen) → ReadsMore old before left counts later (Err fault) new
no_more old seen new before left counts later bytes held Read is r most same = rw (← is) (
  r.0,
  r.1,
  elim (r.2) [
    | inl w ↦ inl w
    | inr w ↦ inr (w.0, omega (arith, w.1, most))
  ],
  same r.3,
  r.4,
  r.5,
)
no_more old seen new before left counts later bytes held NoMemory is r most same = rw (← is) (r.0, same r.1, r.2)
