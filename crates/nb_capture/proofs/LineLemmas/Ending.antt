-- What a room for lines holds, and where its input ends.
use Rattle.nb_capture.proofs.Common.{◌≡◌, ◌<◌, ◌≤◌, ◌+◌, ◌++◌, ◌∷◌, ℕ, List, length, take, drop, sym, ◌∙◌, ap, subst, inl, inr, append_assoc, arith, [], Option, Some, None, Ok, Contains, IfSome, MatchOption, length-drop, take-append-drop, take-take, drop-drop, append-nil, take_all, Contains-append_left, Contains-append_cases, Counts, ReadsMore, handed_out, with_bytes, MAX_LINE, IsFeedAt, HandsFirst, line_of_size, standing_so, IsTooLong, ReadsLine, RoomValue, ManyCalls, no_call}
use Rattle.std.proofs.Math.Seq.{take-add}
use Rattle.nb_streams.specs.Room.{RoomValue as Held}
use Rattle.nb_capture.specs.LineReading.{one_more}
use Rattle.nb_capture.proofs.LineLemmas.Seeking.{IsSeeking, empty_is, turn_none, turn_last}
use Rattle.nb_capture.specs.declared.line_reading.First.TheVariants as first
use Rattle.nb_capture.specs.declared.line_room.Standing.TheVariants.{Reading, Ended}

-- ---- line feeds after a front

-- no line feed before a place nor from there on
pub clear_both : (seen : ℕ) (bytes : List ℕ) → ¬ Contains (take seen bytes) 10 → ¬ Contains (drop seen bytes) 10
    → ¬ Contains bytes 10
clear_both seen bytes clear free h =
    elim (Contains-append_cases (take seen bytes) (drop seen bytes) 10 (subst (λ (bs : List ℕ). Contains bs 10) (sym (take-append-drop seen bytes)) h)) [
      | inl a ↦ clear a
      | inr b ↦ free b
    ]

-- the first line feed from a place on, before which there is none
pub feed_from : (seen at : ℕ) (bytes : List ℕ) → seen ≤ length bytes → ¬ Contains (take seen bytes) 10
    → IsFeedAt (drop seen bytes) at → IsFeedAt bytes (seen + at)
feed_from seen at bytes within clear f =
    let front : take (seen + at) bytes ≡ take seen bytes ++ take at (drop seen bytes) = take-add seen at bytes in
    let same : seen + (at + 1) ≡ seen + at + 1 = omega arith in
    let after : drop (at + 1) (drop seen bytes) ≡ drop (seen + at + 1) bytes = drop-drop (at + 1) seen bytes ∙ ap (λ (n : ℕ). drop n bytes) same in (
      omega (arith, f.0, length-drop seen bytes, within),
      (λ h. elim (Contains-append_cases (take seen bytes) (take at (drop seen bytes)) 10 (subst (λ (bs : List ℕ). Contains bs 10) front h)) [
        | inl a ↦ clear a
        | inr b ↦ f.1 b
      ]),
      sym (take-append-drop seen bytes) ∙ ap (λ (r : List ℕ). take seen bytes ++ r) (f.2 ∙ ap (λ (r : List ℕ). take at (drop seen bytes) ++ 10 ∷ r) after)
          ∙ sym (append_assoc (take seen bytes) (take at (drop seen bytes)) (10 ∷ drop (seen + at + 1) bytes))
          ∙ ap (λ (r : List ℕ). r ++ 10 ∷ drop (seen + at + 1) bytes) (sym front),
    )

-- a first line feed that stands too far after
pub too_long_feed : (bytes rest : List ℕ) (at : ℕ) → bytes ≡ rest → IsFeedAt bytes at → MAX_LINE < at → IsTooLong rest
too_long_feed bytes rest at same f long =
    let size : MAX_LINE < length bytes = omega (arith, f.0, long) in
    let more : MAX_LINE + 1 ≤ at = omega (arith, long) in
    subst IsTooLong same (
      size,
      (λ h. f.1 (subst (λ (bs : List ℕ). Contains bs 10) (take-append-drop (MAX_LINE + 1) (take at bytes))
          (Contains-append_left (take (MAX_LINE + 1) (take at bytes)) (drop (MAX_LINE + 1) (take at bytes)) 10
          (subst (λ (bs : List ℕ). Contains bs 10) (sym (take-take (MAX_LINE + 1) at bytes more)) h)))),
    )

-- too many bytes without a line feed
pub too_long_open : (bytes rest : List ℕ) → bytes ≡ rest → ¬ Contains bytes 10 → MAX_LINE < length bytes → IsTooLong rest
too_long_open bytes rest same free long =
    subst IsTooLong same (
      long,
      (λ h. free (subst (λ (bs : List ℕ). Contains bs 10) (take-append-drop (MAX_LINE + 1) bytes)
          (Contains-append_left (take (MAX_LINE + 1) bytes) (drop (MAX_LINE + 1) bytes) 10 h))),
    )

-- ---- how reading to a line begins and ends

-- the room at the end of the input
at_the_end : (room opened mid : Held) (now after : Option (List ℕ)) (midway later : Counts) (n k : ℕ) → HandsFirst room (first.Open n) opened
    → ReadsMore opened now after midway later (Ok k) mid → k ≡ 0 → mid.rest ≡ room.rest
at_the_end room opened mid now after midway later n k p r none =
    let nothing : r.0 ≡ [] = empty_is r.0 (sym r.1 ∙ none) in
    let came : mid ≡ with_bytes room r.0 = r.5 ∙ ap (λ (v : Held). with_bytes v r.0) p.2 in
    ap (λ (v : Held). v.rest) came ∙ ap (λ (bs : List ℕ). room.rest ++ bs) nothing ∙ append-nil room.rest

pub all_seen : (room opened mid : Held) (now after : Option (List ℕ)) (midway later : Counts) (n k : ℕ) → HandsFirst room (first.Open n) opened
    → ReadsMore opened now after midway later (Ok k) mid → k ≡ 0 → n ≡ length mid.rest
all_seen room opened mid now after midway later n k p r none =
    p.1 ∙ sym (ap length (at_the_end room opened mid now after midway later n k p r none))

-- the last line is handed out, or none is left
pub turn_end : (old room opened mid new : Held) (before now after : Option (List ℕ)) (counts midway later : Counts) (seen n k : ℕ) (last : Option ℕ)
    → IsSeeking old before now counts midway room seen → HandsFirst room (first.Open n) opened
    → ReadsMore opened now after midway later (Ok k) mid → k ≡ 0 → new ≡ handed_out n mid
    → MatchOption last (n ≡ 0) (λ m. (m ≡ n) × (0 < n))
    → ReadsLine (standing_so Reading old) before after counts later (line_of_size new.lent (Ok last)) (standing_so Ended new)
turn_end old room opened mid new before now after counts midway later seen n k None s p r none is e =
    turn_none old room opened mid new before now after counts midway later seen n k s p r none is e
turn_end old room opened mid new before now after counts midway later seen n k (Some m) s p r none is e =
    rw e.0 (turn_last old room opened mid new before now after counts midway later seen n k s p r none is e.1)

-- the last line is in what is handed out
pub last_within : (mid new : Held) (n : ℕ) (last : Option ℕ) → n ≡ length mid.rest → new ≡ handed_out n mid
    → MatchOption last (n ≡ 0) (λ m. (m ≡ n) × (0 < n)) → IfSome last (λ m. m ≤ length new.lent)
last_within mid new n None all is e = tt
last_within mid new n (Some m) all is e =
    let lent : new.lent ≡ mid.rest = ap (λ (v : Held). v.lent) is ∙ take_all n mid.rest (omega (arith, all)) in
    omega (arith, e.0, all, ap length lent)

-- ---- calls for lines, one after another

-- what was held and what came is what was handed out and what is held
pub nothing_lost : (old new : RoomValue) (handed got : List ℕ) → ManyCalls old handed got new → old.rest ++ got ≡ handed ++ new.rest
nothing_lost _ _ _ _ (no_call room) = append-nil room.rest
nothing_lost _ _ _ _ (one_more old mid new handed got before left counts later result calls call) =
    sym (append_assoc old.rest got call.got)
    ∙ ap (λ (bs : List ℕ). bs ++ call.got) (nothing_lost old mid handed got calls)
    ∙ append_assoc handed mid.rest call.got
    ∙ ap (λ (bs : List ℕ). handed ++ bs) call.nothing_lost
    ∙ sym (append_assoc handed new.lent new.rest)
