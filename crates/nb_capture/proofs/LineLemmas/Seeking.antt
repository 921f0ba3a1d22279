-- What reading to a line keeps from read to read.
use Rattle.nb_capture.proofs.Common.{◌≡◌, ◌⊎◌, ◌≤◌, ◌<◌, ◌+◌, ◌++◌, ◌∷◌, ℕ, List, [], take, drop, length, Option, Some, None, Result, Ok, Err, refl, sym, ◌∙◌, ap, subst, inl, inr, append_assoc, arith, Contains, Consumes, IsAtEnd, Contains-append_left, append-nil, length-append, length-take-le, take_at, take_all, drop_all, Counts, GrowTo, Consumes-nil, Consumes-more, Consumes-kept, grows_on, cut_from, ReadsMore, let_go_of, handed_out, with_bytes, MAX_LINE, Answers, LastRead, ReadsLine, Repeats, RoomValue, IsOpen, IsTooLong, HandsFirst, IsFeedAt, IsRoom, Suits, standing_so}
use Rattle.nb_streams.specs.Room.{RoomValue as Held}
use Rattle.nb_streams.specs.declared.limits.TheConstants.{MAX_READ}
use Rattle.nb_streams.specs.declared.fault.RoomFault.{RoomFault}
use Rattle.nb_streams.specs.declared.fault.RoomFault.TheVariants as fault
use Rattle.nb_capture.specs.declared.line_reading.First.TheVariants as first
use Rattle.nb_capture.specs.declared.fault.LineReadFault.{LineReadFault}
use Rattle.nb_capture.specs.declared.fault.LineReadFault.TheVariants.{Read, TooLong, NoMemory}
use Rattle.nb_capture.specs.declared.line_room.Standing.{Standing}
use Rattle.nb_capture.specs.declared.line_room.Standing.TheVariants as standing

-- these bytes were read, and none so far seen is a line feed
pub record IsSeeking (old : Held) (before now : Option (List ℕ)) (counts later : Counts) (room : Held) (seen : ℕ) : Type 0 where
  pub got : List ℕ
  pub consumes : Consumes before now got
  pub lent : room.lent ≡ []
  pub rest : room.rest ≡ old.rest ++ got
  pub taken : room.taken ≡ old.taken + length got
  pub within : seen ≤ length room.rest
  pub clear : ¬ Contains (take seen room.rest) 10
  pub grow : GrowTo counts later
  pub limit : room.most ≡ old.most
  pub most : room.taken ≤ old.most
  pub asked : (got ≡ []) ⊎ LastRead old.rest got

no_growth : (counts : Counts) → GrowTo counts counts
no_growth counts = record { empty = omega arith; interrupted = omega arith; failed = omega arith }

-- the front of bytes that begin no whole line
pub front_open : (front rest bytes : List ℕ) → bytes ≡ front ++ rest → IsOpen bytes → IsOpen front
front_open front rest bytes is o = (
  omega (arith, o.0, ap length is, length-append front rest),
  λ h. o.1 (subst (λ (bs : List ℕ). Contains bs 10) (sym is) (Contains-append_left front rest 10 h)),
)

-- before the first search
pub seeking_first : (room : Held) (known : Option (List ℕ)) (counts : Counts) → room.lent ≡ [] → room.taken ≤ room.most
    → IsSeeking room known known counts counts room 0
seeking_first room known counts none most = record {
  got = [];
  consumes = Consumes-nil known;
  lent = none;
  rest = sym (append-nil room.rest);
  taken = omega arith;
  within = omega arith;
  clear = λ h. omega (arith, h.1, length-take-le 0 room.rest (omega arith));
  grow = no_growth counts;
  limit = refl;
  most = most;
  asked = inl refl;
}

-- what is held where nothing is handed out
all_held : (new : Held) (bytes : List ℕ) → new.lent ≡ [] → new.rest ≡ bytes → bytes ≡ new.lent ++ new.rest
all_held new bytes none is = sym is ∙ ap (λ (bs : List ℕ). bs ++ new.rest) (sym none)

-- what is handed out where nothing is held
all_handed : (new : Held) (bytes : List ℕ) → new.lent ≡ bytes → new.rest ≡ [] → bytes ≡ new.lent ++ new.rest
all_handed new bytes is none =
    sym (append-nil bytes) ∙ ap (λ (bs : List ℕ). bytes ++ bs) (sym none) ∙ ap (λ (bs : List ℕ). bs ++ new.rest) (sym is)

-- a line in front
pub hands_line : (bytes : List ℕ) (old new : Held) (at : ℕ) → bytes ≡ old.rest → IsFeedAt bytes at → at ≤ MAX_LINE
    → new ≡ handed_out (at + 1) old → HandsFirst old (first.Line at) new
hands_line bytes old new at same f short is =
    let line : List ℕ = take at bytes in
    let size : length line ≡ at = length-take-le at bytes (omega (arith, f.0)) in
    let more : length (line ++ 10 ∷ []) ≡ at + 1 = length-append line (10 ∷ []) ∙ ap (λ (n : ℕ). n + 1) size in
    let whole : old.rest ≡ (line ++ 10 ∷ []) ++ drop (at + 1) bytes = sym same ∙ f.2 ∙ sym (append_assoc line (10 ∷ []) (drop (at + 1) bytes)) in
    let lent : take (at + 1) old.rest ≡ line ++ 10 ∷ [] = ap (take (at + 1)) whole ∙ take_at (line ++ 10 ∷ []) (drop (at + 1) bytes) (at + 1) more in
    let rest : new.rest ≡ drop (at + 1) bytes = ap (λ (r : Held). r.rest) is ∙ ap (drop (at + 1)) (sym same) in (
      line,
      sym size,
      short,
      f.1,
      sym same ∙ f.2 ∙ ap (λ (r : List ℕ). line ++ 10 ∷ r) (sym rest),
      is ∙ (λ i. record { lent = lent i; rest = sym (ap (λ (r : Held). r.rest) is) i; taken = old.taken; most = old.most }),
    )

-- ---- how a call ends

-- what was held still is
still_held : (old new : Held) → new ≡ let_go_of old → new.rest ≡ old.rest ++ []
still_held old new is = ap (λ (r : Held). r.rest) is ∙ sym (append-nil old.rest)

-- a room that can't be read further answers the same again
turn_again : (old new : Held) (known : Option (List ℕ)) (counts : Counts) (stands : Standing) (result : Result (Option (List ℕ)) LineReadFault)
    → new ≡ let_go_of old → old.taken ≤ old.most → Repeats stands result → Answers (old.rest ++ []) (standing_so stands new) result
    → (result ≡ Err Read → stands ≡ standing.Unread) → ReadsLine (standing_so stands old) known known counts counts result (standing_so stands new)
turn_again old new known counts stands result is most again answers unread = record {
  got = [];
  over = [];
  few = omega arith;
  consumes = Consumes-nil known;
  taken = ap (λ (r : Held). r.taken) is ∙ omega arith;
  kept = inl refl;
  nothing_lost = all_held new (old.rest ++ []) (ap (λ (r : Held). r.lent) is) (still_held old new is);
  asked = inl refl;
  answers = answers;
  unread = λ e. inl (unread e);
  at_end = λ e. inl (e, refl);
  limit = ap (λ (r : Held). r.most) is;
  within = omega (arith, most, ap (λ (r : Held). r.taken) is);
  again = again;
  grow = no_growth counts;
}

pub turn_ended : (old : RoomValue) (was new : Held) (known : Option (List ℕ)) (counts : Counts) (stands : Standing) → standing_so stands was ≡ old
    → new ≡ let_go_of was → IsRoom stands was → stands ≡ standing.Ended → ReadsLine old known known counts counts (Ok None) (standing_so stands new)
turn_ended old was new known counts stands view is h e =
    let none : was.rest ≡ [] = subst (λ s. Suits s was.rest) e h.suits in
    rw (← view) (turn_again was new known counts stands (Ok None) is h.looked_at (subst (λ s. Repeats s (Ok None)) (sym e) refl)
    (append-nil was.rest ∙ none, ap (λ (r : Held). r.rest) is ∙ none, ap (λ (r : Held). r.lent) is, e) (λ f. absurd (cc)))

pub turn_unread : (old : RoomValue) (was new : Held) (known : Option (List ℕ)) (counts : Counts) (stands : Standing) → standing_so stands was ≡ old
    → new ≡ let_go_of was → IsRoom stands was → stands ≡ standing.Unread → ReadsLine old known known counts counts (Err Read) (standing_so stands new)
turn_unread old was new known counts stands view is h e =
    rw (← view) (turn_again was new known counts stands (Err Read) is h.looked_at (subst (λ s. Repeats s (Err Read)) (sym e) refl)
    (subst IsOpen (sym (append-nil was.rest)) (subst (λ s. Suits s was.rest) e h.suits), ap (λ (r : Held). r.lent) is, e) (λ f. e))

pub turn_long : (old : RoomValue) (was new : Held) (known : Option (List ℕ)) (counts : Counts) (stands : Standing) → standing_so stands was ≡ old
    → new ≡ let_go_of was → IsRoom stands was → stands ≡ standing.TooLong → ReadsLine old known known counts counts (Err TooLong) (standing_so stands new)
turn_long old was new known counts stands view is h e =
    rw (← view) (turn_again was new known counts stands (Err TooLong) is h.looked_at (subst (λ s. Repeats s (Err TooLong)) (sym e) refl)
    (subst IsTooLong (sym (append-nil was.rest)) (subst (λ s. Suits s was.rest) e h.suits), ap (λ (r : Held). r.lent) is, e) (λ f. absurd (cc)))

-- how a call ends that read till here, and no byte over the limit
turn_over : (old room new : Held) (before now after : Option (List ℕ)) (counts midway later : Counts) (seen : ℕ) (stands : Standing)
    (result : Result (Option (List ℕ)) LineReadFault) (s : IsSeeking old before now counts midway room seen)
    → Consumes before after (s.got ++ []) → GrowTo counts later → new.taken ≡ room.taken → new.most ≡ room.most
    → old.rest ++ s.got ≡ new.lent ++ new.rest → Answers (old.rest ++ s.got) (standing_so stands new) result → (result ≡ Err Read → ⊥)
    → (stands ≡ standing.Ended → IsAtEnd after) → ReadsLine (standing_so standing.Reading old) before after counts later result (standing_so stands new)
turn_over old room new before now after counts midway later seen stands result s consumes grow taken limit all answers read at_end = record {
  got = s.got;
  over = [];
  few = omega arith;
  consumes = consumes;
  taken = taken ∙ s.taken;
  kept = inl refl;
  nothing_lost = all;
  asked = s.asked;
  answers = answers;
  unread = λ e. absurd (read e);
  at_end = λ e. inr (at_end e);
  limit = limit ∙ s.limit;
  within = subst (λ (k : ℕ). k ≤ old.most) (sym taken) s.most;
  again = tt;
  grow = grow;
}

-- a line was found
pub turn_line : (old room new : Held) (before now : Option (List ℕ)) (counts later : Counts) (seen n : ℕ)
    → IsSeeking old before now counts later room seen → HandsFirst room (first.Line n) new
    → ReadsLine (standing_so standing.Reading old) before now counts later (Ok (Some (take n new.lent))) (standing_so standing.Reading new)
turn_line old room new before now counts later seen n s p =
    let lent : new.lent ≡ p.0 ++ 10 ∷ [] = ap (λ (r : Held). r.lent) p.5 in
    let line : take n new.lent ≡ p.0 = ap (take n) lent ∙ take_at p.0 (10 ∷ []) n (sym p.1) in
    let short : length p.0 ≤ MAX_LINE = subst (λ (k : ℕ). k ≤ MAX_LINE) p.1 p.2 in
    rw line (turn_over old room new before now now counts later later seen standing.Reading (Ok (Some p.0)) s
    (subst (λ (bs : List ℕ). Consumes before now bs) (sym (append-nil s.got)) s.consumes) s.grow
    (ap (λ (r : Held). r.taken) p.5) (ap (λ (r : Held). r.most) p.5)
    (sym s.rest ∙ p.4 ∙ sym (append_assoc p.0 (10 ∷ []) new.rest) ∙ ap (λ (bs : List ℕ). bs ++ new.rest) (sym lent))
    (short, p.3, inl (lent, sym s.rest ∙ p.4, refl)) (λ e. absurd (cc)) (λ e. absurd (cc)))

pub turn_too_long : (old room new : Held) (before now : Option (List ℕ)) (counts later : Counts) (seen : ℕ)
    → IsSeeking old before now counts later room seen → HandsFirst room first.TooLong new
    → ReadsLine (standing_so standing.Reading old) before now counts later (Err TooLong) (standing_so standing.TooLong new)
turn_too_long old room new before now counts later seen s p =
    let lent : new.lent ≡ [] = ap (λ (r : Held). r.lent) p.1 ∙ s.lent in
    turn_over old room new before now now counts later later seen standing.TooLong (Err TooLong) s
    (subst (λ (bs : List ℕ). Consumes before now bs) (sym (append-nil s.got)) s.consumes) s.grow
    (ap (λ (r : Held). r.taken) p.1) (ap (λ (r : Held). r.most) p.1)
    (all_held new (old.rest ++ s.got) lent (ap (λ (r : Held). r.rest) p.1 ∙ s.rest))
    (subst IsTooLong s.rest p.0, lent, refl) (λ e. absurd (cc)) (λ e. absurd (cc))

-- more came
pub seeking_on : (old room opened new : Held) (before now after : Option (List ℕ)) (counts mid later : Counts) (seen n k : ℕ)
    → IsSeeking old before now counts mid room seen → HandsFirst room (first.Open n) opened
    → ReadsMore opened now after mid later (Ok k) new → IsSeeking old before after counts later new n
seeking_on old room opened new before now after counts mid later seen n k s p r =
    let came : new ≡ with_bytes room r.0 = r.5 ∙ ap (λ (v : Held). with_bytes v r.0) p.2 in
    let rest : new.rest ≡ room.rest ++ r.0 = ap (λ (v : Held). v.rest) came in
    let front : take n new.rest ≡ room.rest = ap (take n) rest ∙ take_at room.rest r.0 n (sym p.1) in
    let both : length (s.got ++ r.0) ≡ length s.got + length r.0 = length-append s.got r.0 in
    let size : length new.rest ≡ length room.rest + length r.0 = ap length rest ∙ length-append room.rest r.0 in
    let more : new.taken ≡ room.taken + length r.0 = ap (λ (v : Held). v.taken) came in
    let bounded : new.taken ≡ opened.taken + k = omega (arith, ap (λ (v : Held). v.taken) r.5, r.1) in record {
      got = s.got ++ r.0;
      consumes = Consumes-more before now after s.got r.0 s.consumes r.2;
      lent = ap (λ (v : Held). v.lent) came;
      rest = rest ∙ ap (λ (bs : List ℕ). bs ++ r.0) s.rest ∙ append_assoc old.rest s.got r.0;
      taken = omega (arith, more, both, s.taken);
      within = omega (arith, size, p.1);
      clear = subst (λ (bs : List ℕ). ¬ Contains bs 10) (sym front) p.0.1;
      grow = grows_on counts mid later s.grow r.6;
      limit = ap (λ (v : Held). v.most) came ∙ s.limit;
      most = omega (arith, bounded, r.3, ap (λ (v : Held). v.most) p.2, s.limit);
      asked = inr (record {
        earlier = s.got;
        last = r.0;
        both = refl;
        few = subst (λ (m : ℕ). m ≤ MAX_READ) r.1 r.7;
        was_open = subst IsOpen s.rest p.0;
      });
    }

-- the input can't be read further
pub turn_unreadable : (old room opened new : Held) (before now after : Option (List ℕ)) (counts midway later : Counts) (seen n : ℕ)
    → IsSeeking old before now counts midway room seen → HandsFirst room (first.Open n) opened
    → (why : RoomFault) → why ≡ fault.Read → ReadsMore opened now after midway later (Err why) new
    → ReadsLine (standing_so standing.Reading old) before after counts later (Err Read) (standing_so standing.Unread new)
turn_unreadable old room opened new before now after counts midway later seen n s p why e given =
    let r = subst (λ (f : RoomFault). ReadsMore opened now after midway later (Err f) new) e given in
    let same : new ≡ let_go_of room = r.3 ∙ ap let_go_of p.2 in
    let taken : new.taken ≡ room.taken = ap (λ (v : Held). v.taken) same in
    let there : opened.taken ≡ room.taken = ap (λ (v : Held). v.taken) p.2 in record {
      got = s.got;
      over = r.0;
      few = r.5;
      consumes = Consumes-more before now after s.got r.0 s.consumes r.1;
      taken = taken ∙ s.taken;
      kept = elim (r.2) [
        | inl w ↦ inl w.1
        | inr w ↦ inr (refl, taken ∙ sym there ∙ w.1 ∙ ap (λ (v : Held). v.most) p.2 ∙ s.limit)
      ];
      nothing_lost = all_held new (old.rest ++ s.got) (ap (λ (v : Held). v.lent) same) (ap (λ (v : Held). v.rest) same ∙ s.rest);
      asked = s.asked;
      answers = (subst IsOpen s.rest p.0, ap (λ (v : Held). v.lent) same, refl);
      unread = λ e. inr (elim (r.2) [
        | inl w ↦ inr (cut_from counts midway later s.grow w.0)
        | inr w ↦ inl w.0
      ]);
      at_end = λ e. absurd (cc);
      limit = ap (λ (v : Held). v.most) same ∙ s.limit;
      within = subst (λ (k : ℕ). k ≤ old.most) (sym taken) s.most;
      again = tt;
      grow = grows_on counts midway later s.grow r.4;
    }

-- memory ran out
pub turn_unheld : (old room opened new : Held) (before now after : Option (List ℕ)) (counts midway later : Counts) (seen n : ℕ)
    → IsSeeking old before now counts midway room seen → HandsFirst room (first.Open n) opened
    → (why : RoomFault) → why ≡ fault.NoMemory → ReadsMore opened now after midway later (Err why) new
    → ReadsLine (standing_so standing.Reading old) before after counts later (Err NoMemory) (standing_so standing.Reading new)
turn_unheld old room opened new before now after counts midway later seen n s p why e given =
    let r = subst (λ (f : RoomFault). ReadsMore opened now after midway later (Err f) new) e given in
    let same : new ≡ let_go_of room = r.1 ∙ ap let_go_of p.2 in
    let lent : new.lent ≡ [] = ap (λ (v : Held). v.lent) same in
    let rest : new.rest ≡ old.rest ++ s.got = ap (λ (v : Held). v.rest) same ∙ s.rest in
    turn_over old room new before now after counts midway later seen standing.Reading (Err NoMemory) s
    (subst (λ (bs : List ℕ). Consumes before after bs) (sym (append-nil s.got)) (Consumes-kept before now after s.got s.consumes r.0))
    (subst (λ (c : Counts). GrowTo counts c) (sym r.2) s.grow) (ap (λ (v : Held). v.taken) same) (ap (λ (v : Held). v.most) same)
    (all_held new (old.rest ++ s.got) lent rest) (rest, lent, refl, subst IsOpen s.rest p.0) (λ e. absurd (cc)) (λ e. absurd (cc))

pub empty_is : (xs : List ℕ) → length xs ≡ 0 → xs ≡ []
empty_is [] h = refl
empty_is (x ∷ xs) h = absurd (omega (arith, h))

-- Closing before after counts later got rest taken most new: at the end the room handed out all it held
record Closing (before after : Option (List ℕ)) (counts later : Counts) (got rest : List ℕ) (taken most : ℕ) (new : Held) : Type 0 where
  pub consumes : Consumes before after (got ++ [])
  pub lent : new.lent ≡ rest
  pub none : new.rest ≡ []
  pub taken_so : new.taken ≡ taken
  pub limit_so : new.most ≡ most
  pub at_end : IsAtEnd after
  pub grow : GrowTo counts later

closing : (old room opened mid new : Held) (before now after : Option (List ℕ)) (counts midway later : Counts) (seen n k : ℕ)
    (s : IsSeeking old before now counts midway room seen) → HandsFirst room (first.Open n) opened
    → ReadsMore opened now after midway later (Ok k) mid → k ≡ 0 → new ≡ handed_out n mid
    → Closing before after counts later s.got room.rest room.taken room.most new
closing old room opened mid new before now after counts midway later seen n k s p r none is =
    let nothing : r.0 ≡ [] = empty_is r.0 (sym r.1 ∙ none) in
    let came : mid ≡ with_bytes room r.0 = r.5 ∙ ap (λ (v : Held). with_bytes v r.0) p.2 in
    let rest : mid.rest ≡ room.rest = ap (λ (v : Held). v.rest) came ∙ ap (λ (bs : List ℕ). room.rest ++ bs) nothing ∙ append-nil room.rest in
    let size : length room.rest ≤ n = omega (arith, p.1) in
    let more : mid.taken ≡ room.taken + length r.0 = ap (λ (v : Held). v.taken) came in
    let zero_more : length r.0 ≡ 0 = sym r.1 ∙ none in
    let taken : mid.taken ≡ room.taken = omega (arith, more, zero_more) in record {
      consumes = subst (λ (bs : List ℕ). Consumes before after (s.got ++ bs)) nothing (Consumes-more before now after s.got r.0 s.consumes r.2);
      lent = ap (λ (v : Held). v.lent) is ∙ ap (take n) rest ∙ take_all n room.rest size;
      none = ap (λ (v : Held). v.rest) is ∙ ap (drop n) rest ∙ drop_all n room.rest size;
      taken_so = ap (λ (v : Held). v.taken) is ∙ taken;
      limit_so = ap (λ (v : Held). v.most) is ∙ ap (λ (v : Held). v.most) came;
      at_end = r.4 none;
      grow = grows_on counts midway later s.grow r.6;
    }

-- no line is left
pub turn_none : (old room opened mid new : Held) (before now after : Option (List ℕ)) (counts midway later : Counts) (seen n k : ℕ)
    → IsSeeking old before now counts midway room seen → HandsFirst room (first.Open n) opened
    → ReadsMore opened now after midway later (Ok k) mid → k ≡ 0 → new ≡ handed_out n mid → n ≡ 0
    → ReadsLine (standing_so standing.Reading old) before after counts later (Ok None) (standing_so standing.Ended new)
turn_none old room opened mid new before now after counts midway later seen n k s p r none is no_bytes =
    let e = closing old room opened mid new before now after counts midway later seen n k s p r none is in
    let empty : room.rest ≡ [] = empty_is room.rest (sym p.1 ∙ no_bytes) in
    turn_over old room new before now after counts midway later seen standing.Ended (Ok None) s e.consumes e.grow e.taken_so e.limit_so
    (sym s.rest ∙ all_handed new room.rest e.lent e.none) (sym s.rest ∙ empty, e.none, e.lent ∙ empty, refl) (λ h. absurd (cc)) (λ h. e.at_end)

-- the last line is without a line feed
pub turn_last : (old room opened mid new : Held) (before now after : Option (List ℕ)) (counts midway later : Counts) (seen n k : ℕ)
    → IsSeeking old before now counts midway room seen → HandsFirst room (first.Open n) opened
    → ReadsMore opened now after midway later (Ok k) mid → k ≡ 0 → new ≡ handed_out n mid → 0 < n
    → ReadsLine (standing_so standing.Reading old) before after counts later (Ok (Some (take n new.lent))) (standing_so standing.Ended new)
turn_last old room opened mid new before now after counts midway later seen n k s p r none is some =
    let e = closing old room opened mid new before now after counts midway later seen n k s p r none is in
    let line : take n new.lent ≡ room.rest = ap (take n) e.lent ∙ take_all n room.rest (omega (arith, p.1)) in
    let size : 0 < length room.rest = omega (arith, some, p.1) in
    rw line (turn_over old room new before now after counts midway later seen standing.Ended (Ok (Some room.rest)) s e.consumes e.grow e.taken_so e.limit_so
    (sym s.rest ∙ all_handed new room.rest e.lent e.none) (p.0.0, p.0.1, inr (e.lent, sym s.rest, size, e.none, refl))
    (λ h. absurd (cc)) (λ h. e.at_end))

-- what is held suits how the room stands then
suits_after : (old new : RoomValue) (before left : Option (List ℕ)) (counts later : Counts) (result : Result (Option (List ℕ)) LineReadFault)
    → ReadsLine old before left counts later result new → Suits new.standing new.rest
suits_after old new before left counts later (Ok None) r = subst (λ s. Suits s new.rest) (sym r.answers.3) r.answers.1
suits_after old new before left counts later (Ok (Some line)) r = elim (r.answers.2) [
  | inl w ↦ subst (λ s. Suits s new.rest) (sym w.2) tt
  | inr w ↦ subst (λ s. Suits s new.rest) (sym w.4) w.3
]
suits_after old new before left counts later (Err TooLong) r =
    subst (λ s. Suits s new.rest) (sym r.answers.2) (subst IsTooLong (r.nothing_lost ∙ ap (λ (bs : List ℕ). bs ++ new.rest) r.answers.1) r.answers.0)
suits_after old new before left counts later (Err Read) r =
    subst (λ s. Suits s new.rest) (sym r.answers.2) (subst IsOpen (r.nothing_lost ∙ ap (λ (bs : List ℕ). bs ++ new.rest) r.answers.1) r.answers.0)
suits_after old new before left counts later (Err NoMemory) r = subst (λ s. Suits s new.rest) (sym r.answers.2) tt

pub is_room : (old : RoomValue) (new : Held) (stands : Standing) (before left : Option (List ℕ)) (counts later : Counts)
    (result : Result (Option (List ℕ)) LineReadFault) → ReadsLine old before left counts later result (standing_so stands new) → IsRoom stands new
is_room old new stands before left counts later result r = record {
  suits = suits_after old (standing_so stands new) before left counts later result r;
  looked_at = omega (arith, r.within, r.limit);
}
