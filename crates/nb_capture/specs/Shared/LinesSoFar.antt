-- Lemmas on the lines of an input that are read one after another, for proofs here and in the crates above.
use Rattle.std.proofs.Common.{◌≡◌, ◌≢◌, ◌⊎◌, ◌<◌, ◌≤◌, ◌+◌, ◌++◌, ◌∷◌, ℕ, zero, List, [], take, drop, length, Option, Some, None, Result, Ok, Err, Bor, refl, sym, ◌∙◌, ap, subst, inl, inr, append_assoc, arith}
use Rattle.std.specs.Prelude.{Contains}
use Rattle.std.specs.Io.KnownBytes.{Consumes, IsAtEnd}
use Rattle.std.proofs.lemmas.Bool.{cases_lt}
use Rattle.std.proofs.lemmas.List.{append-nil, length-append, take-append-drop, take-take, take_all, take_at}
use Rattle.std.proofs.lemmas.List.Elements.{Contains-append_left, Contains-append_right}
use Rattle.nb_streams.specs.Counted.{Counts}
use Rattle.nb_streams.specs.Devices.{GrowTo, ShowsUnread}
use Rattle.nb_streams.specs.DeviceFacts.{Consumes-more, Consumes-nil, grows_on, cut_from}
use Rattle.nb_streams.specs.LineFacts.{any_cut}
use Rattle.nb_streams.specs.Lines.{IsLine, CutInto, rest, line, with_rest}
use Rattle.nb_capture.specs.declared.limits.TheConstants.{MAX_LINE}
use Rattle.nb_capture.specs.declared.fault.LineReadFault.{LineReadFault}
use Rattle.nb_capture.specs.declared.fault.LineReadFault.TheVariants.{Read}
use Rattle.nb_capture.specs.declared.line_room.Standing.{Standing}
use Rattle.nb_capture.specs.declared.line_room.Standing.TheVariants as standing
use Rattle.nb_capture.specs.Capture.{IsMalformed}
use Rattle.nb_capture.specs.LineReading.{RoomValue, IsTooLong, nothing_within, ReadsLine, Repeats, lent_line}

-- ---- what is handed out

-- HandedOut most first now counts later room lines last: these lines came, each with its line feed, and after them
-- the last line of the input, where that lacks one; all of them were handed out, and the room, of an input of so many
-- bytes at most, holds what else came
pub record HandedOut (most : ℕ) (first now : Option (List ℕ)) (counts later : Counts) (room : RoomValue) (lines : List (List ℕ)) (last : List ℕ) : Type 0 where
  pub passed : List ℕ
  pub cut : CutInto passed lines last
  pub consumes : Consumes first now (passed ++ room.rest)
  pub taken : room.taken ≡ length (passed ++ room.rest)
  pub limit : room.most ≡ most
  pub within : room.taken ≤ most
  pub grow : GrowTo counts later
  pub stands : ((room.standing ≡ standing.Reading) × (last ≡ [])) ⊎ ((room.standing ≡ standing.Ended) × (room.rest ≡ []) × IsAtEnd now)

no_bytes_clear : IsLine []
no_bytes_clear h = omega (arith, h.1)

-- before the first line
pub nothing_handed : (most : ℕ) (known : Option (List ℕ)) (counts : Counts) (room : RoomValue) → room ≡ nothing_within most
    → HandedOut most known known counts counts room [] []
nothing_handed most known counts room is = rw is (record {
  passed = [];
  cut = rest [] no_bytes_clear;
  consumes = Consumes-nil known;
  taken = refl;
  limit = refl;
  within = omega arith;
  grow = record { empty = omega arith; interrupted = omega arith; failed = omega arith };
  stands = inl (refl, refl);
})

-- lines, and then what follows them
pub cut_both : (front after : List ℕ) (lines more : List (List ℕ)) (left last : List ℕ) → left ≡ [] → CutInto front lines left
    → CutInto after more last → CutInto (front ++ after) (lines ++ more) last
cut_both _ after _ more _ last empty (rest left clear) c = rw empty c
cut_both _ after _ more _ last empty (line l bytes left lines clear d) c =
    subst (λ (bs : List ℕ). CutInto bs (l ∷ (lines ++ more)) last) (sym (append_assoc l (10 ∷ bytes) after))
    (line l (bytes ++ after) last (lines ++ more) clear (cut_both bytes after lines more left last empty d c))

pub with_rest_some : (lines : List (List ℕ)) (last : List ℕ) → 0 < length last → with_rest lines last ≡ lines ++ last ∷ []
with_rest_some lines [] some = absurd (omega (arith, some))
with_rest_some lines (b ∷ last) some = refl

-- ---- one call more

-- Came most first next counts after lines held over taken: after the bytes of these lines came those that a call
-- held, and those over the limit
pub record Came (most : ℕ) (first next : Option (List ℕ)) (counts after : Counts) (lines : List (List ℕ)) (held over : List ℕ) (taken : ℕ) : Type 0 where
  pub passed : List ℕ
  pub cut : CutInto passed lines []
  pub consumes : Consumes first next ((passed ++ held) ++ over)
  pub taken_is : taken ≡ length (passed ++ held)
  pub within : taken ≤ most
  pub grow : GrowTo counts after

-- the answer by what was found
pub of_result : {X : Type 0} (old new : RoomValue) (before left : Option (List ℕ)) (counts later : Counts)
    (make : X → Result (Option (Bor (List ℕ))) LineReadFault) (result : Result (Option (Bor (List ℕ))) LineReadFault) (found x : X)
    → result ≡ make found → found ≡ x → ReadsLine old before left counts later (lent_line result) new
    → ReadsLine old before left counts later (lent_line (make x)) new
of_result old new before left counts later make result found x is found_is r =
    subst (λ (y : Result (Option (Bor (List ℕ))) LineReadFault). ReadsLine old before left counts later (lent_line y) new) (is ∙ ap make found_is) r

-- a room that answers no end can read on
pub was_reading : (most : ℕ) (first now : Option (List ℕ)) (counts later : Counts) (room : RoomValue) (lines : List (List ℕ)) (last : List ℕ)
    (result : Result (Option (List ℕ)) LineReadFault) → HandedOut most first now counts later room lines last
    → Repeats room.standing result → result ≢ Ok None → (room.standing ≡ standing.Reading) × (last ≡ [])
was_reading most first now counts later room lines last result h again differs =
    elim (h.stands) [
      | inl reading ↦ reading
      | inr ended ↦ absurd (differs (subst (λ (s : Standing). Repeats s result) ended.0 again))
    ]

pub came : (most : ℕ) (first now next : Option (List ℕ)) (counts later after : Counts) (room new : RoomValue) (lines : List (List ℕ)) (last : List ℕ)
    (result : Result (Option (List ℕ)) LineReadFault) → HandedOut most first now counts later room lines last → last ≡ []
    → (r : ReadsLine room now next later after result new)
    → Came most first next counts after lines (room.rest ++ r.got) r.over new.taken
came most first now next counts later after room new lines last result h empty r =
    let all = Consumes-more first now next (h.passed ++ room.rest) (r.got ++ r.over) h.consumes r.consumes in
    let parts : (h.passed ++ room.rest) ++ r.got ≡ h.passed ++ (room.rest ++ r.got) = append_assoc h.passed room.rest r.got in
    let size : length ((h.passed ++ room.rest) ++ r.got) ≡ length (h.passed ++ room.rest) + length r.got =
    length-append (h.passed ++ room.rest) r.got in
    let sum : new.taken ≡ length ((h.passed ++ room.rest) ++ r.got) = omega (arith, r.taken, h.taken, size) in record {
      passed = h.passed;
      cut = subst (λ (bs : List ℕ). CutInto h.passed lines bs) empty h.cut;
      consumes = subst (λ (bs : List ℕ). Consumes first next bs)
          (sym (append_assoc (h.passed ++ room.rest) r.got r.over) ∙ ap (λ (bs : List ℕ). bs ++ r.over) parts) all;
      taken_is = sum ∙ ap length parts;
      within = omega (arith, r.within, h.limit);
      grow = grows_on counts later after h.grow r.grow;
    }

-- the bytes kept are those that are looked at
pub kept_are : (most : ℕ) (first next : Option (List ℕ)) (counts after : Counts) (lines : List (List ℕ)) (held over : List ℕ) (taken : ℕ)
    (c : Came most first next counts after lines held over taken) → (over ≡ []) ⊎ (taken ≡ most)
    → take most ((c.passed ++ held) ++ over) ≡ c.passed ++ held
kept_are most first next counts after lines held over taken c (inl none) =
    let within : length (c.passed ++ held) ≤ most = omega (arith, c.within, c.taken_is) in
    ap (λ (bs : List ℕ). take most ((c.passed ++ held) ++ bs)) none
    ∙ ap (take most) (append-nil (c.passed ++ held)) ∙ take_all most (c.passed ++ held) within
kept_are most first next counts after lines held over taken c (inr full) =
    take_at (c.passed ++ held) over most (sym c.taken_is ∙ full)

-- no byte is over the limit but where the input can't be read
pub none_over : (old : RoomValue) (before left : Option (List ℕ)) (counts later : Counts)
    (result : Result (Option (List ℕ)) LineReadFault) (new : RoomValue) (r : ReadsLine old before left counts later result new)
    → result ≢ Err Read → r.over ≡ []
none_over old before left counts later result new r differs =
    elim (r.kept) [
      | inl none ↦ none
      | inr over ↦ absurd (differs over.0)
    ]

-- ---- a line

-- OneMore most first next counts after room acted l: this line was handed out too, after those
pub record OneMore (most : ℕ) (first next : Option (List ℕ)) (counts after : Counts) (room : RoomValue) (acted : List (List ℕ)) (l : List ℕ) : Type 0 where
  pub lines : List (List ℕ)
  pub last : List ℕ
  pub handed : HandedOut most first next counts after room lines last
  pub are : with_rest lines last ≡ acted ++ l ∷ []

-- ends with a line feed
more_finished : (most : ℕ) (first next : Option (List ℕ)) (counts after : Counts) (new : RoomValue) (lines : List (List ℕ)) (held over l : List ℕ)
    → new.most ≡ most → Came most first next counts after lines held over new.taken → over ≡ [] → IsLine l → held ≡ l ++ 10 ∷ new.rest
    → new.standing ≡ standing.Reading → OneMore most first next counts after new lines l
more_finished most first next counts after new lines held over l limit c none clear parts reading =
    let same : (c.passed ++ held) ≡ (c.passed ++ (l ++ 10 ∷ [])) ++ new.rest =
    ap (λ (bs : List ℕ). c.passed ++ bs) (parts ∙ sym (append_assoc l (10 ∷ []) new.rest)) ∙ sym (append_assoc c.passed (l ++ 10 ∷ []) new.rest) in record {
      lines = lines ++ l ∷ [];
      last = [];
      handed = record {
        passed = c.passed ++ (l ++ 10 ∷ []);
        cut = cut_both c.passed (l ++ 10 ∷ []) lines (l ∷ []) [] [] refl c.cut (line l [] [] [] clear (rest [] no_bytes_clear));
        consumes = subst (λ (bs : List ℕ). Consumes first next bs)
            (ap (λ (bs : List ℕ). (c.passed ++ held) ++ bs) none ∙ append-nil (c.passed ++ held) ∙ same) c.consumes;
        taken = c.taken_is ∙ ap length same;
        limit = limit;
        within = c.within;
        grow = c.grow;
        stands = inl (reading, refl);
      };
      are = refl;
    }

-- ends with the input
more_last : (most : ℕ) (first next : Option (List ℕ)) (counts after : Counts) (new : RoomValue) (lines : List (List ℕ)) (held over l : List ℕ)
    → new.most ≡ most → Came most first next counts after lines held over new.taken → over ≡ [] → IsLine l → held ≡ l → 0 < length l → new.rest ≡ []
    → new.standing ≡ standing.Ended → IsAtEnd next → OneMore most first next counts after new lines l
more_last most first next counts after new lines held over l limit c none clear is some empty ended at_end =
    let same : (c.passed ++ held) ≡ (c.passed ++ l) ++ new.rest =
    ap (λ (bs : List ℕ). c.passed ++ bs) is ∙ sym (append-nil (c.passed ++ l)) ∙ ap (λ (bs : List ℕ). (c.passed ++ l) ++ bs) (sym empty) in record {
      lines = lines;
      last = l;
      handed = record {
        passed = c.passed ++ l;
        cut = subst (λ (ls : List (List ℕ)). CutInto (c.passed ++ l) ls l) (append-nil lines)
            (cut_both c.passed l lines [] [] l refl c.cut (rest l clear));
        consumes = subst (λ (bs : List ℕ). Consumes first next bs)
            (ap (λ (bs : List ℕ). (c.passed ++ held) ++ bs) none ∙ append-nil (c.passed ++ held) ∙ same) c.consumes;
        taken = c.taken_is ∙ ap length same;
        limit = limit;
        within = c.within;
        grow = c.grow;
        stands = inr (ended, empty, at_end);
      };
      are = with_rest_some lines l some;
    }

pub handed_more : (most : ℕ) (first now next : Option (List ℕ)) (counts later after : Counts) (room new : RoomValue) (lines : List (List ℕ)) (last l : List ℕ)
    → HandedOut most first now counts later room lines last → ReadsLine room now next later after (Ok (Some l)) new
    → OneMore most first next counts after new (with_rest lines last) l
handed_more most first now next counts later after room new lines last l h r =
    let was = was_reading most first now counts later room lines last (Ok (Some l)) h r.again (λ e. absurd (cc e)) in
    let c = came most first now next counts later after room new lines last (Ok (Some l)) h was.1 r in
    let none = none_over room now next later after (Ok (Some l)) new r (λ e. absurd (cc e)) in
    let all : lines ≡ with_rest lines last = ap (with_rest lines) (sym was.1) in
    subst (λ (ls : List (List ℕ)). OneMore most first next counts after new ls l) all
    (elim (r.answers.2) [
      | inl a ↦ more_finished most first next counts after new lines (room.rest ++ r.got) r.over l (r.limit ∙ h.limit) c none r.answers.1 a.1 a.2
      | inr a ↦ more_last most first next counts after new lines (room.rest ++ r.got) r.over l (r.limit ∙ h.limit) c none r.answers.1 a.1 a.2 a.3 a.4
          (elim (r.at_end a.4) [
            | inl e ↦ absurd (cc (was.0, e.0))
            | inr e ↦ e
          ])
    ])

-- each line takes bytes of the input
pub bytes_less : (old new : RoomValue) (before left : Option (List ℕ)) (counts later : Counts) (l : List ℕ)
    → ReadsLine old before left counts later (Ok (Some l)) new
    → old.taken + length new.rest < new.taken + length old.rest
bytes_less old new before left counts later l r =
    let size : length (old.rest ++ r.got) ≡ length old.rest + length r.got = length-append old.rest r.got in
    elim (r.answers.2) [
      | inl a ↦ omega (arith, r.taken, size, ap length a.1, length-append l (10 ∷ new.rest))
      | inr a ↦ omega (arith, r.taken, size, ap length a.1, a.2, ap length a.3)
    ]

-- ---- the end

both_empty : (xs ys : List ℕ) → xs ++ ys ≡ [] → (xs ≡ []) × (ys ≡ [])
both_empty [] ys h = (refl, h)
both_empty (x ∷ xs) ys h = absurd (cc h)

-- AllHandedOut most first left lines last: the whole input came, and these are its lines
pub record AllHandedOut (most : ℕ) (first left : Option (List ℕ)) (lines : List (List ℕ)) (last : List ℕ) : Type 0 where
  pub bytes : List ℕ
  pub cut : CutInto bytes lines last
  pub consumes : Consumes first left bytes
  pub at_end : IsAtEnd left
  pub within : length bytes ≤ most

pub handed_all : (most : ℕ) (first now left : Option (List ℕ)) (counts later after : Counts) (room new : RoomValue) (lines : List (List ℕ)) (last : List ℕ)
    → HandedOut most first now counts later room lines last → ReadsLine room now left later after (Ok None) new
    → AllHandedOut most first left lines last
handed_all most first now left counts later after room new lines last h r =
    let empty = both_empty room.rest r.got r.answers.0 in
    let none = none_over room now left later after (Ok None) new r (λ e. absurd (cc e)) in
    let all = Consumes-more first now left (h.passed ++ room.rest) (r.got ++ r.over) h.consumes r.consumes in
    let front : h.passed ++ room.rest ≡ h.passed = ap (λ (bs : List ℕ). h.passed ++ bs) empty.0 ∙ append-nil h.passed in
    let more : r.got ++ r.over ≡ [] = ap (λ (bs : List ℕ). bs ++ r.over) empty.1 ∙ none in record {
      bytes = h.passed;
      cut = h.cut;
      consumes = subst (λ (bs : List ℕ). Consumes first left bs)
          (ap (λ (bs : List ℕ). (h.passed ++ room.rest) ++ bs) more ∙ append-nil (h.passed ++ room.rest) ∙ front) all;
      at_end = elim (r.at_end r.answers.3) [
        | inl was ↦ elim (h.stands) [
          | inl reading ↦ absurd (cc (reading.0, was.0))
          | inr ended ↦ subst IsAtEnd (sym was.1) ended.2
        ]
        | inr e ↦ e
      ];
      within = omega (arith, h.within, h.taken, ap length front);
    }

-- ---- an input that can't be read

-- bytes over the limit came, or a read failed
pub shows_unread : (most : ℕ) (first now left : Option (List ℕ)) (counts later after : Counts) (room new : RoomValue) (lines : List (List ℕ)) (last : List ℕ)
    (h : HandedOut most first now counts later room lines last) → (r : ReadsLine room now left later after (Err Read) new)
    → (c : Came most first left counts after lines (room.rest ++ r.got) r.over new.taken) → room.standing ≡ standing.Reading
    → ShowsUnread most ((c.passed ++ (room.rest ++ r.got)) ++ r.over) counts after
shows_unread most first now left counts later after room new lines last h r c reading =
    let size : length ((c.passed ++ (room.rest ++ r.got)) ++ r.over) ≡ length (c.passed ++ (room.rest ++ r.got)) + length r.over =
    length-append (c.passed ++ (room.rest ++ r.got)) r.over in
    elim (r.unread refl) [
      | inl was ↦ absurd (cc (reading, was))
      | inr why ↦ elim (why) [
        | inl some ↦ elim (r.kept) [
          | inl none ↦ absurd (omega (arith, some, ap length none))
          | inr full ↦ inl (omega (arith, size, some, full.1, h.limit, c.taken_is))
        ]
        | inr failed ↦ inr (cut_from counts later after h.grow failed)
      ]
    ]

-- ---- a line that is too long

-- a line of more bytes than one may have is malformed
pub long_line : (l : List ℕ) → MAX_LINE < length l → IsMalformed l
long_line l long = record {
  not_blank = λ h. omega (arith, h.length, long);
  no_value = λ value h. omega (arith, h.length, long);
}

feed_within : (l after : List ℕ) → length l ≤ MAX_LINE → Contains (take (MAX_LINE + 1) (l ++ 10 ∷ after)) 10
feed_within l after short =
    let front : take (length l + 1) (l ++ 10 ∷ after) ≡ l ++ 10 ∷ [] =
    ap (take (length l + 1)) (sym (append_assoc l (10 ∷ []) after)) ∙ take_at (l ++ 10 ∷ []) after (length l + 1) (length-append l (10 ∷ [])) in
    let part : take (length l + 1) (take (MAX_LINE + 1) (l ++ 10 ∷ after)) ≡ l ++ 10 ∷ [] =
    take-take (length l + 1) (MAX_LINE + 1) (l ++ 10 ∷ after) (omega (arith, short)) ∙ front in
    subst (λ (bs : List ℕ). Contains bs 10) (take-append-drop (length l + 1) (take (MAX_LINE + 1) (l ++ 10 ∷ after)))
    (Contains-append_left (take (length l + 1) (take (MAX_LINE + 1) (l ++ 10 ∷ after))) (drop (length l + 1) (take (MAX_LINE + 1) (l ++ 10 ∷ after))) 10
    (subst (λ (bs : List ℕ). Contains bs 10) (sym part) (Contains-append_right l (10 ∷ []) 10 (zero, omega arith, refl))))

-- LongFirst held: the bytes held begin with a line that is too long, with its line feed or without one
pub data LongFirst : List ℕ → Type 0 where
  open_end : (held : List ℕ) → IsLine held → MAX_LINE < length held → LongFirst held
  with_feed : (l after : List ℕ) → IsLine l → MAX_LINE < length l → LongFirst (l ++ 10 ∷ after)

long_of_cut : (held last : List ℕ) (lines : List (List ℕ)) → CutInto held lines last → IsTooLong held → LongFirst held
long_of_cut _ _ _ (rest held clear) long = open_end held clear long.0
long_of_cut _ _ _ (line l after last lines clear c) long = with_feed l after clear (elim (cases_lt MAX_LINE (length l)) [
  | inl far ↦ far
  | inr short ↦ absurd (long.1 (feed_within l after short))
])

pub long_first : (held : List ℕ) → IsTooLong held → LongFirst held
long_first held long = let c = any_cut held in long_of_cut held c.left c.lines c.cut long
