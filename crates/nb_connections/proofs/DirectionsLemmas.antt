-- What is kept of each direction, after one more segment.
use Rattle.std.proofs.Common.{ℕ, ◌≡◌, ◌+◌, ◌-◌, ◌^◌, ◌≤◌, min, arith, Bool, true, false, cond, List, [], ◌∷◌, ◌++◌, filter, length, refl, sym, ap, subst, ◌∙◌, append-nil, Option, Some, None, Result, Ok, Err, IsErrAnd}
use Rattle.std.proofs.lemmas.List.Elements.{filter-append}
use Rattle.std.proofs.lemmas.List.Sums.{fold-append}
use Rattle.std.specs.BTreeMap.{get, insert_entry, is_at}
use Rattle.std.specs.Map.{lookup, set_value}
use Rattle.std.specs.declared.cmp.Ordering.{Ordering}
use Rattle.std.specs.declared.cmp.Ordering.TheVariants.{Less, Equal, Greater}
use Rattle.std.specs.Ordering.{is_eq, match_ordering}
use Rattle.nb_streams.specs.declared.bytes.NoMemory.{NoMemory}
use Rattle.nb_session.specs.Cutting.{ArePackets, no_packet}
use Rattle.nb_connections.specs.declared.channel.Channel.{Channel}
use Rattle.nb_connections.specs.declared.connections.Connections.{Connections}
use Rattle.nb_connections.specs.declared.limits.TheConstants.{MAX_KEPT}
use Rattle.nb_connections.specs.declared.piece.Ends.{Ends}
use Rattle.nb_connections.specs.declared.taken.Taken.{Taken}
use Rattle.nb_connections.specs.Channels.{IsAnswered, IsGrown, begun_with, kept_of, with_one}
use Rattle.nb_connections.specs.Directions.{Came, Enters, IsBounded, IsKept, IsLeft, came_of, is_of, kept_by, kept_in, room_for, since, step}
use Rattle.nb_connections.specs.Ends.{ends_cmp, ends_exact, same_ends}
use Rattle.nb_connections.specs.Reading.{Answer, Part, Seen}
use Rattle.nb_connections.proofs.ChannelLemmas.{answered_more}

-- the direction with these ends
abbrev direction_of : Ends → List Came → Option (ℕ × List Seen)
direction_of ends all = since (filter (is_of ends) all)

since_by : (b : Bool) (before : List Came) (one : Came) → since (before ++ cond b (one ∷ []) []) ≡ cond b (step (since before) one) (since before)
since_by true before one = fold-append step None before (one ∷ [])
since_by false before one = ap since (append-nil before)

since_more : (ends : Ends) (all : List Came) (one : Came) → direction_of ends (all ++ one ∷ [])
    ≡ cond (is_of ends one) (step (direction_of ends all) one) (direction_of ends all)
since_more ends all one = ap since (filter-append (is_of ends) all (one ∷ [])) ∙ since_by (is_of ends one) (filter (is_of ends) all) one

-- ---- connections
abbrev pub at : Connections → Ends → Option Channel
at connections ends = get ends_cmp connections.channels ends

-- a segment that is of no direction
pub enters_left : (old new : Connections) (ends : Ends) (resets opens : Bool) (part : Part) (ready : List ℕ) (result : Result Taken NoMemory)
    → new.channels.entries ≡ old.channels.entries → new.kept ≡ old.kept → ready ≡ [] → IsLeft old ends resets opens part.bytes result
    → Enters old ends resets opens part new ready result
enters_left old new ends resets opens part ready result same kept empty left = λ all knows.
    let answer : Answer = record { packets = []; left_out = None; differs = false; fits = true } in
    let one = came_of ends opens part false answer in (
      false,
      answer,
      subst (ArePackets []) (sym empty) no_packet,
      (refl, left),
      record {
        each = λ e. subst (λ (d : Option (ℕ × List Seen)). IsKept (at new e) d) (sym (since_more e all one))
            (subst (λ (o : Option Channel). IsKept o (direction_of e all)) (sym (ap (λ es. lookup (λ q. is_at (ends_cmp e) q) es) same)) (knows.each e));
        bounded = (kept ∙ knows.bounded.0 ∙ ap kept_in (sym same), subst (λ (n : ℕ). n ≤ MAX_KEPT) (sym kept) knows.bounded.1);
      },
    )

pub left_unsaid : (P : NoMemory → Type 0) (old : Connections) (ends : Ends) (resets opens : Bool) (bytes : List ℕ) (r : Result Taken NoMemory) → IsErrAnd r P
    → IsLeft old ends resets opens bytes r
left_unsaid P old ends resets opens bytes (Ok taken) h = absurd h
left_unsaid P old ends resets opens bytes (Err e) h = tt

-- a segment that is read
known_by : (b : Bool) (ends own : Ends) (old : Option Channel) (channel : Channel) (all : List Came) (one : Came) → same_ends own ends ≡ b
    → IsKept (Some channel) (step (direction_of own all) one) → IsKept old (direction_of ends all)
    → IsKept (cond b (Some channel) old) (cond b (step (direction_of ends all) one) (direction_of ends all))
known_by true ends own old channel all one e its kept = subst (λ (x : Ends). IsKept (Some channel) (step (direction_of x all) one)) (ends_exact own ends e) its
known_by false ends own old channel all one e its kept = kept

pub enters_read : (old new : Connections) (channel : Channel) (ends : Ends) (opens : Bool) (part : Part) (ready : List ℕ) (result : Result Taken NoMemory)
    → ((e : Ends) → at new e ≡ cond (same_ends ends e) (Some channel) (at old e)) → (IsBounded old → IsBounded new)
    → ((direction : Option (ℕ × List Seen)) → IsKept (at old ends) direction → (answer : Answer) × ArePackets answer.packets ready
    × IsAnswered (kept_by (at old ends)) (room_for old ends) (length part.bytes) answer result
    × IsKept (Some channel) (step direction (came_of ends opens part true answer)))
    → Enters old ends false opens part new ready result
enters_read old new channel ends opens part ready result is bounded reads = λ all knows.
    let got = reads (direction_of ends all) (knows.each ends) in
    let one = came_of ends opens part true got.0 in (
      true,
      got.0,
      got.1,
      (refl, got.2),
      record {
        each = λ e. subst (λ (d : Option (ℕ × List Seen)). IsKept (at new e) d) (sym (since_more e all one))
            (subst (λ (o : Option Channel). IsKept o (cond (same_ends ends e) (step (direction_of e all) one) (direction_of e all))) (sym (is e))
            (known_by (same_ends ends e) e ends (at old e) channel all one refl got.3 (knows.each e)));
        bounded = bounded knows.bounded;
      },
    )

-- what a direction answers that is read
abbrev pub Reads : (ℕ × List Seen) → Channel → Part → List ℕ → ℕ → ℕ → Result Taken NoMemory → Type 0
Reads direction new part ready kept room result = (answer : Answer) × ArePackets answer.packets ready × IsAnswered kept room (length part.bytes) answer result
    × IsGrown new (with_one direction (record { part = part; answer = answer }))

pub reads_held : (was new : Channel) (ends : Ends) (opens : Bool) (part : Part) (ready : List ℕ) (kept room room' : ℕ) (result : Result Taken NoMemory)
    (old : Option Channel) → old ≡ Some was → kept ≤ kept_of was → room ≡ room'
    → ((direction : ℕ × List Seen) → IsGrown was direction → Reads (begun_with direction opens part.number) new part ready kept room result)
    → (direction : Option (ℕ × List Seen)) → IsKept old direction → (answer : Answer) × ArePackets answer.packets ready
    × IsAnswered (kept_by old) room' (length part.bytes) answer result × IsKept (Some new) (step direction (came_of ends opens part true answer))
reads_held was new ends opens part ready kept room room' result old e le same reads None kept_none = absurd (subst (λ (o : Option Channel). IsKept o None) e kept_none)
reads_held was new ends opens part ready kept room room' result old e le same reads (Some direction) follows =
    let got = reads direction (subst (λ (o : Option Channel). IsKept o (Some direction)) e follows) in (
      got.0,
      got.1,
      subst (λ (n : ℕ). IsAnswered n room' (length part.bytes) got.0 result) (sym (ap kept_by e))
          (subst (λ (n : ℕ). IsAnswered (kept_of was) n (length part.bytes) got.0 result) same (answered_more kept (kept_of was) room (length part.bytes) got.0 result le got.2)),
      got.3,
    )

pub reads_new : (new : Channel) (ends : Ends) (opens : Bool) (part : Part) (ready : List ℕ) (kept room room' : ℕ) (result : Result Taken NoMemory)
    (old : Option Channel) → old ≡ None → kept ≡ 0 → room ≡ room' → Reads (part.number, []) new part ready kept room result
    → (direction : Option (ℕ × List Seen)) → IsKept old direction → (answer : Answer) × ArePackets answer.packets ready
    × IsAnswered (kept_by old) room' (length part.bytes) answer result × IsKept (Some new) (step direction (came_of ends opens part true answer))
reads_new new ends opens part ready kept room room' result old e empty same got None none = (
  got.0,
  got.1,
  subst (λ (n : ℕ). IsAnswered n room' (length part.bytes) got.0 result) (empty ∙ sym (ap kept_by e))
      (subst (λ (n : ℕ). IsAnswered kept n (length part.bytes) got.0 result) same got.2),
  got.3,
)
reads_new new ends opens part ready kept room room' result old e empty same got (Some direction) follows =
    absurd (subst (λ (o : Option Channel). IsKept o (Some direction)) e follows)

-- ---- how much is kept

-- KeptApart entries was new others: all but one channel keep so much, and with another in its place they keep this
pub record KeptApart (entries : List (Ends × Channel)) (was new : Channel) (others : List (Ends × Channel)) : Type 0 where
  pub rest : ℕ
  pub before : kept_in entries ≡ rest + kept_of was
  pub after : kept_in others ≡ rest + kept_of new

swapped : (s a b : ℕ) → a ≡ b → a + s ≡ s + b
swapped s a b e = omega (arith, e)

set_further : (rest s n k : ℕ) → s ≡ rest + k → n + s ≡ (n + rest) + k
set_further rest s n k e = omega (arith, e)

kept_set_by : (b : Bool) (test : Ends → Bool) (x : Ends × Channel) (entries : List (Ends × Channel)) (was new : Channel)
    → cond b (Some x.1) (lookup test entries) ≡ Some was
    → (lookup test entries ≡ Some was → KeptApart entries was new (set_value test entries new))
    → KeptApart (x ∷ entries) was new (cond b ((x.0, new) ∷ entries) (x ∷ set_value test entries new))
kept_set_by true test x entries was new e rec =
    let same : x.1 ≡ was = cc in
    record { rest = kept_in entries; before = swapped (kept_in entries) (kept_of x.1) (kept_of was) (ap kept_of same); after = swapped (kept_in entries) (kept_of new) (kept_of new) refl }
kept_set_by false test x entries was new e rec =
    let r = rec e in
    record {
      rest = kept_of x.1 + r.rest;
      before = set_further r.rest (kept_in entries) (kept_of x.1) (kept_of was) r.before;
      after = set_further r.rest (kept_in (set_value test entries new)) (kept_of x.1) (kept_of new) r.after;
    }

pub kept_set : (test : Ends → Bool) (entries : List (Ends × Channel)) (was new : Channel) → lookup test entries ≡ Some was
    → KeptApart entries was new (set_value test entries new)
kept_set test [] was new e = absurd (cc)
kept_set test (x ∷ entries) was new e = kept_set_by (test x.0) test x entries was new e (kept_set test entries was new)

kept_inserted_by : (o : Ordering) (x : Ends × Channel) (entries : List (Ends × Channel)) (ends : Ends) (new : Channel)
    → cond (is_eq o) (Some x.1) (lookup (λ q. is_at (ends_cmp ends) q) entries) ≡ None
    → (lookup (λ q. is_at (ends_cmp ends) q) entries ≡ None → kept_in (insert_entry ends_cmp entries ends new) ≡ kept_in entries + kept_of new)
    → kept_in (match_ordering o ((ends, new) ∷ x ∷ entries) ((x.0, new) ∷ entries) (x ∷ insert_entry ends_cmp entries ends new)) ≡ kept_in (x ∷ entries) + kept_of new
kept_inserted_by Less x entries ends new e rec = swapped (kept_of x.1 + kept_in entries) (kept_of new) (kept_of new) refl
kept_inserted_by Equal x entries ends new e rec = absurd (cc)
kept_inserted_by Greater x entries ends new e rec =
    set_further (kept_in entries) (kept_in (insert_entry ends_cmp entries ends new)) (kept_of x.1) (kept_of new) (rec e)

pub kept_inserted : (entries : List (Ends × Channel)) (ends : Ends) (new : Channel) → lookup (λ q. is_at (ends_cmp ends) q) entries ≡ None
    → kept_in (insert_entry ends_cmp entries ends new) ≡ kept_in entries + kept_of new
kept_inserted [] ends new e = swapped 0 (kept_of new) (kept_of new) refl
kept_inserted (x ∷ entries) ends new e = kept_inserted_by (ends_cmp ends x.0) x entries ends new e (kept_inserted entries ends new)

-- what a channel keeps in place of what it kept, where there is room for it
pub bounded_in : (total was new rest others room result : ℕ) → total ≡ rest + was → total ≤ MAX_KEPT → others ≡ total - was
    → room ≡ MAX_KEPT - others → (was ≤ room → new ≤ room) → result ≡ min (others + new) (2 ^ 64 - 1)
    → (result ≡ rest + new) × (result ≤ MAX_KEPT)
bounded_in total was new rest others room result e most o r fits is =
    let same : others ≡ rest = omega (arith, e, o) in
    let fit : was ≤ room = omega (arith, e, most, o, r) in
    let n = fits fit in
    (omega (arith, same, n, r, is, most, e), omega (arith, same, n, r, is, most, e))

pub bounded_new : (total kept empty new room result : ℕ) → kept ≡ total → total ≤ MAX_KEPT → room ≡ MAX_KEPT - total → empty ≡ 0
    → (empty ≤ room → new ≤ room) → result ≡ min (kept + new) (2 ^ 64 - 1) → (result ≡ total + new) × (result ≤ MAX_KEPT)
bounded_new total kept empty new room result e most r z fits is =
    let n = fits (omega (arith, z)) in
    (omega (arith, e, n, r, is, most), omega (arith, e, n, r, is, most))
