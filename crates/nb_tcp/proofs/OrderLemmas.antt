-- Orders goes on.
use Rattle.std.proofs.Common.{ℕ, ◌≡◌, ◌≤◌, ◌<◌, ◌+◌, ◌^◌, ◌⊎◌, inl, inr, cond, true, false, Bool, IsTrue, List, [], ◌∷◌, ◌++◌, length, length-drop, drop, take, Option, None, Some, refl, sym, ◌∙◌, ap, subst, arith}
use Rattle.std.specs.Prelude.{max}
use Rattle.std.proofs.lemmas.Bool.{cases_lt}
use Rattle.nb_tcp.specs.Order.{Segment, StandsAt, among, or_else, is_keep_alive, sent_at, reach_after, placed_after, placed}
use Rattle.nb_tcp.specs.Runs.{in_runs, charge_of, Puts, Contradicts}
use Rattle.nb_tcp.specs.Kept.{Kept, Orders}
use Rattle.nb_tcp.specs.Takes.{Takes, Differs, grown, segment_of}
use Rattle.nb_tcp.specs.declared.taken.Refusal.{Refusal}
use Rattle.nb_tcp.specs.declared.taken.Refusal.TheVariants.{Full}
use Rattle.nb_tcp.specs.declared.limits.TheConstants.{ROOM, LAST}
use Rattle.nb_tcp.proofs.ByteLemmas.{or_else_none, or_else_assoc, some_stays, among_low, among_back, among_take, inside}

placed_append : (reach : ℕ) (segments : List Segment) (s : Segment) (i : ℕ)
    → placed_after reach (segments ++ s ∷ []) i ≡ or_else (placed_after reach segments i) (sent_at (reach_after reach segments) s i)
placed_append reach [] s i = or_else_none (sent_at reach s i)
placed_append reach (t ∷ segments) s i =
    ap (λ y. or_else (sent_at reach t i) y) (placed_append (max reach (t.place + t.numbers)) segments s i)
    ∙ sym (or_else_assoc (sent_at reach t i) (placed_after (max reach (t.place + t.numbers)) segments i)
    (sent_at (reach_after (max reach (t.place + t.numbers)) segments) s i))

reach_append : (reach : ℕ) (segments : List Segment) (s : Segment)
    → reach_after reach (segments ++ s ∷ []) ≡ max (reach_after reach segments) (s.place + s.numbers)
reach_append reach [] s = refl
reach_append reach (t ∷ segments) s = reach_append (max reach (t.place + t.numbers)) segments s

pub orders_took : (from : ℕ) (old new : Kept) (s : Segment) (segments : List Segment) (out : List ℕ) → new.handed ≡ old.handed
    → new.known ≡ old.known → new.reach ≡ max old.reach (s.place + s.numbers)
    → ((i : ℕ) → old.known ≤ i → in_runs new.runs i ≡ or_else (in_runs old.runs i) (sent_at old.reach s i))
    → Orders from old segments out → Orders from new (segments ++ s ∷ []) out
orders_took from old new s segments out same known reach put h = record {
  reached = same ∙ h.reached;
  handed = λ j lt. placed_append 0 segments s (from + j) ∙ some_stays _ _ _ (h.handed j lt);
  each = λ i le.
      let lo : old.known ≤ i = omega (arith, known) in
      put i lo ∙ (ap (λ x. or_else x (sent_at old.reach s i)) (h.each i lo)
      ∙ (ap (λ r. or_else (placed segments i) (sent_at r s i)) h.reach ∙ sym (placed_append 0 segments s i)));
  reach = reach ∙ (ap (λ r. max r (s.place + s.numbers)) h.reach ∙ sym (reach_append 0 segments s));
}

-- a segment that is no keep-alive sends what was put
pub sends : (reach place on_wire : ℕ) (payload : List ℕ) (n i : ℕ) → n ≤ length payload
    → is_keep_alive reach (segment_of place payload on_wire n) ≡ false
    → sent_at reach (segment_of place payload on_wire n) i ≡ among n place payload i
sends reach place on_wire payload n i le e =
    ap (λ b. cond b None (among (length (take n payload)) place (take n payload) i)) e ∙ among_take n place payload i le

pub sends_none : (reach place on_wire : ℕ) (payload : List ℕ) (n i : ℕ) → is_keep_alive reach (segment_of place payload on_wire n) ≡ true
    → sent_at reach (segment_of place payload on_wire n) i ≡ None
sends_none reach place on_wire payload n i e = ap (λ b. cond b None (among (length (take n payload)) place (take n payload) i)) e

same_part_by : (known place skip : ℕ) (payload : List ℕ) (count i : ℕ) → place + skip ≤ max known place → known ≤ i
    → (i < place) ⊎ (place ≤ i)
    → among count (place + skip) (drop skip payload) i ≡ among (skip + count) place payload i
same_part_by known place skip payload count i e le (inl lt) = among_low count (place + skip) (drop skip payload) i (omega arith)
    ∙ sym (among_low (skip + count) place payload i lt)
same_part_by known place skip payload count i e le (inr lo) = among_back skip count place payload i (omega (arith, e))

-- of the bytes without those before what is known, those that stand from there on
same_part : (known place skip : ℕ) (payload : List ℕ) (count i : ℕ) → place + skip ≤ max known place → known ≤ i
    → among count (place + skip) (drop skip payload) i ≡ among (skip + count) place payload i
same_part known place skip payload count i e le = same_part_by known place skip payload count i e le (cases_lt i place)

pub puts_sent : (runs new : List (ℕ × List ℕ)) (known reach place skip on_wire : ℕ) (payload : List ℕ) (count : ℕ)
    → place + skip ≤ max known place → skip + count ≤ length payload
    → is_keep_alive reach (segment_of place payload on_wire (skip + count)) ≡ false → Puts runs (place + skip) (drop skip payload) count new
    → (i : ℕ) → known ≤ i → in_runs new i ≡ or_else (in_runs runs i) (sent_at reach (segment_of place payload on_wire (skip + count)) i)
puts_sent runs new known reach place skip on_wire payload count e fits isnt put i le =
    put i ∙ ap (λ z. or_else (in_runs runs i) z) (same_part known place skip payload count i e le
    ∙ sym (sends reach place on_wire payload (skip + count) i fits isnt))

pub sends_nothing : (runs : List (ℕ × List ℕ)) (known reach place on_wire : ℕ) (payload : List ℕ) (n : ℕ)
    → is_keep_alive reach (segment_of place payload on_wire n) ≡ true
    → (i : ℕ) → known ≤ i → in_runs runs i ≡ or_else (in_runs runs i) (sent_at reach (segment_of place payload on_wire n) i)
sends_nothing runs known reach place on_wire payload n it_is i le =
    sym (ap (λ z. or_else (in_runs runs i) z) (sends_none reach place on_wire payload n i it_is) ∙ or_else_none (in_runs runs i))

-- ---- bytes that contradict what came before
differs_by : (from : ℕ) (old : Kept) (segments : List Segment) (out : List ℕ) (place skip on_wire : ℕ) (payload : List ℕ)
    → Orders from old segments out
    → is_keep_alive old.reach (segment_of place payload on_wire (length payload)) ≡ false → place + skip ≤ max old.known place
    → skip ≤ length payload → (skip < length payload → old.known ≤ place + skip)
    → (h : Contradicts old.runs (place + skip) (drop skip payload) (length (drop skip payload)))
    → (place + skip ≤ h.0) × (h.0 < place + skip + length (drop skip payload))
    → Differs segments old.known (segment_of place payload on_wire (length payload))
differs_by from old segments out place skip on_wire payload o isnt e fits at h r =
    let size : skip + length (drop skip payload) ≡ length payload = omega (arith, length-drop skip payload) in
    let le : old.known ≤ h.0 = omega (arith, r, at (omega (arith, r, size))) in
    let s : sent_at (reach_after 0 segments) (segment_of place payload on_wire (length payload)) h.0 ≡ Some h.1.1 =
    ap (λ k. sent_at k (segment_of place payload on_wire (length payload)) h.0) (sym o.reach)
    ∙ (sends old.reach place on_wire payload (length payload) h.0 (omega arith) isnt
    ∙ (ap (λ n. among n place payload h.0) (sym size)
    ∙ (sym (same_part old.known place skip payload (length (drop skip payload)) h.0 e le) ∙ h.1.3))) in
    (h.0, le, (h.1.0, h.1.1, sym (o.each h.0 le) ∙ h.1.2, s, h.1.4))

pub differs_there : (from : ℕ) (old : Kept) (segments : List Segment) (out : List ℕ) (place skip on_wire : ℕ) (payload : List ℕ)
    → Orders from old segments out
    → is_keep_alive old.reach (segment_of place payload on_wire (length payload)) ≡ false → place + skip ≤ max old.known place
    → skip ≤ length payload → (skip < length payload → old.known ≤ place + skip)
    → Contradicts old.runs (place + skip) (drop skip payload) (length (drop skip payload))
    → Differs segments old.known (segment_of place payload on_wire (length payload))
differs_there from old segments out place skip on_wire payload o isnt e fits at h =
    differs_by from old segments out place skip on_wire payload o isnt e fits at h
    (inside (length (drop skip payload)) (place + skip) (drop skip payload) h.0 h.1.1 h.1.3)

pub contradicts_there : (from : ℕ) (old : Kept) (segments : List Segment) (out : List ℕ) (place skip on_wire : ℕ) (payload : List ℕ)
    → Orders from old segments out
    → is_keep_alive old.reach (segment_of place payload on_wire (length payload)) ≡ false → place + skip ≤ max old.known place
    → skip ≤ length payload
    → Differs segments old.known (segment_of place payload on_wire (length payload))
    → Contradicts old.runs (place + skip) (drop skip payload) (length (drop skip payload))
contradicts_there from old segments out place skip on_wire payload o isnt e fits h =
    let size : skip + length (drop skip payload) ≡ length payload = omega (arith, length-drop skip payload) in
    let s : among (length (drop skip payload)) (place + skip) (drop skip payload) h.0 ≡ Some h.2.1 =
    same_part old.known place skip payload (length (drop skip payload)) h.0 e h.1
    ∙ (ap (λ n. among n place payload h.0) size ∙ (sym (sends old.reach place on_wire payload (length payload) h.0 (omega arith) isnt)
    ∙ (ap (λ k. sent_at k (segment_of place payload on_wire (length payload)) h.0) o.reach ∙ h.2.3))) in
    (h.0, (h.2.0, h.2.1, o.each h.0 h.1 ∙ h.2.2, s, h.2.4))

pub keep_alive_agrees : (from : ℕ) (old : Kept) (segments : List Segment) (out : List ℕ) (place on_wire : ℕ) (payload : List ℕ)
    → Orders from old segments out
    → is_keep_alive old.reach (segment_of place payload on_wire (length payload)) ≡ true
    → Differs segments old.known (segment_of place payload on_wire (length payload)) → ⊥
keep_alive_agrees from old segments out place on_wire payload o it_is h =
    let n : sent_at (reach_after 0 segments) (segment_of place payload on_wire (length payload)) h.0 ≡ None =
    ap (λ k. sent_at k (segment_of place payload on_wire (length payload)) h.0) (sym o.reach)
    ∙ sends_none old.reach place on_wire payload (length payload) h.0 it_is in
    let s : sent_at (reach_after 0 segments) (segment_of place payload on_wire (length payload)) h.0 ≡ Some h.2.1 = h.2.3 in
    absurd (cc)

-- ---- a segment is taken
pub alive_is : (reach place on_wire numbers : ℕ) (payload : List ℕ) (answer b : Bool)
    → answer ≡ is_keep_alive reach (record { place = place; bytes = []; numbers = numbers }) → numbers ≡ max on_wire (length payload)
    → answer ≡ b
    → is_keep_alive reach (segment_of place payload on_wire 0) ≡ b
alive_is reach place on_wire numbers payload answer b says e is_b = sym
    (ap (λ n. is_keep_alive reach (record { place = place; bytes = []; numbers = n })) e) ∙ (sym says ∙ is_b)

full_of : (place skip : ℕ) (rest payload : List ℕ) (handed charge : ℕ) → skip + length rest ≡ length payload → place < handed + 2 ^ 31
    → (LAST < place + skip + length rest) ⊎ (ROOM < grown charge (length rest))
    → (LAST < handed + 2 ^ 31 + length payload) ⊎ (ROOM < grown charge (length payload))
full_of place skip rest payload handed charge size high (inl h) = inl (omega (arith, h, size, high))
full_of place skip rest payload handed charge size high (inr h) = inr (omega (arith, h, size))

pub takes_keep_alive : (old new : Kept) (sequence place on_wire : ℕ) (payload : List ℕ) → StandsAt old.first old.handed sequence place
    → is_keep_alive old.reach (segment_of place payload on_wire 0) ≡ true
    → new.handed ≡ old.handed → new.known ≡ old.known → new.reach ≡ max old.reach (place + max on_wire (length payload))
    → new.runs ≡ old.runs
    → Takes old sequence payload on_wire new (record { place = place; count = length payload; differs = false; refusal = None })
takes_keep_alive old new sequence place on_wire payload stands it_is handed known reach runs = record {
  stands = stands;
  orders = λ from segments out h. orders_took from old new
      (segment_of place payload on_wire (length payload)) segments out handed known reach
      (λ i le. ap (λ (r : List (ℕ × List ℕ)). in_runs r i) runs
      ∙ sends_nothing old.runs old.known old.reach place on_wire payload (length payload) it_is i le) h;
  differs = λ _ _ _ _ t. absurd (cc);
  same = λ from segments out h _ d. keep_alive_agrees from old segments out place on_wire payload h it_is d;
  within = omega arith;
  whole = λ _. refl;
  full = λ e. absurd (cc);
  grows = let same = ap charge_of runs in omega (arith, same);
}

pub takes_new : (old new : Kept) (sequence place skip on_wire : ℕ) (payload rest : List ℕ) (count : ℕ) (differs : Bool)
    (refusal : Option Refusal) → StandsAt old.first old.handed sequence place
    → rest ≡ drop skip payload → place + skip ≤ max old.known place → skip ≤ length payload
    → (skip < length payload → old.known ≤ place + skip) → is_keep_alive old.reach (segment_of place payload on_wire 0) ≡ false
    → new.handed ≡ old.handed → new.known ≡ old.known → new.reach ≡ max old.reach (place + max on_wire (length payload))
    → Puts old.runs (place + skip) rest count new.runs → count ≤ length rest
    → (refusal ≡ None → count ≡ length rest)
    → (refusal ≡ Some Full → (LAST < place + skip + length rest) ⊎ (ROOM < grown (charge_of old.runs) (length rest)))
    → charge_of new.runs ≤ grown (charge_of old.runs) count
    → (IsTrue differs → Contradicts old.runs (place + skip) rest (length rest))
    → (differs ≡ false → Contradicts old.runs (place + skip) rest (length rest) → ⊥)
    → Takes old sequence payload on_wire new (record { place = place; count = skip + count; differs = differs; refusal = refusal })
takes_new old new sequence place skip on_wire payload rest count differs refusal stands e lo fits at isnt handed known reach put within whole
    full grows it_does it_does_not =
    let size : skip + length rest ≡ length payload = omega (arith, ap length e, length-drop skip payload) in
    record {
      stands = stands;
      orders = λ from segments out h. orders_took from old new
          (segment_of place payload on_wire (skip + count)) segments out handed known reach
          (puts_sent old.runs new.runs old.known old.reach place skip on_wire payload count lo (omega (arith, size, within)) isnt
          (subst (λ (r : List ℕ). Puts old.runs (place + skip) r count new.runs) e put)) h;
      differs = λ from segments out h t. differs_there from old segments out place skip on_wire payload h isnt lo fits at
          (subst (λ (r : List ℕ). Contradicts old.runs (place + skip) r (length r)) e (it_does t));
      same = λ from segments out h f d. it_does_not f
          (subst (λ (r : List ℕ). Contradicts old.runs (place + skip) r (length r)) (sym e)
          (contradicts_there from old segments out place skip on_wire payload h isnt lo fits d));
      within = omega (arith, size, within);
      whole = λ n. omega (arith, size, whole n);
      full = λ f. full_of place skip rest payload _ _ size stands.high (full f);
      grows = omega (arith, size, within, grows);
    }
