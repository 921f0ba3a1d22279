-- What a channel keeps of its direction, after one more segment.
use Rattle.std.proofs.Common.{ℕ, ◌≡◌, ◌+◌, ◌-◌, ◌*◌, ◌/◌, ◌%◌, ◌^◌, ◌≤◌, ◌<◌, ◌⊎◌, Bool, true, false, IsTrue, List, [], ◌∷◌, ◌++◌, inl, inr, length, take, drop, refl, sym, ap, subst, ◌∙◌, arith, append_assoc, Option, Some, None, MatchOption, Result, Ok, Err, cond, nat_eq, nat_lt}
use Rattle.std.proofs.Math.Nat.{mod-add-div', add-mul-mod_self_right}
use Rattle.std.proofs.lemmas.Bool.Decides.{nat_tests}
use Rattle.std.proofs.lemmas.List.{take-append-drop, take_rest}
use Rattle.nb_streams.specs.declared.bytes.NoMemory.{NoMemory}
use Rattle.nb_session.specs.Cutting.{ArePackets, BeginsWithNone}
use Rattle.nb_session.specs.Packet.{Packet}
use Rattle.nb_session.specs.declared.limits.TheConstants.{HEADER_LENGTH, MAX_PACKET}
use Rattle.nb_tcp.specs.Order.{StandsAt, placed}
use Rattle.nb_tcp.specs.Kept.{Kept, Orders}
use Rattle.nb_tcp.specs.Takes.{IsFull, Takes, grown, segment_of}
use Rattle.nb_tcp.specs.declared.limits.TheConstants.{LAST, START}
use Rattle.nb_tcp.specs.declared.taken.Taken.{Taken as TcpTaken}
use Rattle.nb_connections.specs.declared.channel.Channel.{Channel}
use Rattle.nb_connections.specs.declared.closing.Closed.{Closed}
use Rattle.nb_connections.specs.declared.closing.Closed.TheVariants.{Gap, BadHeader}
use Rattle.nb_connections.specs.declared.cutting.Rest.{Rest}
use Rattle.nb_connections.specs.declared.cutting.Rest.TheVariants.{Lacks}
use Rattle.nb_connections.specs.declared.taken.LeftOut.{LeftOut}
use Rattle.nb_connections.specs.declared.taken.Reason.TheVariants as why
use Rattle.nb_connections.specs.declared.taken.Taken.{Taken}
use Rattle.nb_connections.specs.Reading.{Answer, ComesAt, HandsOn, Part, Reading, Seen, started, with_segment}
use Rattle.nb_connections.specs.Course.{Course, Goes, IsMissing, State, Reads, AfterGap, AfterBadHeader, given_up, lost, passed, read, reading_at, reads_on, reason_in}
use Rattle.nb_connections.specs.Channels.{IsAnswered, IsGrown, Keeps, KeepsReading, NoRoom, kept_of, reason_of, with_one}
use Rattle.nb_connections.specs.Rests.{Closes, StandsAfter}
use Rattle.nb_connections.proofs.CutLemmas.{joined, within_packet}

-- what closed_at answers, where the state is this
abbrev pub Opens : Channel → Channel → Option Closed → Option Reading → Type 0
Opens old new result reading =
    MatchOption reading ((closed : Closed) × (result ≡ Some closed) × (old.closed ≡ Some closed) × (new ≡ old))
    (λ r. (result ≡ None) × KeepsReading new r)

same_is : (a b : ℕ) → a ≡ b → nat_eq a b ≡ true
same_is a b e = grind (arith, e)

-- ---- reading begins again where the packet ends that was awaited
restarted : (old new : Channel) (number : ℕ) (b : Bool) → b ≡ true → KeepsReading new (started number) → Opens old new None (cond b (Some (started number)) None)
restarted old new number b e keeps = subst (λ (x : Bool). Opens old new None (cond x (Some (started number)) None)) (sym e) (refl, keeps)

pub restarts : (old new : Channel) (number : ℕ) → old.closed ≡ Some (Gap (Some number)) → KeepsReading new (started number)
    → (state : State) → Keeps old state → Opens old new None (reading_at state number)
restarts old new number was keeps (Reads r) kept = let is = kept.is_open in absurd (cc)
restarts old new number was keeps (AfterGap None) kept = absurd (cc)
restarts old new number was keeps (AfterGap (Some other)) kept =
    let same : other ≡ number = cc in
    restarted old new number (nat_eq other number) (same_is other number same) keeps
restarts old new number was keeps AfterBadHeader kept = absurd (cc)

-- ---- a segment that is left out, and one that is read
reason_same : (channel : Channel) (closed : Closed) (state : State) (number : ℕ) → Keeps channel state → channel.closed ≡ Some closed
    → reading_at state number ≡ None → reason_of closed ≡ reason_in state
reason_same channel closed (Reads r) number keeps e none = absurd (cc)
reason_same channel closed (AfterGap end) number keeps e none = let same : closed ≡ Gap end = cc in ap reason_of same
reason_same channel closed AfterBadHeader number keeps e none = let same : closed ≡ BadHeader = cc in ap reason_of same

-- where nothing is read
abbrev pub passed_answer : Closed → Part → Answer
passed_answer closed part = record { packets = []; left_out = lost (reason_of closed) (length part.bytes); differs = false; fits = true }

passes_by : (old new : Channel) (direction : ℕ × List Seen) (part : Part) (closed : Closed) (state : State) (reading : Option Reading)
    → reading_at state part.number ≡ reading → Opens old new (Some closed) reading → old.first ≡ direction.0 → Course direction.0 direction.1 state
    → Keeps old state → IsGrown new (with_one direction (record { part = part; answer = passed_answer closed part }))
passes_by old new direction part closed state None at opens first course keeps =
    let reason = reason_same old closed state part.number keeps (opens.2 ∙ sym opens.1) at in
    let one : Seen = record { part = part; answer = passed_answer closed part } in
    subst (λ (ch : Channel). IsGrown ch (with_one direction one)) (sym opens.3)
    (first, state, passed direction.1 state one course at (refl, refl, ap (λ r. lost r (length part.bytes)) reason), keeps)
passes_by old new direction part closed state (Some r) at opens first course keeps = let none = opens.0 in absurd (cc)

pub passes : (old new : Channel) (direction : ℕ × List Seen) (part : Part) (closed : Closed)
    → ((state : State) → Keeps old state → Opens old new (Some closed) (reading_at state part.number)) → IsGrown old direction
    → IsGrown new (with_one direction (record { part = part; answer = passed_answer closed part }))
passes old new direction part closed opens g = passes_by old new direction part closed g.1 _ refl (opens g.1 g.3) g.0 g.2 g.3

room_more : (kept more room count : ℕ) → kept ≤ more → NoRoom kept room count → NoRoom more room count
room_more kept more room count le (inl h) = inl (omega (arith, le, h))
room_more kept more room count le (inr h) = inr (omega (arith, le, h))

pub answered_more : (kept more room count : ℕ) (answer : Answer) (r : Result Taken NoMemory) → kept ≤ more → IsAnswered kept room count answer r
    → IsAnswered more room count answer r
answered_more kept more room count answer (Ok taken) le a = (a.0, a.1, λ e. room_more kept more room count le (a.2 e))
answered_more kept more room count answer (Err e) le a = a

-- what a call of read answers
abbrev pub Answered : Channel → Channel → Part → List ℕ → ℕ → ℕ → Result Taken NoMemory → Type 0
Answered mid new part ready kept room result = (old : Reading) → KeepsReading mid old → (answer : Answer) × ArePackets answer.packets ready
    × IsAnswered kept room (length part.bytes) answer result × (after : State) × Goes old (record { part = part; answer = answer }) after × Keeps new after

follows_by : (old mid new : Channel) (direction : ℕ × List Seen) (part : Part) (ready : List ℕ) (kept more room : ℕ) (result : Result Taken NoMemory)
    (state : State) (reading : Option Reading) → reading_at state part.number ≡ reading → kept ≤ more → Opens old mid None reading
    → Answered mid new part ready kept room result → new.first ≡ direction.0 → Course direction.0 direction.1 state
    → (answer : Answer) × ArePackets answer.packets ready × IsAnswered more room (length part.bytes) answer result
    × IsGrown new (with_one direction (record { part = part; answer = answer }))
follows_by old mid new direction part ready kept more room result state None at le opens answered first course = let some = opens.1 in absurd (cc)
follows_by old mid new direction part ready kept more room result state (Some r) at le opens answered first course =
    let got = answered r opens.1 in (
      got.0,
      got.1,
      answered_more kept more room (length part.bytes) got.0 result le got.2,
      (first, got.3, read direction.1 state got.3 (record { part = part; answer = got.0 }) r course at got.4, got.5),
    )

pub follows_on : (old mid new : Channel) (direction : ℕ × List Seen) (part : Part) (ready : List ℕ) (kept more room : ℕ) (result : Result Taken NoMemory)
    → kept ≤ more → new.first ≡ old.first → ((state : State) → Keeps old state → Opens old mid None (reading_at state part.number))
    → Answered mid new part ready kept room result → IsGrown old direction
    → (answer : Answer) × ArePackets answer.packets ready × IsAnswered more room (length part.bytes) answer result
    × IsGrown new (with_one direction (record { part = part; answer = answer }))
follows_on old mid new direction part ready kept more room result le first opens answered g =
    follows_by old mid new direction part ready kept more room result g.1 _ refl le (opens g.1 g.3) answered (first ∙ g.0) g.2

-- ---- a segment is taken, whole
pub took : (channel new : Channel) (old : Reading) (part : Part) (taken : TcpTaken) → KeepsReading channel old
    → Takes channel.direction part.number part.bytes part.numbers new.direction taken → taken.refusal ≡ None → new.closed ≡ channel.closed
    → new.direction.first ≡ channel.direction.first → new.held ≡ channel.held → KeepsReading new (with_segment old taken.place part)
took channel new old part taken keeps takes whole closed first held =
    let count = takes.whole whole in
    record {
      is_open = closed ∙ keeps.is_open;
      first = first ∙ keeps.first;
      orders = subst (λ (n : ℕ). Orders START new.direction (old.segments ++ segment_of taken.place part.bytes part.numbers n ∷ []) old.out) count (takes.orders START old.segments old.out keeps.orders);
      held = ap (λ v. v.items) held ∙ keeps.held;
      front = keeps.front;
      there = keeps.there;
      exact = keeps.exact;
    }

pub comes : (channel : Channel) (old : Reading) (part : Part) (new : Kept) (taken : TcpTaken) → KeepsReading channel old
    → Takes channel.direction part.number part.bytes part.numbers new taken → channel.direction.known ≤ channel.direction.handed
    → ComesAt old taken.place part taken.differs
comes channel old part new taken keeps takes known = record {
  at = subst (λ (n : ℕ). StandsAt old.first n part.number taken.place) keeps.orders.reached
      (subst (λ (n : ℕ). StandsAt n channel.direction.handed part.number taken.place) keeps.first takes.stands);
  told = λ t. (let d = takes.differs START old.segments old.out keeps.orders t in (d.0, omega arith, d.2));
  same = λ f d. (let low = d.1 in let reached = keeps.orders.reached in
      takes.same START old.segments old.out keeps.orders f (d.0, omega (arith, low, known, reached), d.2));
}

-- ---- a segment isn't taken
abbrev pub gap_answer : Reading → Part → Bool → Bool → Answer
gap_answer old part differs fits = record { packets = []; left_out = lost why.Gap (length old.held + length part.bytes); differs = differs; fits = fits }

pub gives_up : (final : Channel) (old : Reading) (part : Part) (place : ℕ) (differs fits : Bool) → ComesAt old place part differs
    → (fits ≡ false) ⊎ (LAST < START + length old.out + 2 ^ 31 + length part.bytes) → final.closed ≡ Some (Gap None)
    → (after : State) × Goes old (record { part = part; answer = gap_answer old part differs fits }) after × Keeps final after
gives_up final old part place differs fits at none closed = (AfterGap None, given_up place at none refl refl, closed)

pub refuses : (channel : Channel) (old : Reading) (room count : ℕ) → KeepsReading channel old → IsFull channel.direction count
    → (fits : Bool) × (fits ≡ false → NoRoom (kept_of channel) room count) × ((fits ≡ false) ⊎ (LAST < START + length old.out + 2 ^ 31 + count))
refuses channel old room count keeps (inl h) = (true, λ e. absurd (cc), inr (let reached = keeps.orders.reached in omega (arith, h, reached)))
refuses channel old room count keeps (inr h) = (false, λ _. inl (omega (arith, h)), inl refl)

-- ---- what is in order is handed on
pub handed_on : (channel final : Channel) (old : Reading) (handed row : List ℕ) (end : ℕ) (packets : List Packet) → KeepsReading channel old
    → Orders START final.direction old.segments (old.out ++ handed) → placed old.segments final.direction.handed ≡ None
    → row ≡ channel.held.items ++ handed → ArePackets packets (take end row) → BeginsWithNone (drop end row) → final.closed ≡ channel.closed
    → final.direction.first ≡ channel.direction.first → final.held.items ≡ drop end row
    → (new : Reading) × HandsOn old packets new × KeepsReading final new × (new.held ≡ drop end row)
handed_on channel final old handed row end packets keeps orders missing is are behind closed first held =
    let there = joined old.packets packets keeps.front (take end row) keeps.there are in
    let exact : old.out ++ handed ≡ (keeps.front ++ take end row) ++ drop end row =
    ap (λ (x : List ℕ). x ++ handed) keeps.exact ∙ append_assoc keeps.front old.held handed
    ∙ ap (λ (x : List ℕ). keeps.front ++ (x ++ handed)) (sym keeps.held) ∙ ap (λ (x : List ℕ). keeps.front ++ x) (sym is)
    ∙ ap (λ (x : List ℕ). keeps.front ++ x) (sym (take-append-drop end row)) ∙ sym (append_assoc keeps.front (take end row) (drop end row)) in
    let new : Reading = record { first = old.first; segments = old.segments; out = old.out ++ handed; packets = old.packets ++ packets; held = drop end row } in (
      new,
      record {
        first = refl;
        segments = refl;
        front = record { each = orders.handed; end = subst (λ (n : ℕ). placed old.segments n ≡ None) orders.reached missing };
        answered = refl;
        cut = record { front = keeps.front ++ take end row; there = there; exact = exact; behind = behind };
      },
      record {
        is_open = closed ∙ keeps.is_open;
        first = first ∙ keeps.first;
        orders = orders;
        held = held;
        front = keeps.front ++ take end row;
        there = there;
        exact = exact;
      },
      refl,
    )

-- ---- what ends the reading
mod_in : (m a b : ℕ) → (a % m + b) % m ≡ (a + b) % m
mod_in m a b =
    let e : a + b ≡ (a % m + b) + a / m * m = omega (arith, mod-add-div' a m) in
    sym (ap (λ (n : ℕ). n % m) e ∙ add-mul-mod_self_right (a % m + b) (a / m) m)

ends_there : (first place number count needed end : ℕ) → (first + place) % 2 ^ 32 ≡ number → end ≡ (number + count + needed) % 2 ^ 32
    → end ≡ (first + (place + count) + needed) % 2 ^ 32
ends_there first place number count needed end stands is =
    is ∙ ap (λ (n : ℕ). (n + count + needed) % 2 ^ 32) (sym stands)
    ∙ ap (λ (n : ℕ). n % 2 ^ 32) (omega arith) ∙ mod_in (2 ^ 32) (first + place) (count + needed) ∙ ap (λ (n : ℕ). n % 2 ^ 32) (omega arith)

-- Closed by channel final: the channel is as it was, or is closed for this
abbrev pub IsClosed : Channel → Option Closed → Channel → Type 0
IsClosed channel None final = final ≡ channel
IsClosed channel (Some closed) final = final.closed ≡ Some closed

-- what is left out then, of so many bytes
abbrev pub left_by : Option Closed → ℕ → Option LeftOut
left_by None count = None
left_by (Some closed) count = lost (reason_of closed) count

-- what follows a segment that is read, with these packets
abbrev pub EndsIn : Channel → Reading → Part → List Packet → Bool → ℕ → Bool → Option Closed → Type 0
EndsIn final old part packets differs count is_full closed = (fits : Bool) × (fits ≡ false → IsTrue is_full × (count ≤ MAX_PACKET)) × (after : State)
    × Goes old (record { part = part; answer = record { packets = packets; left_out = left_by closed count; differs = differs; fits = fits } }) after
    × Keeps final after

ends_full : (final : Channel) (old new : Reading) (part : Part) (packets : List Packet) (differs : Bool) (place count needed : ℕ) (is_missing is_full : Bool)
    → ComesAt old place part differs → HandsOn (with_segment old place part) packets new → StandsAfter new.held (Lacks needed)
    → (IsTrue is_missing → IsMissing new place part) → count ≡ length new.held → final.closed ≡ Some (Gap None)
    → (IsTrue is_missing × ((count < HEADER_LENGTH) ⊎ (MAX_PACKET < needed))) ⊎ IsTrue is_full
    → EndsIn final old part packets differs count is_full (Some (Gap None))
ends_full final old new part packets differs place count needed is_missing is_full at hands after missing long is (inl (m, inl short)) = (
  true,
  λ e. absurd (cc),
  AfterGap None,
  reads_on place new (AfterGap None) at hands
      (inl (missing m, subst (λ (n : ℕ). n < HEADER_LENGTH) long short), ap (lost why.Gap) long),
  is,
)
ends_full final old new part packets differs place count needed is_missing is_full at hands after missing long is (inl (m, inr large)) =
    let most = within_packet new.held needed after in absurd (omega (arith, most, large))
ends_full final old new part packets differs place count needed is_missing is_full at hands after missing long is (inr full) =
    let most = within_packet new.held needed after in
    (false, λ _. (full, omega (arith, most, long)), AfterGap None, reads_on place new (AfterGap None) at hands (inr refl, ap (lost why.Gap) long), is)

pub ends : (channel final : Channel) (old new : Reading) (part : Part) (packets : List Packet) (differs : Bool) (place : ℕ) (rest : Rest) (count : ℕ)
    (is_missing is_full : Bool) (closed : Option Closed) → count ≡ length channel.held.items → ComesAt old place part differs
    → HandsOn (with_segment old place part) packets new → KeepsReading channel new → StandsAfter new.held rest
    → Closes rest count part.number part.bytes is_missing is_full closed
    → (IsTrue is_missing → IsTrue part.is_cut × (channel.direction.handed ≡ place + length part.bytes))
    → (is_missing ≡ false → IsTrue part.is_cut → channel.direction.handed ≡ place + length part.bytes → ⊥)
    → IsClosed channel closed final → EndsIn final old part packets differs count is_full closed
ends channel final old new part packets differs place rest count is_missing is_full None long at hands keeps after closes missing whole is = (
  true,
  λ e. absurd (cc),
  Reads new,
  reads_on place new (Reads new) at hands
      (refl, (closes.0, subst (StandsAfter new.held) closes.1 after), λ m. whole closes.2 m.0 (keeps.orders.reached ∙ m.1), refl),
  subst (λ (ch : Channel). KeepsReading ch new) (sym is) keeps,
)
ends channel final old new part packets differs place rest count is_missing is_full (Some BadHeader) long at hands keeps after closes missing whole is = (
  true,
  λ e. absurd (cc),
  AfterBadHeader,
  reads_on place new AfterBadHeader at hands
      ((closes.0, subst (StandsAfter new.held) closes.1 after), ap (lost why.BadHeader) (long ∙ ap length keeps.held)),
  is,
)
ends channel final old new part packets differs place rest count is_missing is_full (Some (Gap None)) long at hands keeps after closes missing whole is =
    ends_full final old new part packets differs place count closes.0 is_missing is_full at hands (subst (StandsAfter new.held) closes.1 after)
    (λ t. ((missing t).0, sym keeps.orders.reached ∙ (missing t).1)) (long ∙ ap length keeps.held) is closes.2
ends channel final old new part packets differs place rest count is_missing is_full (Some (Gap (Some end))) long at hands keeps after closes missing whole is =
    let needed = closes.2 in
    let there : START + length new.out ≡ place + length part.bytes = sym keeps.orders.reached ∙ (missing closes.0).1 in
    let count_is : count ≡ length new.held = long ∙ ap length keeps.held in
    let e : end ≡ (new.first + (START + length new.out) + needed) % 2 ^ 32 =
    ends_there old.first place part.number (length part.bytes) needed end at.at.number closes.4
    ∙ ap (λ (n : ℕ). (n + (place + length part.bytes) + needed) % 2 ^ 32) (sym hands.first)
    ∙ ap (λ (n : ℕ). (new.first + n + needed) % 2 ^ 32) (sym there) in (
      true,
      λ e. absurd (cc),
      AfterGap (Some end),
      reads_on place new (AfterGap (Some end)) at hands (((missing closes.0).0, there), (needed, subst (λ (n : ℕ). HEADER_LENGTH ≤ n) count_is closes.1, subst (StandsAfter new.held) closes.3 after, e), ap (lost why.Gap) count_is),
      is,
    )

-- what is put after nothing
pub held_is : (new before row : List ℕ) (end : ℕ) → new ≡ before ++ take (length row - end) (drop end row) → before ≡ [] → new ≡ drop end row
held_is new before row end e empty = e ∙ ap (λ (x : List ℕ). x ++ take (length row - end) (drop end row)) empty ∙ take_rest row end

-- ---- there is no room for what is kept
pub scarce : (room kept held charge more before count : ℕ) → IsTrue (nat_lt room kept) → kept ≡ charge + held → held ≤ MAX_PACKET → charge ≤ more
    → more ≤ grown before count → NoRoom before room count
scarce room kept held charge more before count full is most less grows =
    let over : room < kept = grind (arith, nat_tests, full) in
    inr (omega (arith, over, is, most, less, grows))
