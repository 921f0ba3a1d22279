-- A member that stands for fragments does what its events say.
use Rattle.nb_member.proofs.Common.{◌≡◌, ◌∙◌, ℕ, Bool, true, false, cond, List, [], ◌∷◌, ◌++◌, refl, sym, ap, arith, subst, inl, inr, Result, Ok, Err, cases_Bool, Key, Direct, FragmentParts, Core, IsPacket, MisplacedFirst, TooLong, Contents, table_of, Passes, join, Limits, IsFull, IsFullSource, MemberFault, Outcome, Settings, Answers, Does, IsTaken, TakesFragment, Saying, came, refused, another, limits_of, Says, Timed, HasRoom, table_from, is_full, is_source_full, live_after, MemberValue, contents, StandsOver, refusal}
use Rattle.nb_table.specs.declared.fault.TableFault.TheVariants.{FullSource, Full, NoMemory}
use Rattle.nb_table.specs.Change.{IsChange}
use Rattle.nb_member.specs.declared.outcome.Event.TheVariants.{Packet}
use Rattle.nb_member.specs.declared.outcome.MemberFault.TheVariants as fault
use Rattle.nb_member.specs.Events as saying
use Rattle.nb_member.specs.Taking as taking
use Rattle.nb_member.proofs.EventLemmas.{PacketsKnown, one_saying}
use Rattle.nb_member.proofs.MemberLemmas.LiveAfter.{full_is, source_full_is, is_full_is, is_source_full_is, is_source_room, stands_more}
use Rattle.nb_member.specs.Taking.{Takes}

-- tables of two lists, one after the other
abbrev pub TablesJoin : Type 0
TablesJoin = (L M : List Core) → table_of (L ++ M) ≡ join (table_of L) (table_of M)

-- ---- what stands where nothing changed

same_member : (m new : MemberValue) (L : List Timed) (s : Saying) (result : Result Outcome MemberFault) → new ≡ m
    → StandsOver m (live_after m.settings L s) → Answers m.settings m.names L s result → Does m L s new result
same_member m new L s result same stands answers = record {
  stands = subst (λ (x : MemberValue). StandsOver x (live_after m.settings L s)) (sym same) stands;
  settings_stay = ap (λ (x : MemberValue). x.settings) same;
  names_stay = ap (λ (x : MemberValue). x.names) same;
  answers = answers;
}

-- ---- fragments that are taken in

-- what is live after a fragment with room
live_more : (settings : Settings) (L : List Timed) (moment : ℕ) (f : FragmentParts) → is_full settings L f.key ≡ false
    → live_after settings L (came moment f) ≡ L ++ record { moment = moment; fragment = f } ∷ []
live_more settings L moment f room =
    ap (λ (b : Bool). cond b L (L ++ record { moment = moment; fragment = f } ∷ [])) room

-- and after one without
pub live_same : (settings : Settings) (L : List Timed) (moment : ℕ) (f : FragmentParts) → is_full settings L f.key ≡ true
    → live_after settings L (came moment f) ≡ L
live_same settings L moment f full =
    ap (λ (b : Bool). cond b L (L ++ record { moment = moment; fragment = f } ∷ [])) full

has_room : (m : MemberValue) (L : List Timed) (f : FragmentParts) → StandsOver m L → (IsFullSource m.timed.table.limits (contents m) f.key → ⊥)
    → (IsFull m.timed.table.limits (contents m) f.key → ⊥) → is_full m.settings L f.key ≡ false
has_room m L f s not_source not_full =
    elim (cases_Bool (is_full m.settings L f.key)) [
      | inr room ↦ room
      | inl full ↦ elim (cases_Bool (is_source_full m.settings L f.key)) [
        | inl source ↦ absurd (not_source (is_source_full_is (contents m) m.timed.table.limits m.settings L f.key s.table_is s.limits_are full source))
        | inr none ↦ absurd (not_full (is_full_is (contents m) m.timed.table.limits m.settings L f.key s.table_is s.limits_are full none))
      ]
    ]

does_taken : TablesJoin → (m : MemberValue) (L : List Timed) (moment : ℕ) (f : FragmentParts) (new : MemberValue)
    (outcome : Outcome) → StandsOver m L → IsTaken m moment f new outcome → Does m L (came moment f) new (Ok outcome)
does_taken of_two m L moment f new outcome s t =
    let room = has_room m L f s t.takes.source_room t.takes.room in
    let more = L ++ record { moment = moment; fragment = f } ∷ [] in
    let next = live_more m.settings L moment f room in
    let over : StandsOver new more =
    subst (λ (x : MemberValue). StandsOver x more) (sym t.joined) (stands_more of_two m L moment f s) in
    let stands = subst (λ (M : List Timed). StandsOver new M) (sym next) over in
    record {
      stands = stands;
      settings_stay = ap (λ (x : MemberValue). x.settings) t.joined;
      names_stay = ap (λ (x : MemberValue). x.names) t.joined;
      answers = record {
        room = room;
        change = t.change;
        changed = subst (λ (u : Contents). IsChange (table_from L) u f.key t.change) stands.table_is
            (subst (λ (u : Contents). IsChange u (contents new) f.key t.change) s.table_is t.changed);
        answered = t.answered;
      };
    }

-- ---- fragments

pub valid_is : (l : Limits) (settings : Settings) (f : FragmentParts) → l ≡ limits_of settings → Passes l f → Passes (limits_of settings) f
valid_is l settings f limits p = subst (λ (x : Limits). Passes x f) limits p

-- SaysAndDoes m L moment payload new result: what the payload says is this, and the member does it, if memory didn't run
-- out
pub record SaysAndDoes (m : MemberValue) (L : List Timed) (moment : ℕ) (payload : List ℕ) (new : MemberValue) (result : Result Outcome MemberFault) : Type 0 where
  pub said : Saying
  pub says : Says m.settings (Packet moment payload) said
  pub does : (result ≡ Err (fault.Table NoMemory) → ⊥) → Does m L said new result
  pub room : result ≡ Err (fault.Table NoMemory) → HasRoom m.settings L said

fragment_says_and_does : TablesJoin → (m : MemberValue) (L : List Timed) (moment used : ℕ) (payload : List ℕ) (f : FragmentParts)
    (new : MemberValue) (result : Result Outcome MemberFault) → IsPacket payload (Direct f) used → StandsOver m L
    → TakesFragment m moment f new result → SaysAndDoes m L moment payload new result
fragment_says_and_does of_two m L moment used payload f new (Ok outcome) p s t = record {
  said = came moment f;
  says = saying.fragment moment used payload f p (valid_is m.timed.table.limits m.settings f s.limits_are t.takes.passes);
  does = λ memory. does_taken of_two m L moment f new outcome s t;
  room = λ h. has_room m L f s t.takes.source_room t.takes.room;
}
fragment_says_and_does of_two m L moment used payload f new (Err (fault.Packet x error)) p s t = absurd t
fragment_says_and_does of_two m L moment used payload f new (Err (fault.Table MisplacedFirst)) p s t = record {
  said = refused (fault.Table MisplacedFirst);
  says = saying.misplaced moment used payload f p t.0;
  does = λ memory. same_member m new L (refused (fault.Table MisplacedFirst)) (Err (fault.Table MisplacedFirst)) t.1 s refl;
  room = λ h. tt;
}
fragment_says_and_does of_two m L moment used payload f new (Err (fault.Table TooLong)) p s t =
    let longest : m.timed.table.limits.longest ≡ m.settings.longest = ap (λ (x : Limits). x.longest) s.limits_are in
    let past = t.0.1 in
    record {
      said = refused (fault.Table TooLong);
      says = saying.too_long moment used payload f p t.0.0 (omega (arith, longest, past));
      does = λ memory. same_member m new L (refused (fault.Table TooLong)) (Err (fault.Table TooLong)) t.1 s refl;
      room = λ h. tt;
    }
fragment_says_and_does of_two m L moment used payload f new (Err (fault.Table (Full k))) p s t =
    let full = full_is (contents m) m.timed.table.limits m.settings L f.key s.table_is s.limits_are t.0.1.1 in
    let none = is_source_room (contents m) m.timed.table.limits m.settings L f.key s.table_is s.limits_are t.0.1.1.is_new t.0.1.2 in
    record {
      said = came moment f;
      says = saying.fragment moment used payload f p (valid_is m.timed.table.limits m.settings f s.limits_are t.0.0);
      does = λ memory.
          same_member m new L (came moment f) (Err (fault.Table (Full k))) t.1
          (subst (λ (M : List Timed). StandsOver m M) (sym (live_same m.settings L moment f full)) s)
          (full, ap (λ (j : Key). fault.Table (Full j)) t.0.1.0 ∙ sym (ap (λ (b : Bool). fault.Table (cond b (FullSource f.key) (Full f.key))) none));
      room = λ h. absurd (cc);
    }
fragment_says_and_does of_two m L moment used payload f new (Err (fault.Table (FullSource k))) p s t =
    let full = source_full_is (contents m) m.timed.table.limits m.settings L f.key s.table_is s.limits_are t.0.1.1 in
    record {
      said = came moment f;
      says = saying.fragment moment used payload f p (valid_is m.timed.table.limits m.settings f s.limits_are t.0.0);
      does = λ memory.
          same_member m new L (came moment f) (Err (fault.Table (FullSource k))) t.1
          (subst (λ (M : List Timed). StandsOver m M) (sym (live_same m.settings L moment f full.0)) s)
          (full.0, ap (λ (j : Key). fault.Table (FullSource j)) t.0.1.0 ∙ sym (ap (λ (b : Bool). fault.Table (cond b (FullSource f.key) (Full f.key))) full.1));
      room = λ h. absurd (cc);
    }
fragment_says_and_does of_two m L moment used payload f new (Err (fault.Table NoMemory)) p s t = record {
  said = came moment f;
  says = saying.fragment moment used payload f p (valid_is m.timed.table.limits m.settings f s.limits_are t.0.0);
  does = λ memory. absurd (memory refl);
  room = λ h. has_room m L f s t.0.1.2 t.0.1.0;
}

-- ---- payloads

pub says_and_does : TablesJoin → (m : MemberValue) (L : List Timed) (moment : ℕ) (payload : List ℕ) (new : MemberValue)
    (result : Result Outcome MemberFault) → StandsOver m L → Takes m moment payload new result
    → SaysAndDoes m L moment payload new result
says_and_does of_two m L moment payload new _ s (taking.fragment f used result p t) =
    fragment_says_and_does of_two m L moment used payload f new result p s t
says_and_does of_two m L moment payload new _ s (taking.error e used p same) = record {
  said = another;
  says = saying.error moment used payload e p;
  does = λ memory. same_member m new L another _ same s refl;
  room = λ h. tt;
}
says_and_does of_two m L moment payload new _ s (taking.query q used p same) = record {
  said = another;
  says = saying.query moment used payload q p;
  does = λ memory. same_member m new L another _ same s refl;
  room = λ h. tt;
}
says_and_does of_two m L moment payload new _ s (taking.no_packet x p same) = record {
  said = refused (fault.Packet x (refusal m.settings payload x));
  says = saying.no_packet moment payload x p;
  does = λ memory. same_member m new L (refused (fault.Packet x (refusal m.settings payload x))) _ same s refl;
  room = λ h. tt;
}

-- a member does what is said
pub does_what_is_said : PacketsKnown → TablesJoin → (m new : MemberValue) (L : List Timed) (moment : ℕ) (payload : List ℕ)
    (result : Result Outcome MemberFault) (s : Saying) → StandsOver m L → Says m.settings (Packet moment payload) s
    → Takes m moment payload new result → (result ≡ Err (fault.Table NoMemory) → ⊥) → Does m L s new result
does_what_is_said known of_two m new L moment payload result s stands says takes memory =
    let t = says_and_does of_two m L moment payload new result stands takes in
    subst (λ (x : Saying). Does m L x new result) (one_saying known m.settings (Packet moment payload) t.said s t.says says) (t.does memory)

-- memory is wanted only where there is room
pub room_where_no_memory : PacketsKnown → TablesJoin → (m new : MemberValue) (L : List Timed) (moment : ℕ) (payload : List ℕ)
    (s : Saying) → StandsOver m L → Says m.settings (Packet moment payload) s
    → Takes m moment payload new (Err (fault.Table NoMemory)) → HasRoom m.settings L s
room_where_no_memory known of_two m new L moment payload s stands says takes =
    let t = says_and_does of_two m L moment payload new (Err (fault.Table NoMemory)) stands takes in
    subst (λ (x : Saying). HasRoom m.settings L x) (one_saying known m.settings (Packet moment payload) t.said s t.says says) (t.room refl)

-- a payload that is refused changes nothing
refused_fragment : (m : MemberValue) (moment : ℕ) (f : FragmentParts) (new : MemberValue) (x : MemberFault)
    → TakesFragment m moment f new (Err x) → new ≡ m
refused_fragment m moment f new (fault.Packet x error) t = absurd t
refused_fragment m moment f new (fault.Table x) t = t.1

abbrev IsKept : MemberValue → MemberValue → Result Outcome MemberFault → Type 0
IsKept m new (Ok outcome) = Unit {0}
IsKept m new (Err x) = new ≡ m

kept_fragment : (m : MemberValue) (moment : ℕ) (f : FragmentParts) (new : MemberValue) (result : Result Outcome MemberFault)
    → TakesFragment m moment f new result → IsKept m new result
kept_fragment m moment f new (Ok outcome) t = tt
kept_fragment m moment f new (Err x) t = refused_fragment m moment f new x t

kept_by : (m : MemberValue) (moment : ℕ) (payload : List ℕ) (new : MemberValue) (result : Result Outcome MemberFault)
    → Takes m moment payload new result → IsKept m new result
kept_by m moment payload new _ (taking.fragment f used result p t) = kept_fragment m moment f new result t
kept_by m moment payload new _ (taking.error e used p same) = tt
kept_by m moment payload new _ (taking.query q used p same) = tt
kept_by m moment payload new _ (taking.no_packet x p same) = same

pub refused_keeps : (m new : MemberValue) (moment : ℕ) (payload : List ℕ) (x : MemberFault)
    → Takes m moment payload new (Err x) → new ≡ m
refused_keeps m new moment payload x t = kept_by m moment payload new (Err x) t
