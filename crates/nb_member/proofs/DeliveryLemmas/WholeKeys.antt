-- What becomes whole, and that it does so once.
use Rattle.nb_member.proofs.Common.{◌≡◌, ◌↔◌, Bool, true, false, cond, List, [], ◌∷◌, ◌++◌, length, get_or, option_and_then, Option, Some, None, refl, sym, ap, ◌∙◌, subst, ap₂, filter, option_to_list, filter-append, NetbiosName, Key, same_key, same_key_decides, Core, core_of, DatagramParts, joined_at, Held, EntryFacts, EntryValue, join_entry, facts_agree, facts_together, facts_of, at-none, Contents, table_of, datagram_at, newly_whole, join, get-join, get-table_of-one, get-table_of, Settings, Saying, came, refused, another, clock, Timed, cores, table_from, is_full, live_after, live_from, live, DropsNone, NoneDropped, of_key, heard, hears, made_by, made, deliveries}
use Rattle.std.proofs.lemmas.Option.{none-some, slice_get-get_or}
use Rattle.nb_entries.specs.declared.slot.Slot.TheVariants.{Spoilt}
use Rattle.nb_entries.specs.Whole.{IsDatagram, datagram_of, newly}
use Rattle.nb_entries.specs.Shared.MarksLemmas.{first_left}
use Rattle.nb_entries.specs.Shared.CoverLemmas.{in_union}
use Rattle.nb_entries.specs.Shared.WholeLemmas.{newly_same}
use Rattle.nb_member.proofs.LiveLemmas.{cores-append}
use Rattle.std.specs.FinMap as maps

-- ---- what an event makes of a key: whole it stays as it is, unless it is spoilt, and spoilt it stays

-- what tables and their datagrams are known to be
pub record DatagramsKnown : Type 0 where
  pub of_two : (L M : List Core) → table_of (L ++ M) ≡ join (table_of L) (table_of M)
  pub exact : (k : Key) (e : EntryFacts) (d : DatagramParts) → (datagram_of k (Held e) ≡ Some d) ↔ IsDatagram k e d

-- ---- entries

-- facts that are a datagram stay that datagram with others after them
together_is : (k : Key) (a b : EntryFacts) (d : DatagramParts) → IsDatagram k a d → IsDatagram k (facts_together a b) d
together_is k a b d h = record {
  key = h.key;
  kind = h.kind;
  source = h.source;
  destination = h.destination;
  ends = first_left a.cover.marks.end b.cover.marks.end (length d.bytes) h.ends;
  bytes = λ i below. (
      let there = slice_get-get_or d.bytes i 0 below in
      in_union a.cover b.cover i
      ∙ (first_left (maps.get a.cover.bytes i) (maps.get b.cover.bytes i) (get_or d.bytes i 0) (h.bytes i below ∙ there)
      ∙ sym there));
}

-- and so does an entry, unless it is spoilt
entry_stays : DatagramsKnown → (k : Key) (e x : EntryValue) (d : DatagramParts) → datagram_of k e ≡ Some d
    → (join_entry e x ≡ Spoilt → ⊥) → datagram_of k (join_entry e x) ≡ Some d
entry_stays known k Spoilt x d h sound = absurd (none-some d h)
entry_stays known k (Held a) Spoilt d h sound = absurd (sound refl)
entry_stays known k (Held a) (Held b) d h sound = agreed (facts_agree a b) sound
  where
    agreed : (p : Bool) → (cond p (Held (facts_together a b)) Spoilt ≡ Spoilt → ⊥)
        → datagram_of k (cond p (Held (facts_together a b)) Spoilt) ≡ Some d
    agreed true n = (known.exact k (facts_together a b) d).1 (together_is k a b d ((known.exact k a d).0 h))
    agreed false n = absurd (n refl)

at_stays : DatagramsKnown → (k : Key) (o p : Option EntryValue) (d : DatagramParts)
    → option_and_then (datagram_of k) o ≡ Some d → (joined_at join_entry o p ≡ Some Spoilt → ⊥)
    → option_and_then (datagram_of k) (joined_at join_entry o p) ≡ Some d
at_stays known k None p d h sound = absurd (none-some d h)
at_stays known k (Some e) None d h sound = h
at_stays known k (Some e) (Some x) d h sound = entry_stays known k e x d h (λ s. sound (ap Some s))

spoilt_stays : (o p : Option EntryValue) → o ≡ Some Spoilt → joined_at join_entry o p ≡ Some Spoilt
spoilt_stays None p e = absurd (none-some Spoilt e)
spoilt_stays (Some Spoilt) None e = refl
spoilt_stays (Some Spoilt) (Some x) e = refl
spoilt_stays (Some (Held a)) p e = absurd (cc)

-- the datagram of a key has that key
pub has_its_key : DatagramsKnown → (k : Key) (o : Option EntryValue) (d : DatagramParts)
    → option_and_then (datagram_of k) o ≡ Some d → d.key ≡ k
has_its_key known k None d h = absurd (none-some d h)
has_its_key known k (Some Spoilt) d h = absurd (none-some d h)
has_its_key known k (Some (Held a)) d h = let is : IsDatagram k a d = (known.exact k a d).0 h in is.key

-- ---- tables

-- Stays k s t: where s has the key k spoilt or whole, so has t, with the same datagram unless it is spoilt
pub record Stays (k : Key) (s t : Contents) : Type 0 where
  pub spoilt : maps.get s k ≡ Some Spoilt → maps.get t k ≡ Some Spoilt
  pub whole : (d : DatagramParts) → datagram_at s k ≡ Some d → (maps.get t k ≡ Some Spoilt → ⊥) → datagram_at t k ≡ Some d

itself : (k : Key) (t : Contents) → Stays k t t
itself k t = record { spoilt = λ e. e; whole = λ d h sound. h }

next : (k : Key) (s t u : Contents) → Stays k s t → Stays k t u → Stays k s u
next k s t u first second = record {
  spoilt = λ e. second.spoilt (first.spoilt e);
  whole = λ d h sound. second.whole d (first.whole d h (λ e. sound (second.spoilt e))) sound;
}

join_stays : DatagramsKnown → (k : Key) (s t : Contents) → Stays k s (join s t)
join_stays known k s t = record {
  spoilt = λ e. get-join s t k ∙ spoilt_stays (maps.get s k) (maps.get t k) e;
  whole = λ d h sound.
      ap (option_and_then (datagram_of k)) (get-join s t k)
      ∙ at_stays known k (maps.get s k) (maps.get t k) d h (λ e. sound (get-join s t k ∙ e));
}

-- ---- one event

-- one fragment more is live
more : DatagramsKnown → (L : List Timed) (t : Timed)
    → table_from (L ++ t ∷ []) ≡ join (table_from L) (table_of (core_of t.fragment ∷ []))
more known L t = ap table_of (cores-append L (t ∷ [])) ∙ known.of_two (cores L) (core_of t.fragment ∷ [])

came_stays : DatagramsKnown → (L : List Timed) (t : Timed) (k : Key) (full : Bool)
    → Stays k (table_from L) (table_from (cond full L (L ++ t ∷ [])))
came_stays known L t k true = itself k (table_from L)
came_stays known L t k false =
    subst (Stays k (table_from L)) (sym (more known L t)) (join_stays known k (table_from L) (table_of (core_of t.fragment ∷ [])))

-- after an event that drops nothing
pub one_stays : DatagramsKnown → (settings : Settings) (L : List Timed) (s : Saying) (k : Key) → DropsNone settings L s
    → Stays k (table_from L) (table_from (live_after settings L s))
one_stays known settings L (came moment f) k kept =
    came_stays known L (record { moment = moment; fragment = f }) k (is_full settings L f.key)
one_stays known settings L (refused fault) k kept = itself k (table_from L)
one_stays known settings L another k kept = itself k (table_from L)
one_stays known settings L (clock now) k kept =
    subst (λ (M : List Timed). Stays k (table_from L) (table_from M)) (sym kept) (itself k (table_from L))

-- and after many
pub all_stay : DatagramsKnown → (settings : Settings) (L : List Timed) (S : List Saying) (k : Key) → NoneDropped settings L S
    → Stays k (table_from L) (table_from (live_from settings L S))
all_stay known settings L [] k kept = itself k (table_from L)
all_stay known settings L (s ∷ S) k kept =
    next k (table_from L) (table_from (live_after settings L s)) (table_from (live_from settings (live_after settings L s) S))
    (one_stays known settings L s k kept.0) (all_stay known settings (live_after settings L s) S k kept.1)

-- ---- other keys

-- a fragment leaves other keys alone
pub others_stay : DatagramsKnown → (L : List Timed) (t : Timed) (k : Key) (full : Bool) → same_key k t.fragment.key ≡ false
    → maps.get (table_from (cond full L (L ++ t ∷ []))) k ≡ maps.get (table_from L) k
others_stay known L t k true e = refl
others_stay known L t k false e =
    ap (λ (u : Contents). maps.get u k) (more known L t)
    ∙ (get-join (table_from L) (table_of (core_of t.fragment ∷ [])) k
    ∙ (ap (joined_at join_entry (maps.get (table_from L) k)) (get-table_of-one (core_of t.fragment) k ∙ ap (λ (b : Bool). cond b (Some (Held (facts_of (core_of t.fragment)))) None) e)
    ∙ sym (at-none join_entry (maps.get (table_from L) k))))

-- ---- the datagrams of a key that events make whole: the one that is whole in the end, if one is

-- ---- lists

both_tests : {X : Type 0} (x : X) (a b : Bool) (xs : List X) (p q : X → Bool) → p x ≡ a → q x ≡ b
    → filter p (filter q xs) ≡ filter q (filter p xs)
    → filter p (cond b (x ∷ filter q xs) (filter q xs)) ≡ filter q (cond a (x ∷ filter p xs) (filter p xs))
both_tests x true true xs p q e f rec =
    ap (λ (c : Bool). cond c (x ∷ filter p (filter q xs)) (filter p (filter q xs))) e
    ∙ (ap (λ zs. x ∷ zs) rec
    ∙ sym (ap (λ (c : Bool). cond c (x ∷ filter q (filter p xs)) (filter q (filter p xs))) f))
both_tests x true false xs p q e f rec =
    rec ∙ sym (ap (λ (c : Bool). cond c (x ∷ filter q (filter p xs)) (filter q (filter p xs))) f)
both_tests x false true xs p q e f rec =
    ap (λ (c : Bool). cond c (x ∷ filter p (filter q xs)) (filter p (filter q xs))) e ∙ rec
both_tests x false false xs p q e f rec = rec

-- two tests, either first
pub filters_swap : {X : Type 0} (p q : X → Bool) (xs : List X) → filter p (filter q xs) ≡ filter q (filter p xs)
filters_swap p q [] = refl
filters_swap p q (x ∷ xs) = both_tests x (p x) (q x) xs p q refl refl (filters_swap p q xs)

-- ---- what is newly whole

newly_is : (o p : Option DatagramParts) (d : DatagramParts) → newly o p ≡ Some d → p ≡ Some d
newly_is None p d h = h
newly_is (Some e) p d h = absurd (none-some d h)

nothing_new : (t : Contents) (k : Key) → [] ≡ option_to_list (newly_whole t t k)
nothing_new t k = sym (ap option_to_list (newly_same (datagram_at t k)))

-- of a datagram that stays once it is there, what is new first and then what is new later is what is new
chain : (o p r : Option DatagramParts) → ((d : DatagramParts) → o ≡ Some d → p ≡ Some d)
    → ((d : DatagramParts) → p ≡ Some d → r ≡ Some d)
    → option_to_list (newly o p) ++ option_to_list (newly p r) ≡ option_to_list (newly o r)
chain (Some d) p r f g = ap (λ (x : Option DatagramParts). option_to_list (newly x r)) (f d refl)
chain None None r f g = refl
chain None (Some d) r f g = sym (ap option_to_list (g d refl))

-- ---- one event

none_either : (b : Bool) → ◌≡◌ {A = List DatagramParts} [] (cond b [] [])
none_either true = refl
none_either false = refl

-- at most one datagram, all of whose keys are q
of_one : (k q : Key) (o : Option DatagramParts) → ((d : DatagramParts) → o ≡ Some d → d.key ≡ q)
    → of_key k (option_to_list o) ≡ cond (same_key k q) (option_to_list o) []
of_one k q None h = none_either (same_key k q)
of_one k q (Some d) h = ap (λ (x : Key). cond (same_key k x) (d ∷ []) []) (h d refl)

by_key : (s t : Contents) (k q : Key) (b : Bool) → same_key k q ≡ b → (b ≡ false → maps.get t k ≡ maps.get s k)
    → cond b (option_to_list (newly_whole s t q)) [] ≡ option_to_list (newly_whole s t k)
by_key s t k q true e other = ap (λ (x : Key). option_to_list (newly_whole s t x)) (sym ((same_key_decides k q).0 e))
by_key s t k q false e other =
    nothing_new s k
    ∙ sym (ap (λ o. option_to_list (newly (datagram_at s k) (option_and_then (datagram_of k) o))) (other refl))

-- what an event makes whole of a key
one_of_key : DatagramsKnown → (settings : Settings) (L : List Timed) (s : Saying) (k : Key) → DropsNone settings L s
    → of_key k (made_by settings L s) ≡ option_to_list (newly_whole (table_from L) (table_from (live_after settings L s)) k)
one_of_key known settings L (came moment f) k kept =
    let after = table_from (live_after settings L (came moment f)) in
    of_one k f.key (newly_whole (table_from L) after f.key) (λ d h.
    has_its_key known f.key (maps.get after f.key) d (newly_is (datagram_at (table_from L) f.key) (datagram_at after f.key) d h))
    ∙ by_key (table_from L) after k f.key (same_key k f.key) refl
    (others_stay known L (record { moment = moment; fragment = f }) k (is_full settings L f.key))
one_of_key known settings L (refused fault) k kept = nothing_new (table_from L) k
one_of_key known settings L another k kept = nothing_new (table_from L) k
one_of_key known settings L (clock now) k kept =
    nothing_new (table_from L) k
    ∙ sym (ap (λ (M : List Timed). option_to_list (newly_whole (table_from L) (table_from M) k)) kept)

-- ---- many events

-- what events make whole of a key that isn't spoilt in the end: its datagram, if it is whole then and wasn't
-- before
pub all_of_key : DatagramsKnown → (settings : Settings) (L : List Timed) (S : List Saying) (k : Key) → NoneDropped settings L S
    → (maps.get (table_from (live_from settings L S)) k ≡ Some Spoilt → ⊥)
    → of_key k (made settings L S) ≡ option_to_list (newly_whole (table_from L) (table_from (live_from settings L S)) k)
all_of_key known settings L [] k kept sound = nothing_new (table_from L) k
all_of_key known settings L (s ∷ S) k kept sound =
    let after = live_after settings L s in
    let last = table_from (live_from settings after S) in
    let first = one_stays known settings L s k kept.0 in
    let rest = all_stay known settings after S k kept.1 in
    filter-append (λ (d : DatagramParts). same_key k d.key) (made_by settings L s) (made settings after S)
    ∙ (ap₂ ◌++◌ (one_of_key known settings L s k kept.0) (all_of_key known settings after S k kept.1 sound)
    ∙ chain (datagram_at (table_from L) k) (datagram_at (table_from after) k) (datagram_at last k)
    (λ d h. first.whole d h (λ e. sound (rest.spoilt e))) (λ d h. rest.whole d h sound))

-- ---- from no fragment on

-- all that is whole is new where nothing was live
whole_is_new : (t : Contents) (k : Key) → newly_whole (table_from []) t k ≡ datagram_at t k
whole_is_new t k =
    ap (λ (o : Option EntryValue). newly (option_and_then (datagram_of k) o) (datagram_at t k)) (get-table_of [] k)

pub all_from_none : DatagramsKnown → (settings : Settings) (S : List Saying) (k : Key) → NoneDropped settings [] S
    → (maps.get (table_from (live settings S)) k ≡ Some Spoilt → ⊥)
    → of_key k (made settings [] S) ≡ option_to_list (datagram_at (table_from (live settings S)) k)
all_from_none known settings S k kept sound =
    all_of_key known settings [] S k kept sound
    ∙ ap option_to_list (whole_is_new (table_from (live settings S)) k)

pub all_heard_from_none : DatagramsKnown → (settings : Settings) (names : List NetbiosName) (S : List Saying) (k : Key)
    → NoneDropped settings [] S → (maps.get (table_from (live settings S)) k ≡ Some Spoilt → ⊥)
    → of_key k (deliveries settings names [] S)
    ≡ heard names (option_to_list (datagram_at (table_from (live settings S)) k))
all_heard_from_none known settings names S k kept sound =
    filters_swap (λ (d : DatagramParts). same_key k d.key) (hears names) (made settings [] S)
    ∙ ap (filter (hears names)) (all_from_none known settings S k kept sound)
