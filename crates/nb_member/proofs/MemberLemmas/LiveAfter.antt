-- Members stand for the fragments that are live: after a fragment, and after a look at the clock.
use Rattle.nb_member.proofs.Common.{◌≡◌, ℕ, ◌≤◌, Bool, true, false, not, ◌&&◌, ◌||◌, inl, inr, cond, List, [], ◌∷◌, ◌++◌, refl, sym, ap, ◌∙◌, arith, Option, Some, None, filter, nat_le, is_some, cases_Bool, false≢true, leb-true, le-leb, or_left, or_right, Key, same_key, key_cmp_total, same_key_decides, FragmentParts, Core, core_of, keyed, EntryValue, Contents, table_of, join, held_keys, of_source, Limits, IsFull, IsFullSource, Settings, clock, limits_of, Timed, cores, table_from, start_at, is_over, outlives, is_full, is_source_full, live_after, MemberValue, with_timed, StandsOver, Moments, begun, lasts, after_fragment, after_clock}
use Rattle.std.specs.FinMap as maps
use Rattle.nb_member.proofs.MemberLemmas.DroppedKeys.{get-lasting}
use Rattle.nb_member.proofs.LiveLemmas.{cores-append, cores-filter}

-- ---- full keys

full_from : (o : Option EntryValue) (b : Bool) → o ≡ None → b ≡ true → (not (is_some o) && b) ≡ true
full_from None b h full = full
full_from (Some x) b h full = absurd (cc h)

full_to : (o : Option EntryValue) (b : Bool) → (not (is_some o) && b) ≡ true → (o ≡ None) × (b ≡ true)
full_to None b h = (refl, h)
full_to (Some x) b h = absurd (false≢true h)

or_second : (a b : Bool) → (a || b) ≡ true → a ≡ false → b ≡ true
or_second true b h none = absurd (false≢true (sym none))
or_second false b h none = h

-- as many keys of an address as may be are held where as many are live
source_is : (t : Contents) (l : Limits) (settings : Settings) (L : List Timed) (k : Key) → t ≡ table_from L
    → l ≡ limits_of settings → l.per_source ≤ held_keys (of_source k.ip) t → is_source_full settings L k ≡ true
source_is t l settings L k table limits most =
    let per_source : l.per_source ≡ settings.per_source = ap (λ (x : Limits). x.per_source) limits in
    let held : held_keys (of_source k.ip) t ≡ held_keys (of_source k.ip) (table_from L) = ap (held_keys (of_source k.ip)) table in
    le-leb settings.per_source (held_keys (of_source k.ip) (table_from L)) (omega (arith, per_source, held, most))

is_source_is : (t : Contents) (l : Limits) (settings : Settings) (L : List Timed) (k : Key) → t ≡ table_from L
    → l ≡ limits_of settings → is_source_full settings L k ≡ true → l.per_source ≤ held_keys (of_source k.ip) t
is_source_is t l settings L k table limits full =
    let per_source : l.per_source ≡ settings.per_source = ap (λ (x : Limits). x.per_source) limits in
    let held : held_keys (of_source k.ip) t ≡ held_keys (of_source k.ip) (table_from L) = ap (held_keys (of_source k.ip)) table in
    let most = leb-true settings.per_source (held_keys (of_source k.ip) (table_from L)) full in
    omega (arith, per_source, held, most)

-- a key for which the table of what is live has no room is full
pub full_is : (t : Contents) (l : Limits) (settings : Settings) (L : List Timed) (k : Key) → t ≡ table_from L
    → l ≡ limits_of settings → IsFull l t k → is_full settings L k ≡ true
full_is t l settings L k table limits full =
    let keys : l.keys ≡ settings.keys = ap (λ (x : Limits). x.keys) limits in
    let held : maps.len t ≡ maps.len (table_from L) = ap (λ (u : Contents). maps.len u) table in
    let most = full.no_room in
    full_from (maps.get (table_from L) k) _
    (ap (λ (u : Contents). maps.get u k) (sym table) ∙ full.is_new)
    (or_right (is_source_full settings L k) _ (le-leb settings.keys (maps.len (table_from L)) (omega (arith, keys, held, most))))

-- and so is one whose address has no room
pub source_full_is : (t : Contents) (l : Limits) (settings : Settings) (L : List Timed) (k : Key) → t ≡ table_from L
    → l ≡ limits_of settings → IsFullSource l t k → (is_full settings L k ≡ true) × (is_source_full settings L k ≡ true)
source_full_is t l settings L k table limits full =
    let source = source_is t l settings L k table limits full.no_room in (
      full_from (maps.get (table_from L) k) _ (ap (λ (u : Contents). maps.get u k) (sym table) ∙ full.is_new) (or_left _ (nat_le settings.keys (maps.len (table_from L))) source),
      source,
    )

-- and the other way round
pub is_full_is : (t : Contents) (l : Limits) (settings : Settings) (L : List Timed) (k : Key) → t ≡ table_from L
    → l ≡ limits_of settings → is_full settings L k ≡ true → is_source_full settings L k ≡ false → IsFull l t k
is_full_is t l settings L k table limits full none =
    let keys : l.keys ≡ settings.keys = ap (λ (x : Limits). x.keys) limits in
    let held : maps.len t ≡ maps.len (table_from L) = ap (λ (u : Contents). maps.len u) table in
    let parts = full_to (maps.get (table_from L) k) _ full in
    let most = leb-true settings.keys (maps.len (table_from L)) (or_second (is_source_full settings L k) _ parts.1 none) in
    record {
      is_new = ap (λ (u : Contents). maps.get u k) table ∙ parts.0;
      no_room = omega (arith, keys, held, most);
    }

pub is_source_full_is : (t : Contents) (l : Limits) (settings : Settings) (L : List Timed) (k : Key) → t ≡ table_from L
    → l ≡ limits_of settings → is_full settings L k ≡ true → is_source_full settings L k ≡ true → IsFullSource l t k
is_source_full_is t l settings L k table limits full source =
    let parts = full_to (maps.get (table_from L) k) _ full in
    record {
      is_new = ap (λ (u : Contents). maps.get u k) table ∙ parts.0;
      no_room = is_source_is t l settings L k table limits source;
    }

-- an address with room isn't full, and one that isn't full has room
pub source_room_is : (t : Contents) (l : Limits) (settings : Settings) (L : List Timed) (k : Key) → t ≡ table_from L
    → l ≡ limits_of settings → is_source_full settings L k ≡ false → IsFullSource l t k → ⊥
source_room_is t l settings L k table limits none full =
    false≢true (sym none ∙ source_is t l settings L k table limits full.no_room)

pub is_source_room : (t : Contents) (l : Limits) (settings : Settings) (L : List Timed) (k : Key) → t ≡ table_from L
    → l ≡ limits_of settings → maps.get t k ≡ None → (IsFullSource l t k → ⊥) → is_source_full settings L k ≡ false
is_source_room t l settings L k table limits new room = elim (cases_Bool (is_source_full settings L k)) [
  | inr none ↦ none
  | inl full ↦ absurd (room (record { is_new = new; no_room = is_source_is t l settings L k table limits full }))
]

-- ---- one fragment more

-- what there is first
abbrev pub earlier : Option ℕ → Option ℕ → Option ℕ
earlier None later = later
earlier (Some x) later = Some x

start_step : (b : Bool) (x : ℕ) (o later : Option ℕ) → cond b (Some x) (earlier o later) ≡ earlier (cond b (Some x) o) later
start_step true x o later = refl
start_step false x o later = refl

-- the start of a key in a list with one more fragment
start-append : (L : List Timed) (t : Timed) (k : Key)
    → start_at (L ++ t ∷ []) k ≡ earlier (start_at L k) (cond (same_key k t.fragment.key) (Some t.moment) None)
start-append [] t k = refl
start-append (u ∷ L) t k =
    ap (λ (o : Option ℕ). cond (same_key k u.fragment.key) (Some u.moment) o) (start-append L t k)
    ∙ start_step (same_key k u.fragment.key) u.moment (start_at L k) (cond (same_key k t.fragment.key) (Some t.moment) None)

earlier_none : (o : Option ℕ) → o ≡ earlier o None
earlier_none None = refl
earlier_none (Some x) = refl

earlier_some : (o later : Option ℕ) → is_some o ≡ true → o ≡ earlier o later
earlier_some None later h = absurd (false≢true h)
earlier_some (Some x) later h = refl

later_alone : (o : Option ℕ) (x : ℕ) → is_some o ≡ false → Some x ≡ earlier o (Some x)
later_alone None x h = refl
later_alone (Some y) x h = absurd (false≢true (sym h))

-- where the key has a moment already
kept_moment : (b : Bool) (m : Moments) (k q : Key) (v : ℕ) → maps.contains_key m k ≡ true → same_key q k ≡ b
    → maps.get m q ≡ earlier (maps.get m q) (cond b (Some v) None)
kept_moment true m k q v has same =
    earlier_some (maps.get m q) (Some v) (ap (λ (j : Key). maps.contains_key m j) ((same_key_decides q k).0 same) ∙ has)
kept_moment false m k q v has same = earlier_none (maps.get m q)

-- where it has none
new_moment : (b : Bool) (m : Moments) (k q : Key) (v : ℕ) → maps.contains_key m k ≡ false → same_key q k ≡ b
    → cond b (Some v) (maps.get m q) ≡ earlier (maps.get m q) (cond b (Some v) None)
new_moment true m k q v new same =
    later_alone (maps.get m q) v (ap (λ (j : Key). maps.contains_key m j) ((same_key_decides q k).0 same) ∙ new)
new_moment false m k q v new same = earlier_none (maps.get m q)

get_begun_by : (b : Bool) (m : Moments) (k q : Key) (v : ℕ) → maps.contains_key m k ≡ b
    → maps.get (cond b m (maps.insert m k v)) q ≡ earlier (maps.get m q) (cond (same_key q k) (Some v) None)
get_begun_by true m k q v h = kept_moment (same_key q k) m k q v h refl
get_begun_by false m k q v h =
    maps.get-insert key_cmp_total m k v q ∙ new_moment (same_key q k) m k q v h refl

-- the moments with one begun
get-begun : (m : Moments) (k q : Key) (v : ℕ)
    → maps.get (begun m k v) q ≡ earlier (maps.get m q) (cond (same_key q k) (Some v) None)
get-begun m k q v = get_begun_by (maps.contains_key m k) m k q v refl

-- the table with one fragment more
table_more : ((L M : List Core) → table_of (L ++ M) ≡ join (table_of L) (table_of M)) → (L : List Timed) (t : Timed)
    → join (table_from L) (table_of (core_of t.fragment ∷ [])) ≡ table_from (L ++ t ∷ [])
table_more of_two L t =
    sym (ap table_of (cores-append L (t ∷ [])) ∙ of_two (cores L) (core_of t.fragment ∷ []))

-- a member that took a fragment in stands for one more
pub stands_more : ((L M : List Core) → table_of (L ++ M) ≡ join (table_of L) (table_of M)) → (m : MemberValue)
    (L : List Timed) (moment : ℕ) (f : FragmentParts) → StandsOver m L
    → StandsOver (with_timed m (after_fragment m.timed moment f)) (L ++ record { moment = moment; fragment = f } ∷ [])
stands_more of_two m L moment f s = record {
  table_is = ap (λ (t : Contents). join t (table_of (core_of f ∷ []))) s.table_is
      ∙ table_more of_two L (record { moment = moment; fragment = f });
  limits_are = s.limits_are;
  moments_are = λ k.
      get-begun m.timed.moments f.key k moment
      ∙ (ap (λ (o : Option ℕ). earlier o (cond (same_key k f.key) (Some moment) None)) (s.moments_are k)
      ∙ sym (start-append L (record { moment = moment; fragment = f }) k));
}

-- ---- the clock

nothing_kept : (b : Bool) (o : Option ℕ) → o ≡ None → o ≡ cond b o None
nothing_kept true o h = refl
nothing_kept false o h = h

start_kept : (a b : Bool) (p : Key → Bool) (k : Key) (t : Timed) (rest : List Timed) (o : Option ℕ)
    → start_at rest k ≡ cond (p k) o None → p t.fragment.key ≡ a → same_key k t.fragment.key ≡ b
    → start_at (cond a (t ∷ rest) rest) k ≡ cond (p k) (cond b (Some t.moment) o) None
start_kept true true p k t rest o rec keeps same =
    ap (λ (b : Bool). cond b (Some t.moment) (start_at rest k)) same
    ∙ sym (ap (λ (b : Bool). cond b (Some t.moment) None) (ap p ((same_key_decides k t.fragment.key).0 same) ∙ keeps))
start_kept true false p k t rest o rec keeps same =
    ap (λ (b : Bool). cond b (Some t.moment) (start_at rest k)) same ∙ rec
start_kept false true p k t rest o rec keeps same =
    let drops = ap p ((same_key_decides k t.fragment.key).0 same) ∙ keeps in
    rec ∙ (ap (λ (b : Bool). cond b o None) drops ∙ sym (ap (λ (b : Bool). cond b (Some t.moment) None) drops))
start_kept false false p k t rest o rec keeps same = rec

-- the start of a key among the fragments whose keys pass a test
start-filter : (p : Key → Bool) (L : List Timed) (k : Key)
    → start_at (filter (λ t. p t.fragment.key) L) k ≡ cond (p k) (start_at L k) None
start-filter p [] k = nothing_kept (p k) None refl
start-filter p (t ∷ L) k =
    start_kept (p t.fragment.key) (same_key k t.fragment.key) p k t (filter (λ u. p u.fragment.key) L) (start_at L k)
    (start-filter p L k) refl refl

-- a member that looked at the clock stands for the fragments that are live still
pub stands_left : ((L : List Core) (p : Key → Bool) → maps.retain_keys (table_of L) p ≡ table_of (keyed p L))
    → (m : MemberValue) (L : List Timed) (now : ℕ) → StandsOver m L
    → StandsOver (with_timed m (after_clock m.timed now)) (live_after m.settings L (clock now))
stands_left keeping m L now s =
    let same : lasts m.timed.moments now ≡ outlives L now = λ i k. not (is_over now (s.moments_are k i)) in
    record {
      table_is = ap (λ (t : Contents). maps.retain_keys t (lasts m.timed.moments now)) s.table_is
          ∙ (ap (λ (p : Key → Bool). maps.retain_keys (table_from L) p) same
          ∙ (keeping (cores L) (outlives L now) ∙ sym (ap table_of (cores-filter (outlives L now) L))));
      limits_are = s.limits_are;
      moments_are = λ k.
          get-lasting m.timed.moments m.timed.moments now k
          ∙ (ap (λ (o : Option ℕ). cond (not (is_over now o)) o None) (s.moments_are k)
          ∙ sym (start-filter (outlives L now) L k));
    }
