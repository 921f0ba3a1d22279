-- Live fragments: how many keys they have, and their tables.
use Rattle.nb_member.proofs.Common.{◌≡◌, ℕ, zero, suc, ◌-◌, ◌<◌, ◌≤◌, Bool, true, false, cond, List, [], ◌∷◌, map, length, refl, sym, ap, ◌∙◌, arith, Option, None, inl, inr, ◌||◌, not, ◌&&◌, ◌⊎◌, subst, ◌++◌, Some, is_some, filter, nat_le, list_any, unsigned_Decides, false≢true, cases_lt, cases_Bool, leb-true, Key, key_cmp, same_key, key_cmp_total, same_key_decides, FragmentParts, Core, core_of, EntryValue, join_entry, joined_at, Contents, entry_in, entry_at, table_of, held_keys, of_source, held_is, get_kept, get-join, keyed, with_key, join, SameCores, Settings, Saying, came, refused, another, clock, Timed, cores, table_from, is_full, is_source_full, NoneFull, live_after, live_from, live, valid, NoneDropped, HasRoomFor, GiveTheSame}
use Rattle.std.specs.Ordering.{eq_by_cmp}
use Rattle.std.specs.Cmp.Lexicographic.{pointwise_decides}
use Rattle.std.proofs.lemmas.List.{append_assoc, append-nil}
use Rattle.std.specs.FinMap as maps

-- ---- how many keys a table has

-- every key of a is one of b
abbrev pub HasKeysOf : Contents → Contents → Type 0
HasKeysOf b a = (k : Key) → maps.contains_key a k ≡ true → maps.contains_key b k ≡ true

left_cases : (b : Bool) (o : Option EntryValue) → is_some (cond b None o) ≡ true → (is_some o ≡ true) × (b ≡ false)
left_cases true o h = absurd (false≢true h)
left_cases false o h = (h, refl)

-- a key of a table without another one is a key of it, and not that one
key_left : (t : Contents) (k q : Key) → maps.contains_key (maps.remove t k) q ≡ true
    → (maps.contains_key t q ≡ true) × (same_key q k ≡ false)
key_left t k q h = left_cases (same_key q k) (maps.get t q) (ap is_some (sym (maps.get-remove key_cmp_total t k q)) ∙ h)

-- and the other way round
key_stays : (t : Contents) (k q : Key) → maps.contains_key t q ≡ true → same_key q k ≡ false
    → maps.contains_key (maps.remove t k) q ≡ true
key_stays t k q h differ =
    ap is_some (maps.get-remove key_cmp_total t k q) ∙ (ap (λ (b : Bool). is_some (cond b None (maps.get t q))) differ ∙ h)

-- a table without keys is empty, or has a first one
first_key : (es : List (Key × EntryValue)) → 0 < length es → (k : Key) × (list_any (eq_by_cmp key_cmp k) (map (λ e. e.0) es) ≡ true)
first_key [] h = absurd (omega arith)
first_key (e ∷ es) h = (e.0, ap (λ (b : Bool). b || list_any (eq_by_cmp key_cmp e.0) (map (λ x. x.0) es)) ((same_key_decides e.0 e.0).1 refl))

some_key : (t : Contents) → 0 < maps.len t → (k : Key) × (maps.contains_key t k ≡ true)
some_key t h =
    let first = first_key (maps.entries t) (rw (maps.len-entries t) at h) in
    (first.0, maps.contains_key-keys t first.0 ∙ first.1)

-- a table without a key that it has, has one key less
len_without : (t : Contents) (k : Key) → maps.contains_key t k ≡ true → maps.len (maps.remove t k) ≡ maps.len t - 1
len_without t k h =
    maps.len-remove key_cmp_total t k ∙ ap (λ (b : Bool). cond b (maps.len t - 1) (maps.len t)) h

no_key : (es : List (Key × EntryValue)) (k : Key) → length es ≤ 0 → list_any (eq_by_cmp key_cmp k) (map (λ e. e.0) es) ≡ false
no_key [] k h = refl
no_key (e ∷ es) k h = absurd (omega arith)

positive : (t : Contents) (k : Key) → maps.contains_key t k ≡ true → 0 < maps.len t
positive t k h =
    elim (cases_lt 0 (maps.len t)) [
      | inl some ↦ some
      | inr none ↦ absurd (false≢true (sym (no_key (maps.entries t) k (rw (maps.len-entries t) at none)) ∙ (sym (maps.contains_key-keys t k) ∙ h)))
    ]

-- a table whose keys are all another's has at most as many
fewer_within : (most : ℕ) (a b : Contents) → maps.len a ≤ most → HasKeysOf b a → maps.len a ≤ maps.len b
fewer_within zero a b small has = omega arith
fewer_within (suc most) a b small has =
    elim (cases_lt 0 (maps.len a)) [
      | inr none ↦ omega arith
      | inl some ↦
          let k = some_key a some in
          let one = len_without a k.0 k.1 in
          let other = len_without b k.0 (has k.0 k.1) in
          let there = positive b k.0 (has k.0 k.1) in
          let rec = fewer_within most (maps.remove a k.0) (maps.remove b k.0) (omega (arith, one))
          (λ q h. let parts = key_left a k.0 q h in key_stays b k.0 q (has q parts.0) parts.1) in
          omega (arith, one, other, there, rec)
    ]

pub fewer_keys : (a b : Contents) → HasKeysOf b a → maps.len a ≤ maps.len b
fewer_keys a b has = fewer_within (maps.len a) a b (omega arith) has

-- a key that a table has isn't one that it lacks
not_that : (a : Contents) (k q : Key) → maps.contains_key a k ≡ false → maps.contains_key a q ≡ true → same_key q k ≡ false
not_that a k q lacks has =
    elim (cases_Bool (same_key q k)) [
      | inr differ ↦ differ
      | inl same ↦ absurd (false≢true (sym lacks ∙ (ap (λ (j : Key). maps.contains_key a j) (sym ((same_key_decides q k).0 same)) ∙ has)))
    ]

-- and fewer, if the other has a key that it lacks
pub fewer_keys_without : (a b : Contents) (k : Key) → HasKeysOf b a → maps.contains_key a k ≡ false
    → maps.contains_key b k ≡ true → maps.len a < maps.len b
fewer_keys_without a b k has lacks there =
    let one = len_without b k there in
    let some = positive b k there in
    let rest = fewer_keys a (maps.remove b k) (λ q h. key_stays b k q (has q h) (not_that a k q lacks h)) in
    omega (arith, one, some, rest)

-- ---- keys of a group

kept_too : (b : Bool) (x y : Option EntryValue) → (is_some x ≡ true → is_some y ≡ true) → is_some (cond b x None) ≡ true → is_some (cond b y None) ≡ true
kept_too true x y f h = f h
kept_too false x y f h = h

-- the same of the keys of a group
pub fewer_of_group : (p : Key → Bool) (a b : Contents) (k : Key) → HasKeysOf b a → maps.contains_key a k ≡ false
    → maps.contains_key b k ≡ true → p k ≡ true → held_keys p a < held_keys p b
fewer_of_group p a b k has lacks there of_p =
    let fewer = fewer_keys_without (maps.retain_keys a p) (maps.retain_keys b p) k
    (λ q h. ap is_some (get_kept b p q) ∙ kept_too (p q) (maps.get a q) (maps.get b q) (has q) (ap is_some (sym (get_kept a p q)) ∙ h))
    (ap is_some (get_kept a p k) ∙ (ap (λ (c : Bool). is_some (cond c (maps.get a k) None)) of_p ∙ lacks))
    (ap is_some (get_kept b p k) ∙ (ap (λ (c : Bool). is_some (cond c (maps.get b k) None)) of_p ∙ there)) in
    omega (arith, held_is p a, held_is p b, fewer)

-- a key is of its own address
pub own_source : (k : Key) → of_source k.ip k ≡ true
own_source k = (pointwise_decides unsigned_Decides k.ip k.ip).1 refl

-- ---- the fragments that are live, and the table that stands for them

-- ---- lists of fragments

-- the cores of two lists
pub cores-append : (L M : List Timed) → cores (L ++ M) ≡ cores L ++ cores M
cores-append [] M = refl
cores-append (t ∷ L) M = ap (λ (fs : List Core). core_of t.fragment ∷ fs) (cores-append L M)

cores-cond : (b : Bool) (t : Timed) (L : List Timed) (fs : List Core) → cores L ≡ fs
    → cores (cond b (t ∷ L) L) ≡ cond b (core_of t.fragment ∷ fs) fs
cores-cond true t L fs e = ap (λ (gs : List Core). core_of t.fragment ∷ gs) e
cores-cond false t L fs e = e

-- the fragments whose keys pass a test have the cores whose keys do
pub cores-filter : (p : Key → Bool) (L : List Timed) → cores (filter (λ t. p t.fragment.key) L) ≡ keyed p (cores L)
cores-filter p [] = refl
cores-filter p (t ∷ L) =
    cores-cond (p t.fragment.key) t (filter (λ u. p u.fragment.key) L) (keyed p (cores L)) (cores-filter p L)

-- ---- events that neither drop a key nor meet the limit

-- the cores that are live after a fragment that meets no limit
came_cores : (settings : Settings) (L : List Timed) (moment : ℕ) (f : FragmentParts) → is_full settings L f.key ≡ false
    → cores (live_after settings L (came moment f)) ≡ cores L ++ core_of f ∷ []
came_cores settings L moment f room =
    ap (λ (b : Bool). cores (cond b L (L ++ record { moment = moment; fragment = f } ∷ []))) room
    ∙ cores-append L (record { moment = moment; fragment = f } ∷ [])

-- what is live is what was valid, with its moments
pub live_is_all : (settings : Settings) (L : List Timed) (S : List Saying) → NoneDropped settings L S
    → NoneFull settings L S → live_from settings L S ≡ L ++ valid S
live_is_all settings L [] kept room = sym (append-nil L)
live_is_all settings L (came moment f ∷ S) kept room =
    let t : Timed = record { moment = moment; fragment = f } in
    live_is_all settings (live_after settings L (came moment f)) S kept.1 room.1
    ∙ (ap (λ (b : Bool). cond b L (L ++ t ∷ []) ++ valid S) room.0
    ∙ append_assoc L (t ∷ []) (valid S))
live_is_all settings L (refused fault ∷ S) kept room = live_is_all settings L S kept.1 room.1
live_is_all settings L (another ∷ S) kept room = live_is_all settings L S kept.1 room.1
live_is_all settings L (clock now ∷ S) kept room =
    live_is_all settings (live_after settings L (clock now)) S kept.1 room.1
    ∙ ap (λ (M : List Timed). M ++ valid S) kept.0

-- and so are their cores
pub live_is_valid : (settings : Settings) (L : List Timed) (S : List Saying) → NoneDropped settings L S
    → NoneFull settings L S → cores (live_from settings L S) ≡ cores L ++ cores (valid S)
live_is_valid settings L S kept room = ap cores (live_is_all settings L S kept room) ∙ cores-append L (valid S)

-- ---- the limit on keys

-- what the tables of lists are known to be
pub record TablesKnown : Type 0 where
  pub of_two : (L M : List Core) → table_of (L ++ M) ≡ join (table_of L) (table_of M)
  pub entries : (L : List Core) (k : Key) → maps.get (table_of L) k ≡ entry_at L k
  pub of_same : (L M : List Core) → SameCores L M → table_of L ≡ table_of M

-- what is joined has what either has
some_joined_left : (a b : Option EntryValue) → is_some a ≡ true → is_some (joined_at join_entry a b) ≡ true
some_joined_left None b h = absurd (false≢true h)
some_joined_left (Some x) None h = refl
some_joined_left (Some x) (Some y) h = refl

some_joined_right : (a b : Option EntryValue) → is_some b ≡ true → is_some (joined_at join_entry a b) ≡ true
some_joined_right None b h = h
some_joined_right (Some x) None h = refl
some_joined_right (Some x) (Some y) h = refl

keys_of_first : TablesKnown → (L M : List Core) → HasKeysOf (table_of (L ++ M)) (table_of L)
keys_of_first known L M k h =
    ap (λ (t : Contents). maps.contains_key t k) (known.of_two L M)
    ∙ (ap is_some (get-join (table_of L) (table_of M) k)
    ∙ some_joined_left (maps.get (table_of L) k) (maps.get (table_of M) k) h)

keys_of_second : TablesKnown → (L M : List Core) (k : Key) → maps.contains_key (table_of M) k ≡ true
    → maps.contains_key (table_of (L ++ M)) k ≡ true
keys_of_second known L M k h =
    ap (λ (t : Contents). maps.contains_key t k) (known.of_two L M)
    ∙ (ap is_some (get-join (table_of L) (table_of M) k)
    ∙ some_joined_right (maps.get (table_of L) k) (maps.get (table_of M) k) h)

-- a list's table has the key of its first fragment
first_is_known : (b : Bool) (f : Core) (V : List Core) → b ≡ true → is_some (entry_in (cond b (f ∷ V) V)) ≡ true
first_is_known true f V h = refl
first_is_known false f V h = absurd (false≢true h)

key_of_first : TablesKnown → (f : Core) (V : List Core) → maps.contains_key (table_of (f ∷ V)) f.key ≡ true
key_of_first known f V =
    ap is_some (known.entries (f ∷ V) f.key)
    ∙ first_is_known (same_key f.key f.key) f (with_key f.key V) ((same_key_decides f.key f.key).1 refl)

-- a fragment that meets a limit is of a new key, and as many are held
full_parts : (has a b : Bool) → (not has && (a || b)) ≡ true → (has ≡ false) × ((a ≡ true) ⊎ (b ≡ true))
full_parts true a b h = absurd (false≢true h)
full_parts false true b h = (refl, inl refl)
full_parts false false b h = (refl, inr h)

-- a fragment has room where all keys together have
room_for : TablesKnown → (settings : Settings) (L : List Timed) (f : FragmentParts) (V : List Core)
    → HasRoomFor settings (table_of (cores L ++ core_of f ∷ V)) → is_full settings L f.key ≡ false
room_for known settings L f V within =
    elim (cases_Bool (is_full settings L f.key)) [
      | inr room ↦ room
      | inl full ↦
          let has = keys_of_first known (cores L) (core_of f ∷ V) in
          let there = keys_of_second known (cores L) (core_of f ∷ V) f.key (key_of_first known (core_of f) V) in
          let parts = full_parts (maps.contains_key (table_from L) f.key) (is_source_full settings L f.key) (nat_le settings.keys (maps.len (table_from L))) full in
          elim parts.1 [
            | inl source ↦
                let more = fewer_of_group (of_source f.key.ip) (table_from L) (table_of (cores L ++ core_of f ∷ V)) f.key has parts.0 there (own_source f.key) in
                let held = leb-true settings.per_source (held_keys (of_source f.key.ip) (table_from L)) source in
                let most = within.sources f.key.ip in
                absurd (omega (arith, most, held, more))
            | inr keys ↦
                let more = fewer_keys_without (table_from L) (table_of (cores L ++ core_of f ∷ V)) f.key has parts.0 there in
                let held = leb-true settings.keys (maps.len (table_from L)) keys in
                let most = within.keys in
                absurd (omega (arith, most, held, more))
          ]
    ]

-- where all keys have room, no fragment meets the limit
pub capacity_gives_room : TablesKnown → (settings : Settings) (L : List Timed) (S : List Saying)
    → NoneDropped settings L S → HasRoomFor settings (table_of (cores L ++ cores (valid S)))
    → NoneFull settings L S
capacity_gives_room known settings L [] kept within = tt
capacity_gives_room known settings L (came moment f ∷ S) kept within =
    let room = room_for known settings L f (cores (valid S)) within in
    let next : cores (live_after settings L (came moment f)) ++ cores (valid S) ≡ cores L ++ core_of f ∷ cores (valid S) =
    ap (λ (fs : List Core). fs ++ cores (valid S)) (came_cores settings L moment f room)
    ∙ append_assoc (cores L) (core_of f ∷ []) (cores (valid S)) in
    (room, capacity_gives_room known settings (live_after settings L (came moment f)) S kept.1 (rw next within))
capacity_gives_room known settings L (refused fault ∷ S) kept within =
    (tt, capacity_gives_room known settings L S kept.1 within)
capacity_gives_room known settings L (another ∷ S) kept within =
    (tt, capacity_gives_room known settings L S kept.1 within)
capacity_gives_room known settings L (clock now ∷ S) kept within =
    let same : cores (live_after settings L (clock now)) ++ cores (valid S) ≡ cores L ++ cores (valid S) =
    ap (λ (M : List Timed). cores M ++ cores (valid S)) kept.0 in
    (tt, capacity_gives_room known settings (live_after settings L (clock now)) S kept.1 (rw same within))

-- ---- the same fragments

-- no fragment of either list meets the limit
pub rooms : TablesKnown → (settings : Settings) (S T : List Saying) → GiveTheSame settings S T
    → NoneFull settings [] S × NoneFull settings [] T
rooms known settings S T h =
    let there : HasRoomFor settings (table_of (cores (valid T))) =
    subst (HasRoomFor settings) (known.of_same (cores (valid S)) (cores (valid T)) h.same_fragments) h.within_capacity in (
      capacity_gives_room known settings [] S h.none_dropped h.within_capacity,
      capacity_gives_room known settings [] T h.none_dropped_there there,
    )

-- what is live after events that give the same fragments is valid on both sides
pub same_live : TablesKnown → (settings : Settings) (S T : List Saying) → GiveTheSame settings S T
    → table_from (live settings S) ≡ table_from (live settings T)
same_live known settings S T h =
    let room = rooms known settings S T h in
    ap table_of (live_is_valid settings [] S h.none_dropped room.0)
    ∙ (known.of_same (cores (valid S)) (cores (valid T)) h.same_fragments
    ∙ sym (ap table_of (live_is_valid settings [] T h.none_dropped_there room.1)))
