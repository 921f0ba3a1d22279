-- The moments of keys, as fragments come and tables are merged.
use Rattle.nb_member.proofs.Common.{◌≡◌, ◌≢◌, ℕ, ◌+◌, Bool, true, false, cond, ◌||◌, arith, [], ◌∷◌, Option, Some, None, is_some, refl, sym, ap, ◌∙◌, List, map, false≢true, list_any, T, eq_by_cmp_equiv, Key, key_cmp, same_key, key_cmp_total, same_key_decides, key_cmp_exact, FragmentParts, Core, core_of, Held, joined_onto, first_of, joined_at, EntryValue, join_entry, facts_of, get-joined, lt_not_eq, T_left, T_right, Contents, table_of, join, TableValue, IsFull, IsFullSource, NeedsNoMemory, Passes, with_fragment, same_table, join_one, needs_new, Moments, begun, HaveOneSetOfKeys, begun_each, start_after}
use Rattle.std.specs.FinMap.{is_sorted}
use Rattle.std.specs.FinMap.Entries.{below_all}
use Rattle.nb_table.specs.Insert.{Takes as TableTakes}
use Rattle.std.specs.FinMap as maps

-- ---- tables whose keys have moments

put_has : {X : Type 0} (b : Bool) (v : X) (o : Option X) → is_some (cond b (Some v) o) ≡ (b || is_some o)
put_has true v o = refl
put_has false v o = refl

-- what has one more key
has_put : {X : Type 0} (m : maps.FinMap key_cmp X) (k : Key) (v : X) (q : Key)
    → maps.contains_key (maps.insert m k v) q ≡ (same_key q k || maps.contains_key m q)
has_put m k v q = ap is_some (maps.get-insert key_cmp_total m k v q) ∙ put_has (same_key q k) v (maps.get m q)

held_already : (b : Bool) (m : Moments) (k q : Key) → same_key q k ≡ b → maps.contains_key m k ≡ true
    → maps.contains_key m q ≡ (b || maps.contains_key m q)
held_already true m k q same has =
    ap (λ (j : Key). maps.contains_key m j) ((same_key_decides q k).0 same) ∙ has
held_already false m k q same has = refl

begun_by : (b : Bool) (m : Moments) (k : Key) (v : ℕ) (q : Key) → maps.contains_key m k ≡ b
    → maps.contains_key (cond b m (maps.insert m k v)) q ≡ (same_key q k || maps.contains_key m q)
begun_by true m k v q h = held_already (same_key q k) m k q refl h
begun_by false m k v q h = has_put m k v q

-- the moments with one begun have one more key
pub has_begun : (m : Moments) (k : Key) (v : ℕ) (q : Key)
    → maps.contains_key (begun m k v) q ≡ (same_key q k || maps.contains_key m q)
has_begun m k v q = begun_by (maps.contains_key m k) m k v q refl

-- a table with a fragment has one more key
has_joined : (t : Contents) (f : Core) (q : Key)
    → maps.contains_key (join t (table_of (f ∷ []))) q ≡ (same_key q f.key || maps.contains_key t q)
has_joined t f q =
    ap (λ (u : Contents). maps.contains_key u q) (join_one t f)
    ∙ has_put t f.key (joined_onto join_entry (maps.get t f.key) (Held (facts_of f))) q

-- both have the same keys still
pub one_set_after : (t : Contents) (m : Moments) (f : Core) (moment : ℕ) → HaveOneSetOfKeys t m
    → HaveOneSetOfKeys (join t (table_of (f ∷ []))) (begun m f.key moment)
one_set_after t m f moment h q =
    has_begun m f.key moment q
    ∙ (ap (λ (b : Bool). same_key q f.key || b) (h q) ∙ sym (has_joined t f q))

-- ---- keys that are new

keys_after : (t : Contents) (f : Core) (b : Bool) → maps.contains_key t f.key ≡ b
    → maps.len (join t (table_of (f ∷ []))) ≡ cond b (maps.len t) (maps.len t + 1)
keys_after t f b e =
    ap (λ (u : Contents). maps.len u) (join_one t f)
    ∙ maps.len-insert key_cmp_total t f.key (joined_onto join_entry (maps.get t f.key) (Held (facts_of f)))
    ∙ ap (λ (has : Bool). cond has (maps.len t) (maps.len t + 1)) e

-- where the table has as many keys as before, it had the fragment's
pub known_key : (t u : TableValue) (f : FragmentParts) (before after : ℕ) → before ≡ maps.len t.contents → after ≡ maps.len u.contents
    → u ≡ with_fragment t f → after ≡ before → maps.contains_key t.contents f.key ≡ true
known_key t u f before after b a joined same = at (maps.contains_key t.contents f.key) refl
  where
    at : (has : Bool) → maps.contains_key t.contents f.key ≡ has → maps.contains_key t.contents f.key ≡ true
    at true e = e
    at false e = absurd (
        let size = ap (λ (x : TableValue). maps.len x.contents) joined ∙ keys_after t.contents (core_of f) false e in
        omega (arith, size, a, b, same))

-- else it hadn't
pub new_key : (t u : TableValue) (f : FragmentParts) (before after : ℕ) → before ≡ maps.len t.contents → after ≡ maps.len u.contents
    → u ≡ with_fragment t f → after ≢ before → maps.contains_key t.contents f.key ≡ false
new_key t u f before after b a joined differ = at (maps.contains_key t.contents f.key) refl
  where
    at : (has : Bool) → maps.contains_key t.contents f.key ≡ has → maps.contains_key t.contents f.key ≡ false
    at true e = absurd (differ (a ∙ ap (λ (x : TableValue). maps.len x.contents) joined ∙ keys_after t.contents (core_of f) true e ∙ sym b))
    at false e = e

-- the timer of a key that has one runs on
pub begun_already : (m : Moments) (k : Key) (moment : ℕ) → maps.contains_key m k ≡ true → begun m k moment ≡ m
begun_already m k moment has = ap (λ (b : Bool). cond b m (maps.insert m k moment)) has

taken_out : (b : Bool) (e : EntryValue) (o : Option EntryValue) → (b ≡ true → o ≡ None)
    → cond b None (cond b (Some e) o) ≡ o
taken_out true e o h = sym (h refl)
taken_out false e o h = refl

pub none_is : {X : Type 0} (o : Option X) → is_some o ≡ false → o ≡ None
none_is None h = refl
none_is (Some x) h = absurd (false≢true (sym h))

-- a new key that is taken out again leaves the table as it was
pub undone : (t : Contents) (f : Core) → maps.contains_key t f.key ≡ false
    → maps.remove (join t (table_of (f ∷ []))) f.key ≡ t
undone t f new =
    let e = joined_onto join_entry (maps.get t f.key) (Held (facts_of f)) in
    ap (λ (u : Contents). maps.remove u f.key) (join_one t f)
    ∙ same_table (maps.remove (maps.insert t f.key e) f.key) t (λ q.
    maps.get-remove key_cmp_total (maps.insert t f.key e) f.key q
    ∙ (ap (λ (o : Option EntryValue). cond (same_key q f.key) None o) (maps.get-insert key_cmp_total t f.key e q)
    ∙ taken_out (same_key q f.key) e (maps.get t q) (λ same.
    ap (λ (j : Key). maps.get t j) ((same_key_decides q f.key).0 same) ∙ none_is (maps.get t f.key) new)))

-- a new key needs memory
pub new_needs_memory : (t : TableValue) (f : FragmentParts) → TableTakes t f → maps.contains_key t.contents f.key ≡ false
    → Passes t.limits f × (IsFull t.limits t.contents f.key → ⊥) × (NeedsNoMemory t.contents (core_of f) → ⊥) × (IsFullSource t.limits t.contents f.key → ⊥)
new_needs_memory t f takes new =
    (takes.passes, takes.room, needs_new t.contents (core_of f) (none_is (maps.get t.contents f.key) new), takes.source_room)

-- the table that a fragment was joined to, once the new key is dropped again
pub table_restored : (t u v : TableValue) (f : FragmentParts) (k : Key) → k ≡ f.key → u ≡ with_fragment t f
    → v ≡ record { contents = maps.remove u.contents k; limits = u.limits } → maps.contains_key t.contents f.key ≡ false
    → v ≡ t
table_restored t u v f k same joined dropped new =
    let contents = ap (λ (x : TableValue). maps.remove x.contents k) joined
    ∙ (ap (λ (j : Key). maps.remove (join t.contents (table_of (core_of f ∷ []))) j) same ∙ undone t.contents (core_of f) new) in
    let limits = ap (λ (x : TableValue). x.limits) joined in
    dropped ∙ (λ i. record { contents = contents i; limits = limits i })

-- ---- the moments of the keys of a table that another is merged into

first_alone : (a : Option ℕ) → a ≡ first_of a None
first_alone None = refl
first_alone (Some x) = refl

first_there : (a b : Option ℕ) → is_some a ≡ true → a ≡ first_of a b
first_there None b h = absurd (false≢true h)
first_there (Some x) b h = refl

first_lacks : (a b : Option ℕ) → is_some a ≡ false → b ≡ first_of a b
first_lacks None b h = refl
first_lacks (Some x) b h = absurd (false≢true (sym h))

-- the moment of a key of the moments, where they have the key k
kept_at : (m : Moments) (k q : Key) (v : ℕ) (b : Bool) → same_key q k ≡ b → maps.contains_key m k ≡ true
    → maps.get m q ≡ first_of (maps.get m q) (cond b (Some v) None)
kept_at m k q v true same has =
    first_there (maps.get m q) (Some v) (ap (λ (j : Key). maps.contains_key m j) ((same_key_decides q k).0 same) ∙ has)
kept_at m k q v false same has = first_alone (maps.get m q)

-- and where they lack it, and it is put in
put_at : (m : Moments) (k q : Key) (v : ℕ) (b : Bool) → same_key q k ≡ b → maps.contains_key m k ≡ false
    → cond b (Some v) (maps.get m q) ≡ first_of (maps.get m q) (cond b (Some v) None)
put_at m k q v true same lacks =
    first_lacks (maps.get m q) (Some v) (ap (λ (j : Key). maps.contains_key m j) ((same_key_decides q k).0 same) ∙ lacks)
put_at m k q v false same lacks = first_alone (maps.get m q)

get-begun_by : (b : Bool) (m : Moments) (k : Key) (v : ℕ) (q : Key) → maps.contains_key m k ≡ b
    → maps.get (cond b m (maps.insert m k v)) q ≡ first_of (maps.get m q) (cond (same_key q k) (Some v) None)
get-begun_by true m k v q h = kept_at m k q v (same_key q k) refl h
get-begun_by false m k v q h = maps.get-insert key_cmp_total m k v q ∙ put_at m k q v (same_key q k) refl h

get-begun : (m : Moments) (k : Key) (v : ℕ) (q : Key)
    → maps.get (begun m k v) q ≡ first_of (maps.get m q) (cond (same_key q k) (Some v) None)
get-begun m k v q = get-begun_by (maps.contains_key m k) m k v q refl

in_turn : (a : Option ℕ) (b c : Bool) (v : ℕ)
    → first_of (first_of a (cond b (Some v) None)) (cond c (Some v) None) ≡ first_of a (cond (b || c) (Some v) None)
in_turn (Some x) b c v = refl
in_turn None true c v = refl
in_turn None false c v = refl

get-begun_each : (ks : List Key) (m : Moments) (v : ℕ) (q : Key)
    → maps.get (begun_each m ks v) q ≡ first_of (maps.get m q) (cond (list_any (same_key q) ks) (Some v) None)
get-begun_each [] m v q = first_alone (maps.get m q)
get-begun_each (k ∷ ks) m v q =
    get-begun_each ks (begun m k v) v q
    ∙ (ap (λ (o : Option ℕ). first_of o (cond (list_any (same_key q) ks) (Some v) None)) (get-begun m k v q)
    ∙ in_turn (maps.get m q) (same_key q k) (list_any (same_key q) ks) v)

-- ---- the keys that are asked for, one after another

-- the key is none of these
abbrev pub IsNone : Key → List Key → Type 0
IsNone k [] = Unit {0}
IsNone k (q ∷ qs) = (same_key q k ≡ false) × IsNone k qs

-- AreAnswered t m ks: whether each of the keys ks has a moment is whether the table t has it, and each stands once
abbrev pub AreAnswered : Contents → Moments → List Key → Type 0
AreAnswered t m [] = Unit {0}
AreAnswered t m (k ∷ ks) = (maps.contains_key m k ≡ maps.contains_key t k) × IsNone k ks × AreAnswered t m ks

-- they are where one more is begun
pub answered_on : (t : Contents) (m : Moments) (k : Key) (v : ℕ) (ks : List Key) → IsNone k ks → AreAnswered t m ks
    → AreAnswered t (begun m k v) ks
answered_on t m k v [] n a = tt
answered_on t m k v (q ∷ qs) n a = (
  has_begun m k v q ∙ ap (λ (b : Bool). b || maps.contains_key m q) n.0 ∙ a.0,
  a.1,
  answered_on t m k v qs n.1 a.2,
)

none_later : (k : Key) (es : List (Key × EntryValue)) → T (below_all key_cmp k es) → IsNone k (map (λ e. e.0) es)
none_later k [] h = tt
none_later k (e ∷ es) h = (
  (eq_by_cmp_equiv key_cmp_total).symm e.0 k ∙ lt_not_eq (key_cmp k e.0) (T_left _ _ h),
  none_later k es (T_right _ _ h),
)

answered_each : (t : Contents) (m : Moments) (es : List (Key × EntryValue)) → T (is_sorted key_cmp es)
    → HaveOneSetOfKeys t m → AreAnswered t m (map (λ e. e.0) es)
answered_each t m [] s h = tt
answered_each t m (e ∷ es) s h =
    (h e.0, none_later e.0 es (T_left _ _ s), answered_each t m es (T_right _ _ s) h)

-- those of another table are
pub answered : (t other : Contents) (m : Moments) → HaveOneSetOfKeys t m → AreAnswered t m (maps.keys other)
answered t other m h = answered_each t m (maps.entries other) (maps.entries_sorted other) h

-- ---- the moments that are begun

found_or : (b c : Bool) (e : EntryValue) (o : Option EntryValue) → c ≡ is_some o → (b || c) ≡ is_some (cond b (Some e) o)
found_or true c e o h = refl
found_or false c e o h = h

among : (es : List (Key × EntryValue)) (q : Key)
    → list_any (same_key q) (map (λ e. e.0) es) ≡ is_some (maps.find key_cmp q es)
among [] q = refl
among (e ∷ es) q = found_or (same_key q e.0) _ e.1 (maps.find key_cmp q es) (among es q)

-- a key is among those of a table exactly if the table has it
among_keys : (t : Contents) (q : Key) → list_any (same_key q) (maps.keys t) ≡ maps.contains_key t q
among_keys t q = among (maps.entries t) q ∙ ap is_some (sym (maps.get-entries t q))

-- the moments with those of a table's keys begun
pub begun_of : (m : Moments) (other : Contents) (moment : ℕ) (k : Key)
    → maps.get (begun_each m (maps.keys other) moment) k ≡ start_after m other moment k
begun_of m other moment k =
    get-begun_each (maps.keys other) m moment k
    ∙ ap (λ (b : Bool). first_of (maps.get m k) (cond b (Some moment) None)) (among_keys other k)

start_there : (a : Option ℕ) (b : Bool) (v : ℕ) → is_some (first_of a (cond b (Some v) None)) ≡ (is_some a || b)
start_there None true v = refl
start_there None false v = refl
start_there (Some x) b v = refl

joined_there : (a b : Option EntryValue) → is_some (joined_at join_entry a b) ≡ (is_some a || is_some b)
joined_there None b = refl
joined_there (Some x) None = refl
joined_there (Some x) (Some y) = refl

-- the merged table and its moments have one set of keys
pub one_set_merged : (t other : Contents) (m n : Moments) (moment : ℕ) → HaveOneSetOfKeys t m
    → ((k : Key) → maps.get n k ≡ start_after m other moment k) → HaveOneSetOfKeys (join t other) n
one_set_merged t other m n moment h starts k =
    ap is_some (starts k)
    ∙ (start_there (maps.get m k) (maps.contains_key other k) moment
    ∙ (ap (λ (b : Bool). b || maps.contains_key other k) (h k)
    ∙ sym (ap is_some (get-joined key_cmp_total key_cmp_exact join_entry t other k) ∙ joined_there (maps.get t k) (maps.get other k))))
