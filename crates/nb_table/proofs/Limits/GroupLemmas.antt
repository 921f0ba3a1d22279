-- How many keys of a group a table has: after an insert, without a key, and joined to another.
use Rattle.nb_table.proofs.Common.{◌≡◌, ◌↔◌, ◌<◌, ◌≤◌, ◌+◌, ◌-◌, ◌&&◌, inl, inr, ℕ, cond, Bool, true, false, List, [], ◌∷◌, filter, map, length, slice_get, Option, Some, None, is_some, is_none, refl, sym, ◌∙◌, ap, ap₂, subst, arith, cases_lt, length-map, none-some, slice_get-get_or, slice_get_past, unsigned_Decides, pointwise_decides, Key, key_cmp, same_key, key_cmp_total, key_cmp_exact, same_key_decides, joined_at, EntryValue, join_entry, Contents, join, every_key, of_source, held_keys, FewOfEach, new_keys, first_unfit, SourcesFit, get-join, keys_kept, entries_kept, held_is, get_kept, Decides}
use Rattle.std.specs.FinMap as maps
use Rattle.nb_table.proofs.Joins.{lacking, len-joined}

-- ---- lists of keys that pass a test

-- a test among those that pass another is the test of both
pub filter_twice : (p g h : Key → Bool) → ((k : Key) → p k ≡ true → g k ≡ h k) → (ks : List Key) → filter g (filter p ks) ≡ filter (λ k. p k && h k) ks
filter_twice p g h same [] = refl
filter_twice p g h same (k ∷ ks) = step (p k) refl (filter_twice p g h same ks)
  where
    step : (b : Bool) → p k ≡ b → filter g (filter p ks) ≡ filter (λ q. p q && h q) ks → filter g (cond b (k ∷ filter p ks) (filter p ks)) ≡ cond (b && h k) (k ∷ filter (λ q. p q && h q) ks) (filter (λ q. p q && h q) ks)
    step true e rec = ap₂ (λ (c : Bool) (r : List Key). cond c (k ∷ r) r) (same k e) rec
    step false e rec = rec

-- fewer pass a narrower test
pub filter_fewer : (p h : Key → Bool) (ks : List Key) → length (filter (λ k. p k && h k) ks) ≤ length (filter p ks)
filter_fewer p h [] = omega arith
filter_fewer p h (k ∷ ks) = step (p k) (h k) (filter_fewer p h ks)
  where
    step : (b c : Bool) → length (filter (λ q. p q && h q) ks) ≤ length (filter p ks) → length (cond (b && c) (k ∷ filter (λ q. p q && h q) ks) (filter (λ q. p q && h q) ks)) ≤ length (cond b (k ∷ filter p ks) (filter p ks))
    step true true rec = omega (arith, rec)
    step true false rec = omega (arith, rec)
    step false c rec = rec

every_kept : (ks : List Key) → filter every_key ks ≡ ks
every_kept [] = refl
every_kept (k ∷ ks) = ap (λ (r : List Key). k ∷ r) (every_kept ks)

pub filter_at_most : (p : Key → Bool) (ks : List Key) → length (filter p ks) ≤ length ks
filter_at_most p ks = subst (λ n. length (filter p ks) ≤ n) (ap length (every_kept ks)) (filter_fewer every_key p ks)

-- ---- counts

-- in the group of all keys a table holds as many as it has
pub held_every : (s : Contents) → held_keys every_key s ≡ maps.len s
held_every s = ap length (every_kept (maps.keys s)) ∙ length-map (maps.entries s) (λ (e : Key × EntryValue). e.0) ∙ sym (maps.len-entries s)

-- in any group it holds at most as many
pub held_at_most : (p : Key → Bool) (s : Contents) → held_keys p s ≤ maps.len s
held_at_most p s =
    let all : length (maps.keys s) ≡ maps.len s = length-map (maps.entries s) (λ (e : Key × EntryValue). e.0) ∙ sym (maps.len-entries s) in
    omega (arith, filter_at_most p (maps.keys s), all)

pub few_of_none : (n : ℕ) → FewOfEach n maps.empty
few_of_none n ip =
    let none = maps.len-empty key_cmp EntryValue in
    let most = held_at_most (of_source ip) (maps.empty {X = EntryValue} {R = key_cmp}) in
    omega (arith, none, most)

kept_insert : (s : Contents) (p : Key → Bool) (k : Key) (v : EntryValue) → maps.retain_keys (maps.insert s k v) p ≡ cond (p k) (maps.insert (maps.retain_keys s p) k v) (maps.retain_keys s p)
kept_insert s p k v =
    maps.same_map key_cmp_total key_cmp_exact _ _ (λ q.
    get_kept (maps.insert s k v) p q
    ∙ ap (λ a. cond (p q) a None) (maps.get-insert key_cmp_total s k v q)
    ∙ step q (p k) refl (same_key q k) refl)
  where
    step : (q : Key) (b : Bool) → p k ≡ b → (c : Bool) → same_key q k ≡ c → cond (p q) (cond c (Some v) (maps.get s q)) None ≡ maps.get (cond b (maps.insert (maps.retain_keys s p) k v) (maps.retain_keys s p)) q
    step q true e true h =
        ap (λ d. cond d (Some v) None) (ap p ((same_key_decides q k).0 h) ∙ e)
        ∙ sym (maps.get-insert key_cmp_total (maps.retain_keys s p) k v q ∙ ap (λ d. cond d (Some v) (maps.get (maps.retain_keys s p) q)) h)
    step q true e false h =
        sym (maps.get-insert key_cmp_total (maps.retain_keys s p) k v q ∙ ap (λ d. cond d (Some v) (maps.get (maps.retain_keys s p) q)) h ∙ get_kept s p q)
    step q false e true h =
        ap (λ d. cond d (Some v) None) (ap p ((same_key_decides q k).0 h) ∙ e)
        ∙ sym (get_kept s p q ∙ ap (λ d. cond d (maps.get s q) None) (ap p ((same_key_decides q k).0 h) ∙ e))
    step q false e false h = sym (get_kept s p q)

-- a new key of the group makes one more
pub held_insert : (p : Key → Bool) (s : Contents) (k : Key) (v : EntryValue) → held_keys p (maps.insert s k v) ≡ cond (p k && is_none (maps.get s k)) (held_keys p s + 1) (held_keys p s)
held_insert p s k v = held_is p (maps.insert s k v) ∙ ap maps.len (kept_insert s p k v) ∙ step (p k) refl (maps.get s k) refl
  where
    step : (b : Bool) → p k ≡ b → (o : Option EntryValue) → maps.get s k ≡ o → maps.len (cond b (maps.insert (maps.retain_keys s p) k v) (maps.retain_keys s p)) ≡ cond (b && is_none o) (held_keys p s + 1) (held_keys p s)
    step false e o h = sym (held_is p s)
    step true e None h =
        maps.len-insert key_cmp_total (maps.retain_keys s p) k v
        ∙ ap (λ a. cond (is_some a) (maps.len (maps.retain_keys s p)) (maps.len (maps.retain_keys s p) + 1)) (get_kept s p k ∙ ap₂ (λ b a. cond b a None) e h)
        ∙ ap (λ n. n + 1) (sym (held_is p s))
    step true e (Some x) h =
        maps.len-insert key_cmp_total (maps.retain_keys s p) k v
        ∙ ap (λ a. cond (is_some a) (maps.len (maps.retain_keys s p)) (maps.len (maps.retain_keys s p) + 1)) (get_kept s p k ∙ ap₂ (λ b a. cond b a None) e h)
        ∙ sym (held_is p s)

kept_remove : (s : Contents) (p : Key → Bool) (k : Key) → maps.retain_keys (maps.remove s k) p ≡ maps.remove (maps.retain_keys s p) k
kept_remove s p k =
    maps.same_map key_cmp_total key_cmp_exact _ _ (λ q.
    get_kept (maps.remove s k) p q
    ∙ ap (λ a. cond (p q) a None) (maps.get-remove key_cmp_total s k q)
    ∙ step (p q) (same_key q k) (maps.get s q)
    ∙ sym (maps.get-remove key_cmp_total (maps.retain_keys s p) k q ∙ ap (λ a. cond (same_key q k) None a) (get_kept s p q)))
  where
    step : (b c : Bool) (a : Option EntryValue) → cond b (cond c None a) None ≡ cond c None (cond b a None)
    step true c a = refl
    step false true a = refl
    step false false a = refl

pub fewer : (b : Bool) (m n : ℕ) → m ≡ cond b (n - 1) n → m ≤ n
fewer true m n e = omega (arith, e)
fewer false m n e = omega (arith, e)

-- a key of the group that is held and taken out makes one less
pub held_without : (p : Key → Bool) (s : Contents) (k : Key) → held_keys p (maps.remove s k) ≡ cond (p k && is_some (maps.get s k)) (held_keys p s - 1) (held_keys p s)
held_without p s k =
    held_is p (maps.remove s k)
    ∙ ap maps.len (kept_remove s p k)
    ∙ maps.len-remove key_cmp_total (maps.retain_keys s p) k
    ∙ ap₂ (λ b n. cond b (n - 1) n) (ap is_some (get_kept s p k) ∙ step (p k) (maps.get s k)) (sym (held_is p s))
  where
    step : (b : Bool) (o : Option EntryValue) → is_some (cond b o None) ≡ (b && is_some o)
    step true o = refl
    step false o = refl

-- without a key no group has more
pub held_remove : (p : Key → Bool) (s : Contents) (k : Key) → held_keys p (maps.remove s k) ≤ held_keys p s
held_remove p s k =
    let less = fewer (maps.contains_key (maps.retain_keys s p) k) (maps.len (maps.remove (maps.retain_keys s p) k)) (maps.len (maps.retain_keys s p)) (maps.len-remove key_cmp_total (maps.retain_keys s p) k) in
    let now = held_is p (maps.remove s k) ∙ ap maps.len (kept_remove s p k) in
    let was = held_is p s in
    omega (arith, less, now, was)

kept_join : (s t : Contents) (p : Key → Bool) → maps.retain_keys (join s t) p ≡ join (maps.retain_keys s p) (maps.retain_keys t p)
kept_join s t p =
    maps.same_map key_cmp_total key_cmp_exact _ _ (λ q.
    get_kept (join s t) p q
    ∙ ap (λ a. cond (p q) a None) (get-join s t q)
    ∙ step (p q) (maps.get s q) (maps.get t q)
    ∙ sym (get-join (maps.retain_keys s p) (maps.retain_keys t p) q ∙ ap₂ (joined_at join_entry) (get_kept s p q) (get_kept t p q)))
  where
    step : (b : Bool) (x y : Option EntryValue) → cond b (joined_at join_entry x y) None ≡ joined_at join_entry (cond b x None) (cond b y None)
    step true x y = refl
    step false x y = refl

new_kept : (p : Key → Bool) (s t : Contents) → lacking (maps.retain_keys s p) (maps.entries (maps.retain_keys t p)) ≡ new_keys p s t
new_kept p s t =
    let g = λ (k : Key). is_none (maps.get (maps.retain_keys s p) k) in
    let h = λ (k : Key). is_none (maps.get s k) in
    ap (λ (es : List (Key × EntryValue)). filter g (map (λ e. e.0) es)) (entries_kept t p)
    ∙ ap (filter g) (keys_kept p (maps.entries t))
    ∙ filter_twice p g h (λ k e. ap is_none (get_kept s p k ∙ ap (λ b. cond b (maps.get s k) None) e)) (maps.keys t)

-- a join has the keys of the one, and those of the other that it lacks
pub held_join : (p : Key → Bool) (s t : Contents) → held_keys p (join s t) ≡ held_keys p s + length (new_keys p s t)
held_join p s t =
    held_is p (join s t)
    ∙ ap maps.len (kept_join s t p)
    ∙ len-joined key_cmp_total key_cmp_exact join_entry (maps.retain_keys s p) (maps.retain_keys t p)
    ∙ ap₂ (λ m n. m + n) (sym (held_is p s)) (ap length (new_kept p s t))

-- ---- where none fails to fit

none_past : (ks : List Key) (n : ℕ) → slice_get ks n ≡ None → length ks ≤ n
none_past ks n h = elim (cases_lt n (length ks)) [
  | inl below ↦ inside ks below h
  | inr past ↦ past
]
  where
    inside : (qs : List Key) → n < length qs → slice_get qs n ≡ None → length qs ≤ n
    inside [] f e = omega arith
    inside (q ∷ qs) f e = absurd (none-some _ (sym e ∙ slice_get-get_or (q ∷ qs) n q f))

-- of a group whose keys fit no more are held than may be
pub fit_held : (n : ℕ) (p : Key → Bool) (s t : Contents) → held_keys p s ≤ n → first_unfit n p s t ≡ None → held_keys p (join s t) ≤ n
fit_held n p s t held none =
    let size = held_join p s t in
    let few = none_past (new_keys p s t) (n - held_keys p s) none in
    omega (arith, size, held, few)

-- of a group of which the join has no more than may be held, the keys fit
held_fit : (n : ℕ) (p : Key → Bool) (s t : Contents) → held_keys p (join s t) ≤ n → first_unfit n p s t ≡ None
held_fit n p s t few = let size = held_join p s t in slice_get_past (new_keys p s t) (n - held_keys p s) (omega (arith, size, few))

pub keys_fit_exactly : (n : ℕ) (s t : Contents) → maps.len s ≤ n → (first_unfit n every_key s t ≡ None) ↔ (maps.len (join s t) ≤ n)
keys_fit_exactly n s t held = (
  (λ none. let size = held_every (join s t) in
      let here = held_every s in
      omega (arith, size, fit_held n every_key s t (omega (arith, here, held)) none)),
  (λ few. let size = held_every (join s t) in held_fit n every_key s t (omega (arith, size, few))),
)

-- ---- the keys of one address

pub source_decides : (ip : List ℕ) (k : Key) → Decides (of_source ip k) (k.ip ≡ ip)
source_decides ip k = pointwise_decides unsigned_Decides k.ip ip

pub few_insert : (n : ℕ) (s : Contents) (k : Key) (v : EntryValue) → FewOfEach n s → (maps.get s k ≡ None → held_keys (of_source k.ip) s < n) → FewOfEach n (maps.insert s k v)
few_insert n s k v few room ip = step (of_source ip k) refl (maps.get s k) refl (held_insert (of_source ip) s k v)
  where
    step : (b : Bool) → of_source ip k ≡ b → (o : Option EntryValue) → maps.get s k ≡ o → held_keys (of_source ip) (maps.insert s k v) ≡ cond (of_source ip k && is_none (maps.get s k)) (held_keys (of_source ip) s + 1) (held_keys (of_source ip) s) → held_keys (of_source ip) (maps.insert s k v) ≤ n
    step false e o h size =
        let same = size ∙ ap (λ b. cond (b && is_none (maps.get s k)) (held_keys (of_source ip) s + 1) (held_keys (of_source ip) s)) e in
        omega (arith, same, few ip)
    step true e (Some x) h size =
        let same = size ∙ ap₂ (λ b a. cond (b && is_none a) (held_keys (of_source ip) s + 1) (held_keys (of_source ip) s)) e h in
        omega (arith, same, few ip)
    step true e None h size =
        let same = size ∙ ap₂ (λ b a. cond (b && is_none a) (held_keys (of_source ip) s + 1) (held_keys (of_source ip) s)) e h in
        let below : held_keys (of_source ip) s < n = subst (λ (i : List ℕ). held_keys (of_source i) s < n) ((source_decides ip k).0 e) (room h) in
        omega (arith, same, below)

pub few_remove : (n : ℕ) (s : Contents) (k : Key) → FewOfEach n s → FewOfEach n (maps.remove s k)
few_remove n s k few ip = let less = held_remove (of_source ip) s k in omega (arith, less, few ip)

pub few_join : (n : ℕ) (s t : Contents) → FewOfEach n s → SourcesFit n s t → FewOfEach n (join s t)
few_join n s t few fit ip = fit_held n (of_source ip) s t (few ip) (fit ip)

pub sources_fit_exactly : (n : ℕ) (s t : Contents) → FewOfEach n s → SourcesFit n s t ↔ FewOfEach n (join s t)
sources_fit_exactly n s t held = (few_join n s t held, λ few ip. held_fit n (of_source ip) s t (few ip))
