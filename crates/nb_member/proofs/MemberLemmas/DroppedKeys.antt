-- Keys whose timers have run out, taken out of a table and of the moments.
use Rattle.nb_member.proofs.Common.{◌≡◌, ℕ, ◌≤◌, Bool, true, false, not, cond, ◌&&◌, ◌||◌, List, [], ◌∷◌, ◌++◌, Option, Some, None, is_some, refl, sym, ap, ◌∙◌, filter, eq_by_cmp_equiv, Key, key_cmp, same_key, key_cmp_total, key_cmp_exact, EntryValue, Contents, TableValue, one_key, same_table, false≢true, is_over, Moments, lasts, HaveOneSetOfKeys, StandOnce}
use Rattle.std.specs.FinMap as maps
use Rattle.nb_member.proofs.LiveLemmas.{fewer_keys}
use Rattle.nb_member.proofs.MemberLemmas.Timers.{none_is}

-- a table without one key
abbrev pub without : TableValue → Key → TableValue
without t k = record { contents = maps.remove t.contents k; limits = t.limits }

-- dropped_each now es t: the table without those keys of es whose timers have run out
abbrev pub dropped_each : ℕ → List (Key × ℕ) → TableValue → TableValue
dropped_each now [] t = t
dropped_each now (e ∷ es) t = dropped_each now es (cond (is_over now (Some e.1)) (without t e.0) t)

-- over_in now q es: es has the key q with a timer that has run out
abbrev over_in : ℕ → Key → List (Key × ℕ) → Bool
over_in now q [] = false
over_in now q (e ∷ es) = (same_key q e.0 && is_over now (Some e.1)) || over_in now q es

and_true : (b : Bool) (x : Option EntryValue) → cond b None x ≡ cond (b && true) None x
and_true true x = refl
and_true false x = refl

and_false : (b : Bool) (x : Option EntryValue) → x ≡ cond (b && false) None x
and_false true x = refl
and_false false x = refl

get-once : (o : Bool) (t : TableValue) (k q : Key)
    → maps.get (cond o (without t k) t).contents q ≡ cond (same_key q k && o) None (maps.get t.contents q)
get-once true t k q = maps.get-remove key_cmp_total t.contents k q ∙ and_true (same_key q k) (maps.get t.contents q)
get-once false t k q = and_false (same_key q k) (maps.get t.contents q)

either : (a b : Bool) (x : Option EntryValue) → cond b None (cond a None x) ≡ cond (a || b) None x
either true true x = refl
either true false x = refl
either false b x = refl

get-dropped_each : (now : ℕ) (es : List (Key × ℕ)) (t : TableValue) (q : Key)
    → maps.get (dropped_each now es t).contents q ≡ cond (over_in now q es) None (maps.get t.contents q)
get-dropped_each now [] t q = refl
get-dropped_each now (e ∷ es) t q =
    get-dropped_each now es (cond (is_over now (Some e.1)) (without t e.0) t) q
    ∙ (ap (λ (o : Option EntryValue). cond (over_in now q es) None o) (get-once (is_over now (Some e.1)) t e.0 q)
    ∙ either (same_key q e.0 && is_over now (Some e.1)) (over_in now q es) (maps.get t.contents q))

limits-once : (o : Bool) (t : TableValue) (k : Key) → (cond o (without t k) t).limits ≡ t.limits
limits-once true t k = refl
limits-once false t k = refl

limits-dropped_each : (now : ℕ) (es : List (Key × ℕ)) (t : TableValue) → (dropped_each now es t).limits ≡ t.limits
limits-dropped_each now [] t = refl
limits-dropped_each now (e ∷ es) t =
    limits-dropped_each now es (cond (is_over now (Some e.1)) (without t e.0) t)
    ∙ limits-once (is_over now (Some e.1)) t e.0

or_false : (o : Bool) → (o || false) ≡ o
or_false true = refl
or_false false = refl

-- no key after the first is the first
none_behind : (q : Key) (e : Key × ℕ) (es : List (Key × ℕ)) → StandOnce (e ∷ es) → same_key q e.0 ≡ true
    → maps.find key_cmp q es ≡ None
none_behind q e es s h =
    ap (λ (k : Key). maps.find key_cmp k es) (one_key key_cmp_exact q e.0 h) ∙ s.0

over_step : (b : Bool) (now : ℕ) (q : Key) (e : Key × ℕ) (es : List (Key × ℕ)) → StandOnce (e ∷ es)
    → over_in now q es ≡ is_over now (maps.find key_cmp q es) → same_key q e.0 ≡ b
    → ((b && is_over now (Some e.1)) || over_in now q es) ≡ is_over now (cond b (Some e.1) (maps.find key_cmp q es))
over_step true now q e es s rec h =
    ap (λ (b : Bool). is_over now (Some e.1) || b) (rec ∙ ap (is_over now) (none_behind q e es s h))
    ∙ or_false (is_over now (Some e.1))
over_step false now q e es s rec h = rec

over_is : (now : ℕ) (q : Key) (es : List (Key × ℕ)) → StandOnce es
    → over_in now q es ≡ is_over now (maps.find key_cmp q es)
over_is now q [] s = refl
over_is now q (e ∷ es) s =
    over_step (same_key q e.0) now q e es s (over_is now q es (s.1)) refl

turned : (b : Bool) (x : Option EntryValue) → cond b None x ≡ cond (not b) x None
turned true x = refl
turned false x = refl

-- the keys of the moments whose timers have run out, taken out one by one
pub dropped_each_is : (now : ℕ) (es : List (Key × ℕ)) (t : TableValue) → StandOnce es
    → dropped_each now es t ≡ record {
      contents = maps.retain_keys t.contents (lasts (maps.from_entries {R = key_cmp} es) now);
      limits = t.limits;
    }
dropped_each_is now es t s =
    let m : Moments = maps.from_entries {R = key_cmp} es in
    let contents : (dropped_each now es t).contents ≡ maps.retain_keys t.contents (lasts m now) =
    same_table (dropped_each now es t).contents (maps.retain_keys t.contents (lasts m now)) (λ q.
    get-dropped_each now es t q
    ∙ (ap (λ (b : Bool). cond b None (maps.get t.contents q)) (over_is now q es s ∙ ap (is_over now) (sym (maps.get-from_entries key_cmp_total es q)))
    ∙ (turned (is_over now (maps.get m q)) (maps.get t.contents q)
    ∙ sym (maps.get-retain_keys t.contents (lasts m now) q (λ x e. ap (lasts m now) (sym (key_cmp_exact q x e))))))) in
    let limits = limits-dropped_each now es t in
    λ i. record { contents = contents i; limits = limits i }

-- ---- the moments

-- the entries whose timers haven't run out
abbrev pub running : ℕ → List (Key × ℕ) → List (Key × ℕ)
running now = filter (λ e. not (is_over now (Some e.1)))

-- what is found, if its timer hasn't run out
abbrev if_running : ℕ → Option ℕ → Option ℕ
if_running now o = cond (not (is_over now o)) o None

if_running_some : (now v : ℕ) (b : Bool) → is_over now (Some v) ≡ b → if_running now (Some v) ≡ cond b None (Some v)
if_running_some now v true h = ap (λ (b : Bool). cond (not b) (Some v) None) h
if_running_some now v false h = ap (λ (b : Bool). cond (not b) (Some v) None) h

find_step : (o b : Bool) (now : ℕ) (q : Key) (e : Key × ℕ) (es : List (Key × ℕ)) → StandOnce (e ∷ es)
    → maps.find key_cmp q (running now es) ≡ if_running now (maps.find key_cmp q es)
    → is_over now (Some e.1) ≡ o → same_key q e.0 ≡ b
    → maps.find key_cmp q (cond (not o) (e ∷ running now es) (running now es))
    ≡ if_running now (cond b (Some e.1) (maps.find key_cmp q es))
find_step true true now q e es s rec over h =
    rec ∙ (ap (if_running now) (none_behind q e es s h) ∙ sym (if_running_some now e.1 true over))
find_step true false now q e es s rec over h = rec
find_step false true now q e es s rec over h =
    ap (λ (b : Bool). cond b (Some e.1) (maps.find key_cmp q (running now es))) h ∙ sym (if_running_some now e.1 false over)
find_step false false now q e es s rec over h =
    ap (λ (b : Bool). cond b (Some e.1) (maps.find key_cmp q (running now es))) h ∙ rec

find-running : (now : ℕ) (q : Key) (es : List (Key × ℕ)) → StandOnce es
    → maps.find key_cmp q (running now es) ≡ if_running now (maps.find key_cmp q es)
find-running now q [] s = refl
find-running now q (e ∷ es) s =
    find_step (is_over now (Some e.1)) (same_key q e.0) now q e es s (find-running now q es (s.1)) refl refl

-- the moments without those whose timers have run out
pub running_is : (now : ℕ) (es : List (Key × ℕ)) → StandOnce es
    → maps.from_entries {R = key_cmp} (running now es)
    ≡ maps.retain_keys (maps.from_entries {R = key_cmp} es) (lasts (maps.from_entries {R = key_cmp} es) now)
running_is now es s =
    let m : Moments = maps.from_entries {R = key_cmp} es in
    maps.same_map key_cmp_total key_cmp_exact (maps.from_entries {R = key_cmp} (running now es)) (maps.retain_keys m (lasts m now)) (λ q.
    maps.get-from_entries key_cmp_total (running now es) q
    ∙ (find-running now q es s
    ∙ (ap (if_running now) (sym (maps.get-from_entries key_cmp_total es q))
    ∙ sym (maps.get-retain_keys m (lasts m now) q (λ x e. ap (lasts m now) (sym (key_cmp_exact q x e)))))))

-- each stands once still
pub once_running : (now : ℕ) (es : List (Key × ℕ)) → StandOnce es → StandOnce (running now es)
once_running now [] s = tt
once_running now (e ∷ es) s =
    let rest = once_running now es s.1 in
    elim (is_over now (Some e.1)) as (λ o. StandOnce (cond (not o) (e ∷ running now es) (running now es))) [
      | true ↦ rest
      | false ↦ (find-running now e.0 es s.1 ∙ (ap (if_running now) s.0), rest)
    ]

-- ---- a key that is new

new_step : (b : Bool) (k : Key) (e : Key × ℕ) (es : List (Key × ℕ)) → same_key k e.0 ≡ b
    → cond b (Some e.1) (maps.find key_cmp k es) ≡ None → (same_key e.0 k ≡ false) × (maps.find key_cmp k es ≡ None)
new_step true k e es same is = absurd (false≢true (sym (ap is_some is)))
new_step false k e es same is = ((eq_by_cmp_equiv key_cmp_total).symm e.0 k ∙ same, is)

-- behind others, a key that they lack stands once
pub once_pushed : (es : List (Key × ℕ)) (k : Key) (v : ℕ) → StandOnce es → maps.find key_cmp k es ≡ None
    → StandOnce (es ++ (k, v) ∷ [])
once_pushed [] k v s none = (refl, tt)
once_pushed (e ∷ es) k v s none =
    let new = new_step (same_key k e.0) k e es refl none in
    let there = sym (maps.get-from_entries key_cmp_total (es ++ (k, v) ∷ []) e.0)
    ∙ (ap (λ (m : Moments). maps.get m e.0) (maps.from_entries_push key_cmp_total key_cmp_exact es k v new.1)
    ∙ (maps.get-insert key_cmp_total (maps.from_entries {R = key_cmp} es) k v e.0
    ∙ ap (λ (b : Bool). cond b (Some v) (maps.get (maps.from_entries {R = key_cmp} es) e.0)) new.0)) in
    (there ∙ (maps.get-from_entries key_cmp_total es e.0 ∙ s.0), once_pushed es k v s.1 new.1)

-- what isn't among the moments isn't found in their list
pub not_found : (es : List (Key × ℕ)) (k : Key) → maps.contains_key (maps.from_entries {R = key_cmp} es) k ≡ false
    → maps.find key_cmp k es ≡ None
not_found es k new = none_is (maps.find key_cmp k es) (ap is_some (sym (maps.get-from_entries key_cmp_total es k)) ∙ new)

-- ---- both

pub get-lasting : {X : Type 0} (t : maps.FinMap key_cmp X) (m : Moments) (now : ℕ) (k : Key)
    → maps.get (maps.retain_keys t (lasts m now)) k ≡ cond (lasts m now k) (maps.get t k) None
get-lasting t m now k = maps.get-retain_keys t (lasts m now) k (λ x e. ap (lasts m now) (sym (key_cmp_exact k x e)))

kept_if : {X : Type 0} (b : Bool) (o : Option X) → is_some (cond b o None) ≡ (b && is_some o)
kept_if true o = refl
kept_if false o = refl

-- both have the same keys still
pub one_set_left : (t : Contents) (m : Moments) (now : ℕ) → HaveOneSetOfKeys t m
    → HaveOneSetOfKeys (maps.retain_keys t (lasts m now)) (maps.retain_keys m (lasts m now))
one_set_left t m now h k =
    ap is_some (get-lasting m m now k)
    ∙ (kept_if (lasts m now k) (maps.get m k)
    ∙ (ap (λ (b : Bool). lasts m now k && b) (h k)
    ∙ (sym (kept_if (lasts m now k) (maps.get t k)) ∙ sym (ap is_some (get-lasting t m now k)))))

had : {X : Type 0} (b : Bool) (o : Option X) → is_some (cond b o None) ≡ true → is_some o ≡ true
had true o h = h
had false o h = absurd (false≢true h)

-- and no more of them
pub fewer_left : (t : Contents) (m : Moments) (now : ℕ) → maps.len (maps.retain_keys t (lasts m now)) ≤ maps.len t
fewer_left t m now =
    fewer_keys (maps.retain_keys t (lasts m now)) t (λ k h.
    had (lasts m now k) (maps.get t k) (sym (ap is_some (get-lasting t m now k)) ∙ h))
