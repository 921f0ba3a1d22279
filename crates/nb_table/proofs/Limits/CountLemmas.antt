-- Counts of the keys of each address, as they are kept: a key more, and a key less.
use Rattle.nb_table.proofs.Common.{◌≡◌, ◌≢◌, ◌≤◌, ◌<◌, ◌+◌, ◌-◌, ◌==◌, ◌&&◌, ℕ, cond, Bool, true, false, List, filter, length, Option, Some, None, is_none, is_some, unwrap_or, refl, sym, ◌∙◌, ap, subst, arith, true≢false, and_from, and_parts, none-some, Decides, eq_by_cmp, Equal-is, tied_itself, nat_list_cmp_total, pointwise, slice_cmp-IsAntisymmetric, nat_cmp-IsAntisymmetric, Key, EntryValue, IsShort, is_short, Contents, of_source, held_keys, Limits, KeepsLimits, ip_cmp, Adds, AreCounted, Counts, CountsKeys, HasNoZero, Takes, count_of, if_same, key_cmp, key_cmp_total, key_cmp_exact, list_all, Spoilt, Held, AllShort, all_entries_found, all_entries_from, IfSome}
use Rattle.std.specs.FinMap as maps
use Rattle.nb_streams.specs.DecidedFacts.{bytes_decide}
use Rattle.nb_table.proofs.Limits.GroupLemmas.{few_of_none, held_at_most, held_insert, held_without}
use Rattle.nb_entries.specs.Shared.MarksLemmas.{up_to_decides}
use Rattle.nb_entries.specs.Shared.CoverLemmas.{bytes_below_decides}

-- ---- addresses

pub ip_cmp_exact : maps.IsAntisymmetric ip_cmp
ip_cmp_exact = slice_cmp-IsAntisymmetric nat_cmp-IsAntisymmetric

tie_decides : (ip q : List ℕ) → Decides (eq_by_cmp ip_cmp q ip) (ip ≡ q)
tie_decides ip q = (
  λ h. sym (ip_cmp_exact q ip ((Equal-is (ip_cmp q ip)).0 h)),
  λ e. (Equal-is (ip_cmp q ip)).1 (ap (ip_cmp q) e ∙ tied_itself nat_list_cmp_total q),
)

alike : (a b : Bool) (P : Type 0) → Decides a P → Decides b P → a ≡ b
alike true true P f g = refl
alike true false P f g = absurd (true≢false (sym (g.1 (f.0 refl))))
alike false true P f g = absurd (true≢false (sym (f.1 (g.0 refl))))
alike false false P f g = refl

-- ---- one key more, and one less

pub count_put : (m : Counts) (ip q : List ℕ) (v : ℕ) → count_of (maps.insert m ip v) q ≡ cond (pointwise ◌==◌ ip q) v (count_of m q)
count_put m ip q v =
    ap (λ o. unwrap_or o 0) (maps.get-insert nat_list_cmp_total m ip v q ∙ ap (λ b. cond b (Some v) (maps.get m q)) (alike _ _ (ip ≡ q) (tie_decides ip q) (bytes_decide ip q)))
    ∙ step (pointwise ◌==◌ ip q)
  where
    step : (b : Bool) → unwrap_or (cond b (Some v) (maps.get m q)) 0 ≡ cond b v (count_of m q)
    step true = refl
    step false = refl

count_gone : (m : Counts) (ip q : List ℕ) → count_of (maps.remove m ip) q ≡ cond (pointwise ◌==◌ ip q) 0 (count_of m q)
count_gone m ip q =
    ap (λ o. unwrap_or o 0) (maps.get-remove nat_list_cmp_total m ip q ∙ ap (λ b. cond b None (maps.get m q)) (alike _ _ (ip ≡ q) (tie_decides ip q) (bytes_decide ip q)))
    ∙ step (pointwise ◌==◌ ip q)
  where
    step : (b : Bool) → unwrap_or (cond b None (maps.get m q)) 0 ≡ cond b 0 (count_of m q)
    step true = refl
    step false = refl

pub put_more : (m : Counts) (ip q : List ℕ) (v : ℕ) → v ≡ count_of m ip + 1 → count_of (maps.insert m ip v) q ≡ count_of m q + if_same ip q
put_more m ip q v is = count_put m ip q v ∙ step (pointwise ◌==◌ ip q) (bytes_decide ip q).0
  where
    step : (b : Bool) → (b ≡ true → ip ≡ q) → cond b v (count_of m q) ≡ count_of m q + cond b 1 0
    step true f = is ∙ ap (λ i. count_of m i + 1) (f refl)
    step false f = omega arith

pub put_less : (m : Counts) (ip q : List ℕ) (v : ℕ) → v ≡ count_of m ip - 1 → count_of (maps.insert m ip v) q ≡ count_of m q - if_same ip q
put_less m ip q v is = count_put m ip q v ∙ step (pointwise ◌==◌ ip q) (bytes_decide ip q).0
  where
    step : (b : Bool) → (b ≡ true → ip ≡ q) → cond b v (count_of m q) ≡ count_of m q - cond b 1 0
    step true f = is ∙ ap (λ i. count_of m i - 1) (f refl)
    step false f = omega arith

pub gone_less : (m : Counts) (ip q : List ℕ) → count_of m ip ≤ 1 → count_of (maps.remove m ip) q ≡ count_of m q - if_same ip q
gone_less m ip q most = count_gone m ip q ∙ step (pointwise ◌==◌ ip q) (bytes_decide ip q).0
  where
    none : (n : ℕ) → n ≤ 1 → 0 ≡ n - 1
    none n h = omega (arith, h)

    step : (b : Bool) → (b ≡ true → ip ≡ q) → cond b 0 (count_of m q) ≡ count_of m q - cond b 1 0
    step true f = none (count_of m ip) most ∙ ap (λ i. count_of m i - 1) (f refl)
    step false f = omega arith

-- ---- no count is 0

-- no address counts as having no key
pub zero_none : HasNoZero maps.empty
zero_none q is = none-some 0 (sym (maps.get-empty ip_cmp q) ∙ is)

pub zero_put : (m : Counts) (ip : List ℕ) (v : ℕ) → v ≢ 0 → HasNoZero m → HasNoZero (maps.insert m ip v)
zero_put m ip v some zero q is = step (eq_by_cmp ip_cmp q ip) (sym (maps.get-insert nat_list_cmp_total m ip v q) ∙ is)
  where
    step : (b : Bool) → cond b (Some v) (maps.get m q) ≡ Some 0 → ⊥
    step true h = some (ap (λ o. unwrap_or o 0) h)
    step false h = zero q h

pub zero_gone : (m : Counts) (ip : List ℕ) → HasNoZero m → HasNoZero (maps.remove m ip)
zero_gone m ip zero q is = step (eq_by_cmp ip_cmp q ip) (sym (maps.get-remove nat_list_cmp_total m ip q) ∙ is)
  where
    step : (b : Bool) → cond b None (maps.get m q) ≡ Some 0 → ⊥
    step true h = none-some 0 h
    step false h = zero q h

-- ---- a table that one key is put into, or taken out of

pub counted_new : (m n : Counts) (s : Contents) (k : Key) (v : EntryValue) → is_none (maps.get s k) ≡ true → CountsKeys m s → ((ip : List ℕ) → count_of n ip ≡ count_of m ip + if_same k.ip ip) → CountsKeys n (maps.insert s k v)
counted_new m n s k v new counted more ip = more ip ∙ ap (λ c. c + if_same k.ip ip) (counted ip) ∙ sym (held_insert (of_source ip) s k v ∙ ap (λ b. cond (of_source ip k && b) (held_keys (of_source ip) s + 1) (held_keys (of_source ip) s)) new ∙ step (of_source ip k))
  where
    step : (b : Bool) → cond (b && true) (held_keys (of_source ip) s + 1) (held_keys (of_source ip) s) ≡ held_keys (of_source ip) s + cond b 1 0
    step true = refl
    step false = omega arith

counted_without : (m n : Counts) (s : Contents) (k : Key) → maps.contains_key s k ≡ true → ((ip : List ℕ) → count_of n ip ≡ count_of m ip - if_same k.ip ip) → CountsKeys m s → CountsKeys n (maps.remove s k)
counted_without m n s k held less counted ip =
    less ip
    ∙ ap (λ c. c - if_same k.ip ip) (counted ip)
    ∙ sym (held_without (of_source ip) s k ∙ ap (λ b. cond (of_source ip k && b) (held_keys (of_source ip) s - 1) (held_keys (of_source ip) s)) held ∙ step (of_source ip k))
  where
    step : (b : Bool) → cond (b && true) (held_keys (of_source ip) s - 1) (held_keys (of_source ip) s) ≡ held_keys (of_source ip) s - cond b 1 0
    step true = refl
    step false = omega arith

pub count_none : (ip : List ℕ) → count_of maps.empty ip ≡ 0
count_none ip = ap (λ o. unwrap_or o 0) (maps.get-empty ip_cmp ip)

-- no key is counted by no count
pub counted_none : CountsKeys maps.empty maps.empty
counted_none ip =
    let none = count_none ip in
    let few = few_of_none 0 ip in
    omega (arith, none, few)

-- ---- what is kept of entries of which one is put in, or taken out

pub kept_none : (o : Option Counts) → IfSome o (λ m. m ≡ maps.empty) → AreCounted o maps.empty
kept_none None h = tt
kept_none (Some m) h = subst (λ n. CountsKeys n maps.empty) (sym h) counted_none

-- there is room to count one more
pub room_for_one : (o : Option Counts) (s : Contents) (ip : List ℕ) → maps.len s < 9223372036854775808 → AreCounted o s → IfSome o (λ m. count_of m ip < 9223372036854775808)
room_for_one None s ip room kept = tt
room_for_one (Some m) s ip room kept =
    let most = held_at_most (of_source ip) s in
    let is = kept ip in
    omega (arith, room, most, is)

pub kept_more : (o p : Option Counts) (s : Contents) (k : Key) (v : EntryValue) → maps.get s k ≡ None → Adds o p k.ip → AreCounted o s → AreCounted p (maps.insert s k v)
kept_more None p s k v new adds kept = subst (λ q. AreCounted q (maps.insert s k v)) (sym adds) tt
kept_more (Some m) None s k v new adds kept = tt
kept_more (Some m) (Some n) s k v new adds kept = counted_new m n s k v (ap is_none new) kept adds

counted_held : (m : Counts) (s : Contents) (k : Key) (v : EntryValue) → is_none (maps.get s k) ≡ false → CountsKeys m s → CountsKeys m (maps.insert s k v)
counted_held m s k v old counted ip = counted ip ∙ sym (held_insert (of_source ip) s k v ∙ ap (λ b. cond (of_source ip k && b) (held_keys (of_source ip) s + 1) (held_keys (of_source ip) s)) old ∙ step (of_source ip k))
  where
    step : (b : Bool) → cond (b && false) (held_keys (of_source ip) s + 1) (held_keys (of_source ip) s) ≡ held_keys (of_source ip) s
    step true = refl
    step false = refl

has_some : {X : Type 0} (o : Option X) → is_some o ≡ true → is_none o ≡ false
has_some None h = absurd (true≢false (sym h))
has_some (Some x) h = refl

-- an entry in the place of another changes no count
pub kept_held : (o : Option Counts) (s : Contents) (k : Key) (v : EntryValue) → is_some (maps.get s k) ≡ true → AreCounted o s → AreCounted o (maps.insert s k v)
kept_held None s k v held kept = tt
kept_held (Some m) s k v held kept = counted_held m s k v (has_some (maps.get s k) held) kept

-- a key that isn't held has no entry
pub none_at : {X : Type 0} (o : Option X) → is_some o ≡ false → o ≡ None
none_at None h = refl
none_at (Some x) h = absurd (true≢false h)

pub kept_less : (o p : Option Counts) (s : Contents) (k : Key) → is_some (maps.get s k) ≡ true → Takes o p k.ip → AreCounted o s → AreCounted p (maps.remove s k)
kept_less None p s k held takes kept = subst (λ q. AreCounted q (maps.remove s k)) (sym takes) tt
kept_less (Some m) None s k held takes kept = tt
kept_less (Some m) (Some n) s k held takes kept = counted_without m n s k held takes kept

-- entries of the same keys are counted alike
pub kept_keys : (o : Option Counts) (s t : Contents) → maps.keys s ≡ maps.keys t → AreCounted o s → AreCounted o t
kept_keys None s t same kept = tt
kept_keys (Some m) s t same kept = λ ip. kept ip ∙ ap (λ ks. length (filter (of_source ip) ks)) same

-- ---- Tables that keep to their limits.

-- the empty table does
pub empty_keeps : (l : Limits) → KeepsLimits (record { contents = maps.empty; limits = l })
empty_keeps l = record {
  count = (let none = maps.len-empty key_cmp EntryValue in omega (arith, none));
  sources = few_of_none l.per_source;
  short = λ k e h. (let clash = sym (maps.get-empty key_cmp k) ∙ h in absurd (cc clash));
  formed = λ k e h. (let clash = sym (maps.get-empty key_cmp k) ∙ h in absurd (cc clash));
}

-- ---- When one table takes in another, as tests of entries.

-- ---- short entries

short_decides : (n : ℕ) (e : EntryValue) → Decides (is_short n e) (IsShort n e)
short_decides n Spoilt = (λ _. tt, λ _. refl)
short_decides n (Held e) = (
  λ h. record { below = (bytes_below_decides n e.cover.bytes).0 (and_parts _ _ h).0; marks = (up_to_decides n e.cover.marks).0 (and_parts _ _ h).1 },
  λ h. and_from _ _ ((bytes_below_decides n e.cover.bytes).1 h.below) ((up_to_decides n e.cover.marks).1 h.marks),
)

pub all_short_decides : (n : ℕ) (t : Contents) → Decides (list_all (λ e. is_short n e.1) (maps.entries t)) (AllShort n t)
all_short_decides n t = (
  λ h k e f. (short_decides n e).0 (all_entries_found key_cmp_exact (λ k e. is_short n e) t h k e f),
  λ h. all_entries_from key_cmp_total key_cmp_exact (λ k e. is_short n e) t (λ k e f. (short_decides n e).1 (h k e f)),
)
