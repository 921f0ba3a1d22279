-- The keys that are marked are those at which two tables differ, ascending.
use Rattle.nbt_reassembly.proofs.Common.{◌≡◌, ◌&&◌, ◌||◌, cond, Bool, true, false, not, List, [], ◌∷◌, map, Option, Some, None, is_some, IsTrue, ◌↔◌, true≢false, refl, sym, ◌∙◌, ap, ap₂, subst, T, option_eq, list_any, Key, key_cmp, key_cmp_total, key_cmp_exact, Contents, join, differ_at, differing, Marks, with_mark, marked}
use Rattle.std.specs.Option.{option_map}
use Rattle.std.specs.Ordering.{eq_by_cmp, is_lt}
use Rattle.std.specs.FinMap.{is_sorted}
use Rattle.std.specs.FinMap.Entries.{below_all}
use Rattle.std.specs.FinMap as maps
use Rattle.nb_entries.specs.Maps.{joined_at}
use Rattle.nb_entries.specs.Entry.{EntryValue, join_entry}
use Rattle.nb_entries.specs.Equal.{same_entry}
use Rattle.nb_entries.specs.Shared.EqualLemmas.{entry_decides}
use Rattle.nb_entries.specs.Shared.MarksLemmas.{options_decide}
use Rattle.nb_table.specs.Shared.TableLemmas.{entries_kept, keys_kept, get_kept, get-join}
use Rattle.nb_entries.specs.Shared.MapsLemmas.{one_key}

-- ---- one key

-- a key at which the tables have the same isn't marked
pub unmarked : (t u : Contents) (s : Marks) (k : Key) (r : Bool) → IsTrue r ↔ (maps.get t k ≡ maps.get u k) → r ≡ true → s ≡ with_mark t u s k
unmarked t u s k r same is =
    sym (ap (λ b. cond (not b) (maps.insert s k tt) s) ((options_decide same_entry entry_decides (maps.get t k) (maps.get u k)).1 (same.0 is)))

-- one at which they haven't is
pub now_marked : (t u : Contents) (s : Marks) (k : Key) (r : Bool) → IsTrue r ↔ (maps.get t k ≡ maps.get u k) → r ≡ false → maps.insert s k tt ≡ with_mark t u s k
now_marked t u s k r same is = step (option_eq same_entry (maps.get t k) (maps.get u k)) refl
  where
    step : (b : Bool) → option_eq same_entry (maps.get t k) (maps.get u k) ≡ b → maps.insert s k tt ≡ cond (not b) (maps.insert s k tt) s
    step true h = absurd (true≢false (sym (same.1 ((options_decide same_entry entry_decides (maps.get t k) (maps.get u k)).0 h)) ∙ is))
    step false h = refl

-- ---- what is marked, by look-ups

-- marked_at b o: a mark where b says so, else what stands there
marked_at : Bool → Option Unit → Option Unit
marked_at b o = cond b (Some tt) o

get-with_mark : (t u : Contents) (s : Marks) (k q : Key) → maps.get (with_mark t u s k) q ≡ marked_at (eq_by_cmp key_cmp q k && differ_at t u q) (maps.get s q)
unfolding marked_at
get-with_mark t u s k q = step (differ_at t u k) refl (eq_by_cmp key_cmp q k) refl
  where
    step : (d : Bool) → differ_at t u k ≡ d → (e : Bool) → eq_by_cmp key_cmp q k ≡ e → maps.get (cond d (maps.insert s k tt) s) q ≡ cond (e && differ_at t u q) (Some tt) (maps.get s q)
    step true f true h = maps.get-insert key_cmp_total s k tt q ∙ ap (λ b. cond b (Some tt) (maps.get s q)) (h ∙ sym (ap (differ_at t u) (one_key key_cmp_exact q k h) ∙ f))
    step true f false h = maps.get-insert key_cmp_total s k tt q ∙ ap (λ b. cond b (Some tt) (maps.get s q)) h
    step false f true h = sym (ap (λ b. cond b (Some tt) (maps.get s q)) (ap (differ_at t u) (one_key key_cmp_exact q k h) ∙ f))
    step false f false h = refl

get-marked : (t u : Contents) (ks : List Key) (s : Marks) (q : Key) → maps.get (marked t u s ks) q ≡ marked_at (list_any (eq_by_cmp key_cmp q) ks && differ_at t u q) (maps.get s q)
unfolding marked_at
get-marked t u [] s q = refl
get-marked t u (k ∷ ks) s q =
    get-marked t u ks (with_mark t u s k) q
    ∙ ap (cond (list_any (eq_by_cmp key_cmp q) ks && differ_at t u q) (Some tt)) (get-with_mark t u s k q)
    ∙ step (list_any (eq_by_cmp key_cmp q) ks) (eq_by_cmp key_cmp q k) (differ_at t u q)
  where
    step : (a e d : Bool) → cond (a && d) (Some tt) (cond (e && d) (Some tt) (maps.get s q)) ≡ cond ((e || a) && d) (Some tt) (maps.get s q)
    step true true true = refl
    step true true false = refl
    step true false d = elim d as (λ d. cond d (Some tt) (maps.get s q) ≡ cond d (Some tt) (maps.get s q)) [ true ↦ refl | false ↦ refl ]
    step false true d = refl
    step false false d = refl

-- ---- maps with the same keys

-- unit_of x: nothing is kept of a value
abbrev unit_of : {X : Type 0} → X → Unit {0}
unit_of x = tt

-- unit_at e: nothing but the key is kept of an entry
abbrev unit_at : {X : Type 0} → Key × X → Key × Unit {0}
unit_at e = (e.0, tt)

find-unit : {X : Type 0} (q : Key) (es : List (Key × X)) → maps.find key_cmp q (map unit_at es) ≡ option_map unit_of (maps.find key_cmp q es)
find-unit q [] = refl
find-unit q (e ∷ es) = step (eq_by_cmp key_cmp q e.0) (find-unit q es)
  where
    step : (b : Bool) → maps.find key_cmp q (map unit_at es) ≡ option_map unit_of (maps.find key_cmp q es) → cond b (Some tt) (maps.find key_cmp q (map unit_at es)) ≡ option_map unit_of (cond b (Some e.1) (maps.find key_cmp q es))
    step true rec = refl
    step false rec = rec

below-unit : {X : Type 0} (k : Key) (es : List (Key × X)) → below_all key_cmp k (map unit_at es) ≡ below_all key_cmp k es
below-unit k [] = refl
below-unit k (e ∷ es) = ap (λ b. is_lt (key_cmp k e.0) && b) (below-unit k es)

sorted-unit : {X : Type 0} (es : List (Key × X)) → is_sorted key_cmp (map unit_at es) ≡ is_sorted key_cmp es
sorted-unit [] = refl
sorted-unit (e ∷ es) = ap₂ (λ a b. a && b) (below-unit e.0 es) (sorted-unit es)

keys-unit : {X : Type 0} (es : List (Key × X)) → map (λ (e : Key × Unit {0}). e.0) (map unit_at es) ≡ map (λ (e : Key × X). e.0) es
keys-unit [] = refl
keys-unit (e ∷ es) = ap (λ (ks : List Key). e.0 ∷ ks) (keys-unit es)

keys_are : (s : Marks) (n : Contents) → ((q : Key) → maps.get s q ≡ option_map unit_of (maps.get n q)) → maps.keys s ≡ maps.keys n
keys_are s n look =
    let es = map unit_at (maps.entries n) in
    let sorted = subst T (sym (sorted-unit (maps.entries n))) (maps.entries_sorted n) in
    let same : s ≡ maps.from_sorted es = maps.same_map key_cmp_total key_cmp_exact _ _ (λ q. look q ∙ ap (option_map unit_of) (maps.get-entries n q) ∙ sym (find-unit q (maps.entries n)) ∙ sym (maps.get-from_sorted key_cmp es q sorted)) in
    ap maps.keys same
    ∙ ap (map (λ e. e.0)) (maps.entries-from_sorted key_cmp es sorted)
    ∙ keys-unit (maps.entries n)

-- ---- the keys of both tables

both_at : (d : Bool) (a b : Option EntryValue) → cond (is_some b && d) (Some tt) (cond (is_some a && d) (Some tt) None) ≡ option_map unit_of (cond d (joined_at join_entry a b) None)
both_at true None None = refl
both_at true None (Some y) = refl
both_at true (Some x) None = refl
both_at true (Some x) (Some y) = refl
both_at false None None = refl
both_at false None (Some y) = refl
both_at false (Some x) None = refl
both_at false (Some x) (Some y) = refl

get-both : (t u : Contents) (q : Key) → maps.get (marked t u (marked t u maps.empty (maps.keys t)) (maps.keys u)) q ≡ option_map unit_of (maps.get (maps.retain_keys (join t u) (differ_at t u)) q)
unfolding marked_at
get-both t u q =
    get-marked t u (maps.keys u) (marked t u maps.empty (maps.keys t)) q
    ∙ ap (cond (list_any (eq_by_cmp key_cmp q) (maps.keys u) && differ_at t u q) (Some tt)) (get-marked t u (maps.keys t) maps.empty q)
    ∙ ap (λ o. cond (list_any (eq_by_cmp key_cmp q) (maps.keys u) && differ_at t u q) (Some tt) (cond (list_any (eq_by_cmp key_cmp q) (maps.keys t) && differ_at t u q) (Some tt) o)) (maps.get-empty key_cmp q)
    ∙ ap₂ (λ b a. cond (b && differ_at t u q) (Some tt) (cond (a && differ_at t u q) (Some tt) None)) (sym (maps.contains_key-keys u q)) (sym (maps.contains_key-keys t q))
    ∙ both_at (differ_at t u q) (maps.get t q) (maps.get u q)
    ∙ ap (λ o. option_map unit_of (cond (differ_at t u q) o None)) (sym (get-join t u q))
    ∙ ap (option_map unit_of) (sym (get_kept (join t u) (differ_at t u) q))

pub marks_are : (t u : Contents) → maps.keys (marked t u (marked t u maps.empty (maps.keys t)) (maps.keys u)) ≡ differing t u
marks_are t u =
    keys_are _ (maps.retain_keys (join t u) (differ_at t u)) (get-both t u)
    ∙ ap (map (λ e. e.0)) (entries_kept (join t u) (differ_at t u))
    ∙ keys_kept (differ_at t u) (maps.entries (join t u))
