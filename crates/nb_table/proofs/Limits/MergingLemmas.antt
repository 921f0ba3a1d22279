-- Tables merged: the limits are kept.
use Rattle.nb_table.proofs.Common.{◌≡◌, ℕ, cond, Bool, true, false, List, [], ◌∷◌, Option, Some, None, refl, sym, ◌∙◌, ap, subst, arith, ◌++◌, map, option_and_then, ap₂, append-nil, append_assoc, none-some, same_Some, T, eq_by_cmp, AllByRecursion, filter_map, cons_option, is_sorted, Key, key_cmp, key_cmp_total, key_cmp_exact, joined_at, joined_onto, EntryValue, join_entry, IsShort, Contents, datagram_at, newly_whole, join, IsTable, every_key, TableValue, KeepsLimits, with_contents, AllShort, Fits, newly_handed, joined_each, handed_at, with_entry, handed, one_key, tied_self, below_none, T_left, T_right, lt_not_eq, get-join, join_formed, eq_by_cmp_equiv, below_all, DatagramParts, datagram_of, newly, handed_by}
use Rattle.std.specs.FinMap as maps
use Rattle.nb_table.proofs.Changes.{short_join, short_onto}
use Rattle.nb_table.proofs.Joins.{joined_each_is, get-joined_each, same_given}
use Rattle.nb_table.proofs.Limits.GroupLemmas.{held_every, fit_held, few_join}
use Rattle.nb_entries.specs.declared.outline.Handing.{Handing}
use Rattle.nb_entries.specs.declared.outline.Handing.TheVariants.{Over}
use Rattle.nb_entries.specs.Shared.WholeLemmas.{newly_same}

-- ---- the limits

at_short : (n : ℕ) (a b : Option EntryValue) → ((e : EntryValue) → a ≡ Some e → IsShort n e) → ((e : EntryValue) → b ≡ Some e → IsShort n e) → (e : EntryValue) → joined_at join_entry a b ≡ Some e → IsShort n e
at_short n None b f g e h = g e h
at_short n (Some x) None f g e h = f e h
at_short n (Some x) (Some y) f g e h = subst (IsShort n) (same_Some (join_entry x y) e h) (short_join n x y (f x refl) (g y refl))

-- what fits keeps the limits
pub merge_keeps : (t : TableValue) (o : Contents) → KeepsLimits t → IsTable o → Fits t.limits t.contents o → KeepsLimits (with_contents t (join t.contents o))
merge_keeps t o keeps formed fits = record {
  count = (let size = held_every (join t.contents o) in
      let held = held_every t.contents in
      let most = keeps.count in
      omega (arith, size, fit_held t.limits.keys every_key t.contents o (omega (arith, held, most)) fits.room));
  sources = few_join t.limits.per_source t.contents o keeps.sources fits.sources;
  short = λ k e h. at_short t.limits.longest (maps.get t.contents k) (maps.get o k) (keeps.short k) (fits.short k) e (sym (get-join t.contents o k) ∙ h);
  formed = join_formed t.contents o keeps.formed formed;
}

-- the same of a table as it is seen, with the contents that it gets
pub merged_keeps : (inside now : TableValue) (o new : Contents) → inside ≡ now → KeepsLimits inside → IsTable o → Fits now.limits now.contents o → new ≡ join now.contents o → KeepsLimits (with_contents inside new)
merged_keeps inside now o new seen keeps formed =
    subst (λ (t : TableValue). Fits t.limits t.contents o → new ≡ join t.contents o → KeepsLimits (with_contents inside new)) seen
    (λ fits e. subst (λ c. KeepsLimits (with_contents inside c)) (sym e) (merge_keeps inside o keeps formed fits))

-- what fits is short by the limit of the table that takes it in, as the tables are seen
pub others_short : (inside now other others : TableValue) → inside ≡ now → other ≡ others → Fits now.limits now.contents others.contents → AllShort inside.limits.longest other.contents
others_short inside now other others seen seen_too fits =
    subst (λ (t : TableValue). AllShort inside.limits.longest t.contents) (sym seen_too)
    (subst (λ (t : TableValue). AllShort t.limits.longest others.contents) (sym seen) fits.short)

-- ---- short entries of a table that another's are joined to

insert_short : (n : ℕ) (t : Contents) (k : Key) (v : EntryValue) → AllShort n t → IsShort n v → AllShort n (maps.insert t k v)
insert_short n t k v all short q x h = step (eq_by_cmp key_cmp q k) (sym (maps.get-insert key_cmp_total t k v q) ∙ h)
  where
    step : (b : Bool) → cond b (Some v) (maps.get t q) ≡ Some x → IsShort n x
    step true g = subst (IsShort n) (same_Some v x g) short
    step false g = all q x g

-- a table whose entries are short, with one more joined
pub one_more_short : (n : ℕ) (t new : Contents) (k : Key) (e : EntryValue) → AllShort n t → IsShort n e → new ≡ maps.insert t k (joined_onto join_entry (maps.get t k) e) → AllShort n new
one_more_short n t new k e all short is =
    subst (AllShort n) (sym is) (insert_short n t k (joined_onto join_entry (maps.get t k) e) all (short_onto n (maps.get t k) e (all k) short))

-- ---- the entries of a table in order

-- joined one after the other, they are the join of both tables
pub joined_is : (t o new : Contents) (es : List (Key × EntryValue)) → es ≡ maps.entries o → new ≡ joined_each join_entry t es → new ≡ join t o
joined_is t o new es order is = is ∙ ap (joined_each join_entry t) order ∙ joined_each_is key_cmp_total key_cmp_exact join_entry t o

found_after : (e : Key × EntryValue) (es : List (Key × EntryValue)) → T (is_sorted key_cmp (e ∷ es)) → (q : Key) (x : EntryValue) (b : Bool) → eq_by_cmp key_cmp q e.0 ≡ b → maps.find key_cmp q es ≡ Some x → cond b (Some e.1) (maps.find key_cmp q es) ≡ Some x
found_after e es s q x true h f = absurd (none-some x (sym (ap (λ k. maps.find key_cmp k es) (one_key key_cmp_exact q e.0 h) ∙ below_none key_cmp e.0 es (T_left _ _ s)) ∙ f))
found_after e es s q x false h f = f

found_short : (n : ℕ) (es : List (Key × EntryValue)) → T (is_sorted key_cmp es) → ((q : Key) (x : EntryValue) → maps.find key_cmp q es ≡ Some x → IsShort n x) → AllByRecursion (λ (e : Key × EntryValue). IsShort n e.1) es
found_short n [] s h = tt
found_short n (e ∷ es) s h = (
  h e.0 e.1 (ap (λ b. cond b (Some e.1) (maps.find key_cmp e.0 es)) (tied_self key_cmp_total e.0)),
  found_short n es (T_right _ _ s) (λ q x f. h q x (found_after e es s q x (eq_by_cmp key_cmp q e.0) refl f)),
)

-- they are short where the table's are
pub entries_short : (n : ℕ) (t : Contents) → AllShort n t → AllByRecursion (λ (e : Key × EntryValue). IsShort n e.1) (maps.entries t)
entries_short n t all = found_short n (maps.entries t) (maps.entries_sorted t) (λ q x h. all q x (maps.get-entries t q ∙ h))

-- ---- What a merge hands over: the datagrams of the keys that become whole by it.

-- ---- a key

pub handed_held : (h : Handing) (t : Contents) (k : Key) (e x : EntryValue) (o : Option DatagramParts) → maps.get t k ≡ Some x → o ≡ handed_by h (newly (datagram_of k x) (datagram_of k (join_entry x e))) → o ≡ handed_at h t k e
handed_held h t k e x o at is = is ∙ sym (ap (λ a. handed_by h (newly (option_and_then (datagram_of k) a) (datagram_of k (joined_onto join_entry a e)))) at)

-- ---- keys joined one after the other

one_after : {D : Type 0} (ds : List D) (o : Option D) (rest : List D) → (ds ++ cons_option o []) ++ rest ≡ ds ++ cons_option o rest
one_after ds None rest = ap (λ q. q ++ rest) (append-nil ds)
one_after ds (Some d) rest = append_assoc ds (d ∷ []) rest

-- one more key
pub handed_turn : (h : Handing) (t new : Contents) (ds more : List DatagramParts) (k : Key) (e : EntryValue) (rest : List (Key × EntryValue)) → new ≡ with_entry t k e → more ≡ ds ++ cons_option (handed_at h t k e) [] → more ++ handed h new rest ≡ ds ++ handed h t ((k, e) ∷ rest)
handed_turn h t new ds more k e rest is given =
    ap₂ (λ q m. q ++ handed h m rest) given is ∙ one_after ds (handed_at h t k e) (handed h (with_entry t k e) rest)

-- a key below these makes no difference to the first of them
above_at : (t : Contents) (k : Key) (v : EntryValue) (e : Key × EntryValue) (es : List (Key × EntryValue)) → T (below_all key_cmp k (e ∷ es)) → maps.get (maps.insert t k v) e.0 ≡ maps.get t e.0
above_at t k v e es h =
    let other = (eq_by_cmp_equiv key_cmp_total).symm e.0 k ∙ lt_not_eq (key_cmp k e.0) (T_left _ _ h) in
    maps.get-insert key_cmp_total t k v e.0 ∙ ap (λ b. cond b (Some v) (maps.get t e.0)) other

-- nor to what they had
above_same : (t after : Contents) (k : Key) (v : EntryValue) (es : List (Key × EntryValue)) → T (below_all key_cmp k es) → filter_map (newly_whole (maps.insert t k v) after) (map (λ e. e.0) es) ≡ filter_map (newly_whole t after) (map (λ e. e.0) es)
above_same t after k v [] h = refl
above_same t after k v (e ∷ es) h =
    ap₂ cons_option (ap (λ o. newly (option_and_then (datagram_of e.0) o) (datagram_at after e.0)) (above_at t k v e es h)) (above_same t after k v es (T_right _ _ h))

handed_is : (t : Contents) (es : List (Key × EntryValue)) → T (is_sorted key_cmp es) → handed Over t es ≡ filter_map (newly_whole t (joined_each join_entry t es)) (map (λ e. e.0) es)
handed_is t [] s = refl
handed_is t (e ∷ es) s =
    let v = joined_onto join_entry (maps.get t e.0) e.1 in
    let next = maps.insert t e.0 v in
    let after = joined_each join_entry next es in
    let stands = maps.get-insert key_cmp_total t e.0 v e.0 ∙ ap (λ b. cond b (Some v) (maps.get t e.0)) (tied_self key_cmp_total e.0) in
    let stays = get-joined_each key_cmp_total key_cmp_exact join_entry next es (T_right _ _ s) e.0 ∙ ap₂ (joined_at join_entry) stands (below_none key_cmp e.0 es (T_left _ _ s)) in
    ap₂ cons_option (sym (ap (λ o. newly (datagram_at t e.0) (option_and_then (datagram_of e.0) o)) stays))
    (handed_is next es (T_right _ _ s) ∙ above_same t after e.0 v es (T_left _ _ s))

-- the keys that the other table lacks don't become whole
given_same : (t o : Contents) (k : Key) → option_and_then (λ _. newly_whole t (join t o) k) (maps.get (join t o) k) ≡ option_and_then (λ _. newly_whole t (join t o) k) (maps.get o k)
given_same t o k =
    ap (λ a. option_and_then (λ _. newly (datagram_at t k) (option_and_then (datagram_of k) a)) a) (get-join t o k)
    ∙ step (maps.get t k) (maps.get o k)
    ∙ sym (ap (λ a. option_and_then (λ _. newly (datagram_at t k) (option_and_then (datagram_of k) a)) (maps.get o k)) (get-join t o k))
  where
    step : (a b : Option EntryValue) → option_and_then (λ _. newly (option_and_then (datagram_of k) a) (option_and_then (datagram_of k) (joined_at join_entry a b))) (joined_at join_entry a b) ≡ option_and_then (λ _. newly (option_and_then (datagram_of k) a) (option_and_then (datagram_of k) (joined_at join_entry a b))) b
    step None None = refl
    step None (Some y) = refl
    step (Some x) None = newly_same (datagram_of k x)
    step (Some x) (Some y) = refl

-- all keys of the other table
pub handed_all : (t o : Contents) → handed Over t (maps.entries o) ≡ newly_handed t (join t o)
handed_all t o =
    handed_is t (maps.entries o) (maps.entries_sorted o)
    ∙ ap (λ j. filter_map (newly_whole t j) (maps.keys o)) (joined_each_is key_cmp_total key_cmp_exact join_entry t o)
    ∙ sym (same_given key_cmp_total key_cmp_exact (newly_whole t (join t o)) (join t o) o (given_same t o))

-- ---- keys looked at one by one

-- what is handed over of each of these, if it alone is joined to the table t
abbrev pub seen : Contents → List (Key × EntryValue) → List DatagramParts
seen t es = filter_map (λ (e : Key × EntryValue). handed_at Over t e.0 e.1) es

-- a key below these makes no difference to what is seen of them
above_seen : (t : Contents) (k : Key) (v : EntryValue) (es : List (Key × EntryValue)) → T (below_all key_cmp k es) → seen (maps.insert t k v) es ≡ seen t es
above_seen t k v [] h = refl
above_seen t k v (e ∷ es) h =
    ap₂ cons_option
    (ap (λ a. newly (option_and_then (datagram_of e.0) a) (datagram_of e.0 (joined_onto join_entry a e.1))) (above_at t k v e es h))
    (above_seen t k v es (T_right _ _ h))

seen_each : (t : Contents) (es : List (Key × EntryValue)) → T (is_sorted key_cmp es) → seen t es ≡ handed Over t es
seen_each t [] s = refl
seen_each t (e ∷ es) s =
    let v = joined_onto join_entry (maps.get t e.0) e.1 in
    ap (cons_option (handed_at Over t e.0 e.1)) (sym (above_seen t e.0 v es (T_left _ _ s)) ∙ seen_each (maps.insert t e.0 v) es (T_right _ _ s))

-- all keys of the other table
pub seen_all : (t o : Contents) → seen t (maps.entries o) ≡ newly_handed t (join t o)
seen_all t o = seen_each t (maps.entries o) (maps.entries_sorted o) ∙ handed_all t o
