-- The entries of a tree map as a finite map: what a look-up, an insert and a loan do to it.
use Rattle.std.proofs.Common.{◌≡◌, List, [], ◌∷◌, Bool, true, false, cond, Option, Some, None, is_some, refl, sym, ◌∙◌, ap, subst, length}
use Rattle.std.specs.Prelude.{T, map as list_map}
use Rattle.std.specs.List.{AllByRecursion}
use Rattle.std.specs.List.Sorted.{IsStrictlySortedBy}
use Rattle.std.specs.Map.{keys_of, lookup}
use Rattle.std.specs.FinMap.{is_sorted}
use Rattle.std.specs.FinMap.Entries.{below_all}
use Rattle.std.proofs.lemmas.Map.Keys.{sorted_head, sorted_tail}
use Rattle.std.specs.declared.cmp.Ordering.{Ordering}
use Rattle.std.specs.declared.cmp.Ordering.TheVariants.{Less}
use Rattle.std.specs.Ordering.{eq_by_cmp, is_lt}
use Rattle.std.specs.Cmp.{Equal-is, IsTotalOrder, eq_by_cmp_equiv}
use Rattle.std.specs.Borrow.{MutBor}
use Rattle.std.specs.Option.{OnSome, option_copied_mut}
use Rattle.std.specs.BTreeMap as tree
use Rattle.std.specs.BTreeMap.{BTreeMap}
use Rattle.std.specs.FinMap as map
use Rattle.nb_entries.specs.Shared.MapsLemmas.{T_both, sorted_entries}

find_is : {K X : Type 0} (R : K → K → Ordering) (q : K) (es : List (K × X)) → map.find R q es ≡ lookup (tree.is_at (R q)) es
find_is R q [] = refl
find_is R q (e ∷ es) = ap (cond (eq_by_cmp R q e.0) (Some e.1)) (find_is R q es)

-- a look-up in the tree is one in the finite map
pub get_is : {K X : Type 0} {R : K → K → Ordering} → IsTotalOrder R → (m : BTreeMap K X) (q : K) → map.get (map.from_entries {R = R} m.entries) q ≡ tree.get R m q
get_is {R = R} o m q = map.get-from_entries o m.entries q ∙ find_is R q m.entries

-- an insert into the tree is one into the finite map
pub insert_is : {K X : Type 0} {R : K → K → Ordering} → IsTotalOrder R → map.IsAntisymmetric R → (m n : BTreeMap K X) (k : K) (v : X) → tree.Updates R m n k (Some v) → map.from_entries {R = R} n.entries ≡ map.insert (map.from_entries m.entries) k v
insert_is {R = R} o exact m n k v u =
    map.same_map o exact _ _ (λ q. get_is o n q ∙ u.0 q
    ∙ ap (λ b. cond b (Some v) (tree.get R m q)) ((eq_by_cmp_equiv o).symm k q)
    ∙ sym (map.get-insert o (map.from_entries m.entries) k v q ∙ ap (cond (eq_by_cmp R q k) (Some v)) (get_is o m q)))

-- to take a key out of the tree is to take it out of the finite map
pub remove_is : {K X : Type 0} {R : K → K → Ordering} → IsTotalOrder R → map.IsAntisymmetric R → (m n : BTreeMap K X) (k : K) → tree.Updates R m n k None → map.from_entries {R = R} n.entries ≡ map.remove (map.from_entries m.entries) k
remove_is {R = R} o exact m n k u =
    map.same_map o exact _ _ (λ q. get_is o n q ∙ u.0 q
    ∙ ap (λ b. cond b None (tree.get R m q)) ((eq_by_cmp_equiv o).symm k q)
    ∙ sym (map.get-remove o (map.from_entries m.entries) k q ∙ ap (cond (eq_by_cmp R q k) None) (get_is o m q)))

-- a held key whose value was changed through a loan has the changed value
pub changed_is : {K X : Type 0} {R : K → K → Ordering} → IsTotalOrder R → map.IsAntisymmetric R → (m n : BTreeMap K X) (k : K) (v w : X) → Some v ≡ tree.get R m k → tree.WritesThrough R (R k) m w n → map.from_entries {R = R} n.entries ≡ map.insert (map.from_entries m.entries) k w
changed_is o exact m n k v w found t = insert_is o exact m n k w (t.3 (sym (ap is_some found)))

-- ---- the entries in order

pub less_is : (r : Ordering) → r ≡ Less → T (is_lt r)
less_is r e = subst (λ x. T (is_lt x)) (sym e) tt

below_is : {K X : Type 0} (R : K → K → Ordering) (k : K) (es : List (K × X)) → AllByRecursion (λ y. R k y ≡ Less) (keys_of es) → T (below_all R k es)
below_is R k [] h = tt
below_is R k (e ∷ es) h = T_both _ _ (less_is _ h.0) (below_is R k es h.1)

pub sorted_is : {K X : Type 0} (R : K → K → Ordering) (es : List (K × X)) → IsStrictlySortedBy R (keys_of es) → T (is_sorted R es)
sorted_is R [] h = tt
sorted_is R (e ∷ es) h = T_both _ _ (below_is R e.0 es (sorted_head R e.0 (keys_of es) h)) (sorted_is R es (sorted_tail R e.0 (keys_of es) h))

-- the finite map of a tree's entries has these entries
pub entries_are : {K X : Type 0} {R : K → K → Ordering} → IsTotalOrder R → map.IsAntisymmetric R → (m : BTreeMap K X) → tree.IsOrdered R m → map.entries (map.from_entries {R = R} m.entries) ≡ m.entries
entries_are {R = R} o exact m h = sorted_entries o exact m.entries (sorted_is R m.entries h)

-- and it has as many
pub len_is : {K X : Type 0} {R : K → K → Ordering} → IsTotalOrder R → map.IsAntisymmetric R → (m : BTreeMap K X) → tree.IsOrdered R m → map.len (map.from_entries {R = R} m.entries) ≡ tree.btree_map_len m
len_is {R = R} o exact m h = map.len-entries (map.from_entries {R = R} m.entries) ∙ ap length (entries_are o exact m h)

-- trees of one finite map have the same entries
pub same_list : {K X : Type 0} {R : K → K → Ordering} → IsTotalOrder R → map.IsAntisymmetric R → (m n : BTreeMap K X) → tree.IsOrdered R m → tree.IsOrdered R n → map.from_entries {R = R} m.entries ≡ map.from_entries n.entries → m.entries ≡ n.entries
same_list o exact m n f g e = sym (entries_are o exact m f) ∙ ap map.entries e ∙ entries_are o exact n g

-- ---- a loan

-- to write through a loan leaves the keys
pub written_keys : {K X : Type 0} {R : K → K → Ordering} → IsTotalOrder R → map.IsAntisymmetric R → (c : K → Ordering) (m n : BTreeMap K X) (w : X) → tree.IsOrdered R m → tree.WritesThrough R c m w n → map.keys (map.from_entries {R = R} m.entries) ≡ map.keys (map.from_entries {R = R} n.entries)
written_keys {K = K} {X = X} o exact c m n w h t =
    ap (list_map (λ (e : K × X). e.0)) (entries_are o exact m h)
    ∙ sym (ap (list_map (λ (e : K × X). e.0)) (entries_are o exact n t.4) ∙ t.1)

-- what was lent of a key is put in again as it was written, and nothing where nothing was lent
pub lent_is : {K X : Type 0} {R : K → K → Ordering} → IsTotalOrder R → map.IsAntisymmetric R → (m n : BTreeMap K X) (k : K) (w : X) (r : Option (MutBor X)) → option_copied_mut r ≡ tree.get R m k → tree.WritesThrough R (R k) m w n → OnSome r (map.from_entries {R = R} n.entries ≡ map.insert (map.from_entries m.entries) k w)
lent_is o exact m n k w None found t = tt
lent_is o exact m n k w (Some x) found t = changed_is o exact m n k x.now w found t

-- ---- a key put in and taken out again

pub taken_back : {K X : Type 0} {R : K → K → Ordering} → IsTotalOrder R → map.IsAntisymmetric R → (s : map.FinMap R X) (k : K) (v : X) → map.get s k ≡ None → map.remove (map.insert s k v) k ≡ s
taken_back {X = X} {R = R} o exact s k v none =
    map.same_map o exact _ _ (λ q. map.get-remove o (map.insert s k v) k q
    ∙ ap (cond (eq_by_cmp R q k) None) (map.get-insert o s k v q)
    ∙ step q (eq_by_cmp R q k) refl)
  where
    step : (q : _) (b : Bool) → eq_by_cmp R q k ≡ b → cond b None (cond b (Some v) (map.get s q)) ≡ map.get s q
    step q true h = sym none ∙ ap (map.get s) (sym (exact q k ((Equal-is (R q k)).0 h)))
    step q false h = refl
