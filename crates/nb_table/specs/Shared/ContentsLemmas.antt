-- What a list of fragments says of a key, one fragment at a time: the entry of a fragment in front of
-- others is the join of its own facts with the entry of the others.
use Rattle.std.proofs.Common.{◌≡◌, ◌++◌, ◌||◌, ◌&&◌, ℕ, Bool, true, false, cond, not, List, [], ◌∷◌, Option, Some, refl, sym, ◌∙◌, ap, subst, ◌⊎◌, inl, inr, zero, suc, Contains, None, arith}
use Rattle.std.proofs.lemmas.List.Elements.{filter-append, Contains-append_cases, Contains-append_left, Contains-append_right}
use Rattle.std.specs.Ordering.{nat_cmp}
use Rattle.std.specs.Cmp.{nat_cmp_total}
use Rattle.std.specs.List.{list_any}
use Rattle.std.specs.FinMap as maps
use Rattle.nb_datagram.specs.Key.{same_key, key_cmp_total, key_cmp_exact, same_key_decides}
use Rattle.nb_datagram.specs.Fragment.{Core, byte_of}
use Rattle.nb_entries.specs.Maps.{first_of, joined_at}
use Rattle.nb_entries.specs.declared.slot.Slot.TheVariants.{Spoilt, Held}
use Rattle.nb_entries.specs.Cover.{CoverFacts, covers_together, placed, cover_of}
use Rattle.nb_entries.specs.Entry.{EntryFacts, EntryValue, facts_agree, facts_together, join_entry, facts_of, IsEntry}
use Rattle.nb_table.specs.Conflict.{conflicts, some_conflict, with_key, keyed}
use Rattle.nb_table.specs.Contents.{first_byte, all_placed, cover_in, facts_in, entry_in, entry_at, table_of}
use Rattle.nb_table.specs.Join.{join, IsTable, SameCores}
use Rattle.nb_entries.specs.Shared.MapsLemmas.{at-assoc, joined-empty}
use Rattle.nb_entries.specs.Shared.SlotLemmas.{agree_union}
use Rattle.nb_entries.specs.Shared.CoverLemmas.{same_cover, in_union}
use Rattle.nb_entries.specs.Shared.PlacedLemmas.{find-placed, find-append, cover_of_formed}
use Rattle.nb_entries.specs.Shared.EntryLemmas.{facts_unite, join_entry-assoc}
use Rattle.nb_table.specs.Shared.TableLemmas.{same_table, get-join, at_formed, join-comm, join-assoc, join-idem, facts_in-one, get-table_of}
use Rattle.std.proofs.lemmas.Bool.{true≢false, or_parts}
use Rattle.nb_datagram.specs.declared.key.Key.{Key}

-- ---- the cover of fragments

-- the finite map has at each place the first byte there
pub get-cover_in : (fs : List Core) (i : ℕ) → maps.get (cover_in fs).bytes i ≡ first_byte fs i
get-cover_in fs i = maps.get-from_entries nat_cmp_total (all_placed fs) i ∙ found fs
  where
    found : (gs : List Core) → maps.find nat_cmp i (all_placed gs) ≡ first_byte gs i
    found [] = refl
    found (g ∷ gs) =
        find-append nat_cmp (placed g.offset g.bytes) (all_placed gs) i
        ∙ ap (λ o. first_of o (maps.find nat_cmp i (all_placed gs))) (find-placed g.offset g.bytes i)
        ∙ ap (first_of (byte_of g i)) (found gs)

cover_in-cons : (f : Core) (fs : List Core) → cover_in (f ∷ fs) ≡ covers_together (cover_of f) (cover_in fs)
cover_in-cons f fs = same_cover _ _ (λ i.
    maps.get-from_entries nat_cmp_total (all_placed (f ∷ fs)) i
    ∙ find-append nat_cmp (placed f.offset f.bytes) (all_placed fs) i
    ∙ ap (λ o. first_of o (maps.find nat_cmp i (all_placed fs))) (sym (maps.get-from_entries nat_cmp_total (placed f.offset f.bytes) i))
    ∙ ap (first_of (maps.get (cover_of f).bytes i)) (sym (maps.get-from_entries nat_cmp_total (all_placed fs) i))
    ∙ sym (in_union (cover_of f) (cover_in fs) i))
    refl

with_cover : Core → CoverFacts → EntryFacts
with_cover f c = record { kind = f.kind; source = f.source; destination = f.destination; cover = c }

pub facts_in-cons : (f g : Core) (gs : List Core) → facts_in f (f ∷ g ∷ gs) ≡ facts_together (facts_of f) (facts_in g (g ∷ gs))
unfolding with_cover
facts_in-cons f g gs = ap (with_cover f) (cover_in-cons f (g ∷ gs))

-- ---- what agrees with the facts of several

one_of : (a b : Bool) → (a && not b) ≡ not (not a || b)
one_of true b = refl
one_of false b = refl

only_one : (a : Bool) → a ≡ not (not a || false)
only_one true = refl
only_one false = refl

-- facts agree with those of fragments without conflict exactly where they agree with each
pub agree_each : (x : EntryFacts) (g : Core) (gs : List Core) → some_conflict (g ∷ gs) ≡ false → facts_agree x (facts_in g (g ∷ gs)) ≡ not (list_any (λ h. not (facts_agree x (facts_of h))) (g ∷ gs))
agree_each x g [] h = ap (facts_agree x) (facts_in-one g) ∙ only_one (facts_agree x (facts_of g))
agree_each x g (h ∷ hs) e =
    let free : list_any (conflicts g) (h ∷ hs) ≡ false = (or_parts _ _ e).0 in
    let rest : some_conflict (h ∷ hs) ≡ false = (or_parts _ _ e).1 in
    let near = agree_each (facts_of g) h hs rest ∙ ap not free in
    ap (facts_agree x) (facts_in-cons g h hs)
    ∙ agree_union facts_unite x (facts_of g) (facts_in h (h ∷ hs)) near
    ∙ ap (λ b. facts_agree x (facts_of g) && b) (agree_each x h hs rest)
    ∙ one_of (facts_agree x (facts_of g)) _

-- ---- the entry of fragments of one key

or_true : (a : Bool) → (a || true) ≡ true
or_true true = refl
or_true false = refl

entry_step : (f g : Core) (gs : List Core) (b : Bool) → some_conflict (g ∷ gs) ≡ b →
    ◌≡◌ {A = Option EntryValue} (Some (cond (list_any (conflicts f) (g ∷ gs) || b) Spoilt (Held (facts_in f (f ∷ g ∷ gs)))))
    (Some (join_entry (Held (facts_of f)) (cond b Spoilt (Held (facts_in g (g ∷ gs))))))
entry_step f g gs true e = ap (λ p. Some (cond p Spoilt (Held (facts_in f (f ∷ g ∷ gs))))) (or_true (list_any (conflicts f) (g ∷ gs)))
entry_step f g gs false e =
    ap (λ x. Some (cond (list_any (conflicts f) (g ∷ gs) || false) Spoilt (Held x))) (facts_in-cons f g gs)
    ∙ choice (list_any (conflicts f) (g ∷ gs)) (facts_agree (facts_of f) (facts_in g (g ∷ gs))) (agree_each (facts_of f) g gs e) (facts_together (facts_of f) (facts_in g (g ∷ gs)))
  where
    choice : (p q : Bool) → q ≡ not p → (x : EntryFacts) → ◌≡◌ {A = Option EntryValue} (Some (cond (p || false) Spoilt (Held x))) (Some (cond q (Held x) Spoilt))
    choice true q e x = ap (λ r. Some (cond r (Held x) Spoilt)) (sym e)
    choice false q e x = ap (λ r. Some (cond r (Held x) Spoilt)) (sym e)

pub entry_in-cons : (f : Core) (fs : List Core) → entry_in (f ∷ fs) ≡ joined_at join_entry (Some (Held (facts_of f))) (entry_in fs)
entry_in-cons f [] = ap (λ x. Some (Held x)) (facts_in-one f)
entry_in-cons f (g ∷ gs) = entry_step f g gs (some_conflict (g ∷ gs)) refl

pub entry_in-append : (fs gs : List Core) → entry_in (fs ++ gs) ≡ joined_at join_entry (entry_in fs) (entry_in gs)
entry_in-append [] gs = refl
entry_in-append (f ∷ fs) gs =
    entry_in-cons f (fs ++ gs)
    ∙ ap (joined_at join_entry (Some (Held (facts_of f)))) (entry_in-append fs gs)
    ∙ sym (at-assoc join_entry join_entry-assoc (Some (Held (facts_of f))) (entry_in fs) (entry_in gs))
    ∙ ap (λ a. joined_at join_entry a (entry_in gs)) (sym (entry_in-cons f fs))

pub entry_in_formed : (fs : List Core) (e : EntryValue) → entry_in fs ≡ Some e → IsEntry e
entry_in_formed [] e h = absurd (cc)
entry_in_formed (f ∷ fs) e h = at_formed (Some (Held (facts_of f))) (entry_in fs) (single f) (entry_in_formed fs) e (sym (entry_in-cons f fs) ∙ h)
  where
    single : (g : Core) (e : EntryValue) → ◌≡◌ {A = Option EntryValue} (Some (Held (facts_of g))) (Some e) → IsEntry e
    single g e h = let one : Held (facts_of g) ≡ e = cc in subst IsEntry one (cover_of_formed g)

-- ---- the table of a list

pub table_of-append : (L M : List Core) → table_of (L ++ M) ≡ join (table_of L) (table_of M)
table_of-append L M = same_table _ _ (λ k.
    get-table_of (L ++ M) k
    ∙ ap entry_in (filter-append (λ f. same_key k f.key) L M)
    ∙ entry_in-append (with_key k L) (with_key k M)
    ∙ ap (λ a. joined_at join_entry a (entry_at M k)) (sym (get-table_of L k))
    ∙ ap (joined_at join_entry (maps.get (table_of L) k)) (sym (get-table_of M k))
    ∙ sym (get-join (table_of L) (table_of M) k))

pub table_of_formed : (L : List Core) → IsTable (table_of L)
table_of_formed L k e h = entry_in_formed (with_key k L) e (sym (get-table_of L k) ∙ h)

-- ---- The set of fragments decides the table; and without a key's fragments it is the table without the key.

-- ---- elements

-- an element is the first one or among the others
pub in_cons : {X : Type 0} (y : X) (ys : List X) (x : X) → Contains (y ∷ ys) x → (y ≡ x) ⊎ Contains ys x
in_cons y ys x (zero, h, e) = inl e
in_cons y ys x (suc k, h, e) = inr (k, omega arith, e)

pub in_first : {X : Type 0} (y : X) (ys : List X) → Contains (y ∷ ys) y
in_first y ys = (0, omega arith, refl)

pub in_rest : {X : Type 0} (y : X) (ys : List X) (x : X) → Contains ys x → Contains (y ∷ ys) x
in_rest y ys x (k, h, e) = (suc k, omega arith, e)

pub in_none : {X : Type 0} (x : X) → Contains [] x → ⊥
in_none x (k, h, e) = omega arith

-- ---- the set decides

-- a fragment in front
one_more : (f : Core) (L : List Core) → table_of (f ∷ L) ≡ join (table_of (f ∷ [])) (table_of L)
one_more f L = table_of-append (f ∷ []) L

-- a fragment of the list adds nothing
absorbed : (L : List Core) (f : Core) → Contains L f → join (table_of (f ∷ [])) (table_of L) ≡ table_of L
absorbed [] f h = absurd (in_none f h)
absorbed (g ∷ gs) f h = elim (in_cons g gs f h) [
  | inl e ↦
      ap (λ x. join (table_of (x ∷ [])) (table_of (g ∷ gs))) (sym e)
      ∙ ap (join (table_of (g ∷ []))) (one_more g gs)
      ∙ sym (join-assoc (table_of (g ∷ [])) (table_of (g ∷ [])) (table_of gs))
      ∙ ap (λ t. join t (table_of gs)) (join-idem (table_of (g ∷ [])) (table_of_formed (g ∷ [])))
      ∙ sym (one_more g gs)
  | inr c ↦
      ap (join (table_of (f ∷ []))) (one_more g gs)
      ∙ sym (join-assoc (table_of (f ∷ [])) (table_of (g ∷ [])) (table_of gs))
      ∙ ap (λ t. join t (table_of gs)) (join-comm (table_of (f ∷ [])) (table_of (g ∷ [])))
      ∙ join-assoc (table_of (g ∷ [])) (table_of (f ∷ [])) (table_of gs)
      ∙ ap (join (table_of (g ∷ []))) (absorbed gs f c)
      ∙ sym (one_more g gs)
]

-- fragments of the list add nothing
pub all_absorbed : (M L : List Core) → ((f : Core) → Contains M f → Contains L f) → join (table_of M) (table_of L) ≡ table_of L
all_absorbed [] L h = joined-empty key_cmp_total key_cmp_exact join_entry (table_of L)
all_absorbed (f ∷ M) L h =
    ap (λ t. join t (table_of L)) (one_more f M)
    ∙ join-assoc (table_of (f ∷ [])) (table_of M) (table_of L)
    ∙ ap (join (table_of (f ∷ []))) (all_absorbed M L (λ g c. h g (in_rest f M g c)))
    ∙ absorbed L f (h f (in_first f M))

pub same_cores-same_table : (L M : List Core) → SameCores L M → table_of L ≡ table_of M
same_cores-same_table L M h =
    sym (all_absorbed M L (λ f. (h f).1))
    ∙ join-comm (table_of M) (table_of L)
    ∙ all_absorbed L M (λ f. (h f).0)

-- ---- turned round

-- the order of two lists makes no difference to what they have
pub turned_cores : (L M : List Core) → SameCores (L ++ M) (M ++ L)
turned_cores L M f = (turn L M, turn M L)
  where
    turn : (xs ys : List Core) → Contains (xs ++ ys) f → Contains (ys ++ xs) f
    turn xs ys c = elim (Contains-append_cases xs ys f c) [ inl h ↦ Contains-append_right ys xs f h | inr h ↦ Contains-append_left ys xs f h ]

-- ---- the keys that pass a test

kept : (q : Key) (f : Core) (W F : List Core) (a b c : Bool) → same_key q f.key ≡ a → (a ≡ true → c ≡ b) → with_key q W ≡ cond b F [] → with_key q (cond c (f ∷ W) W) ≡ cond b (cond a (f ∷ F) F) []
kept q f W F true true true e h rec = ap (λ b. cond b (f ∷ with_key q W) (with_key q W)) e ∙ ap (λ (r : List Core). f ∷ r) rec
kept q f W F true true false e h rec = absurd (true≢false (sym (h refl)))
kept q f W F true false true e h rec = absurd (true≢false (h refl))
kept q f W F true false false e h rec = rec
kept q f W F false b true e h rec = ap (λ b. cond b (f ∷ with_key q W) (with_key q W)) e ∙ rec
kept q f W F false b false e h rec = rec

-- what a key has of the fragments whose keys pass a test
with-keyed : (p : Key → Bool) (q : Key) (L : List Core) → with_key q (keyed p L) ≡ cond (p q) (with_key q L) []
with-keyed p q [] = empty (p q)
  where
    empty : (b : Bool) → ◌≡◌ {A = List Core} [] (cond b [] [])
    empty true = refl
    empty false = refl
with-keyed p q (f ∷ fs) =
    kept q f (keyed p fs) (with_key q fs) (same_key q f.key) (p q) (p f.key) refl
    (λ e. ap p (sym ((same_key_decides q f.key).0 e))) (with-keyed p q fs)

chosen : (b : Bool) (fs : List Core) → entry_in (cond b fs []) ≡ cond b (entry_in fs) None
chosen true fs = refl
chosen false fs = refl

pub retain-table_of : (L : List Core) (p : Key → Bool) → maps.retain_keys (table_of L) p ≡ table_of (keyed p L)
retain-table_of L p = same_table _ _ (λ q.
    maps.get-retain_keys (table_of L) p q (λ k e. ap p (sym (key_cmp_exact q k e)))
    ∙ ap (λ o. cond (p q) o None) (get-table_of L q)
    ∙ sym (chosen (p q) (with_key q L))
    ∙ ap entry_in (sym (with-keyed p q L))
    ∙ sym (get-table_of (keyed p L) q))
