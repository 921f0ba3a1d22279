-- A change is one, and so is a state: their conditions exclude one another.
use Rattle.nb_table.proofs.Common.{◌≡◌, Option, Some, None, refl, sym, ◌∙◌, ap, subst, option_and_then, ◌≢◌, ◌<◌, ◌≤◌, ℕ, ◌+◌, Bool, true, false, cond, [], ◌∷◌, arith, is_some, inl, inr, Result, Ok, Err, IfErr, OnErr, IsOk, not, Key, DatagramParts, FragmentParts, Core, core_of, reach, Spoilt, Held, EntryFacts, EntryValue, FactsFit, facts_agree, facts_of, facts_together, join_entry, AreShort, IsShort, Contents, table_of, IsWholeAt, datagram_at, newly_whole, IsWhole, datagram_of, newly, Change, KeyChange, same_Some, booleans_Decides, same_key, key_cmp_total, key_cmp_exact, same_key_decides, joined_onto, IsTable, TableValue, IsFull, IsFullSource, KeepsLimits, held_keys, of_source, NeedsNoMemory, spoilt, contradicts, held, Refuses, join_formed, join_one, insert_at, needs_new, cases_lt, not-false}
use Rattle.std.specs.FinMap as maps
use Rattle.nb_entries.specs.declared.outline.Change.TheVariants.{Whole, Same, Grown, Spoilt as Spoils}
use Rattle.nb_entries.specs.declared.outline.State.{State}
use Rattle.nb_entries.specs.declared.outline.State.TheVariants.{Absent, Partial, Spoilt as IsSpoilt, Whole as IsWholly}
use Rattle.nb_table.specs.Change.{IsChange, IsSpoiltAt, BecomesSpoilt}
use Rattle.nb_table.specs.State.{IsState, IsPartialAt}
use Rattle.nb_entries.specs.Shared.WholeLemmas.{newly_none, newly_same}
use Rattle.std.specs.Bool.{beq}
use Rattle.std.specs.Result.{IsErrAnd}
use Rattle.nb_table.specs.declared.fault.TableFault.{TableFault}
use Rattle.nb_table.specs.declared.fault.TableFault.TheVariants.{MisplacedFirst, TooLong, FullSource, Full, NoMemory}
use Rattle.nb_table.proofs.Limits.GroupLemmas.{few_insert}
use Rattle.nb_table.specs.Insert.{Passes}
use Rattle.nb_entries.specs.Shared.MarksLemmas.{up_to_reach, up_to_both, up_to_more}
use Rattle.nb_entries.specs.Shared.CoverLemmas.{bytes_below_both}
use Rattle.nb_entries.specs.Shared.PlacedLemmas.{below_by_reach}
use Rattle.nb_entries.specs.Shared.EntryLemmas.{facts_fit_of}
use Rattle.nb_table.specs.Shared.ContentsLemmas.{table_of_formed}

-- a spoilt key isn't whole
spoilt_whole : (a b : Contents) (k : Key) (d : DatagramParts) → BecomesSpoilt a b k → newly_whole a b k ≡ Some d → ⊥
spoilt_whole a b k d s w =
    let clash : None ≡ Some d = sym (newly_none (datagram_at a k)) ∙ ap (λ o. newly (datagram_at a k) (option_and_then (datagram_of k) o)) (sym s.spoilt) ∙ w in
    absurd (cc clash)

same_whole : (a b : Contents) (k : Key) (d : DatagramParts) → b ≡ a → newly_whole a b k ≡ Some d → ⊥
same_whole a b k d e w =
    let clash : None ≡ Some d = sym (newly_same (datagram_at a k)) ∙ ap (λ t. newly_whole a t k) (sym e) ∙ w in
    absurd (cc clash)

same_spoilt : (a b : Contents) (k : Key) → b ≡ a → BecomesSpoilt a b k → ⊥
same_spoilt a b k e s = s.not_yet (ap (λ t. maps.get t k) (sym e) ∙ s.spoilt)

pub one_change : (a b : Contents) (k : Key) (c d : Change) → IsChange a b k c → IsChange a b k d → c ≡ d
one_change a b k Spoils Spoils p q = refl
one_change a b k Spoils (Whole d) p q = absurd (spoilt_whole a b k d p q)
one_change a b k Spoils Same p q = absurd (same_spoilt a b k q p)
one_change a b k Spoils Grown p q = absurd (q.not_spoilt p)
one_change a b k (Whole d) Spoils p q = absurd (spoilt_whole a b k d q p)
one_change a b k (Whole d) (Whole e) p q = let both : Some d ≡ Some e = sym p ∙ q in cc
one_change a b k (Whole d) Same p q = absurd (same_whole a b k d q p)
one_change a b k (Whole d) Grown p q = let clash : Some d ≡ None = sym p ∙ q.not_whole in absurd (cc clash)
one_change a b k Same Spoils p q = absurd (same_spoilt a b k p q)
one_change a b k Same (Whole d) p q = absurd (same_whole a b k d p q)
one_change a b k Same Same p q = refl
one_change a b k Same Grown p q = absurd (q.differs p)
one_change a b k Grown Spoils p q = absurd (p.not_spoilt q)
one_change a b k Grown (Whole d) p q = let clash : Some d ≡ None = sym q ∙ p.not_whole in absurd (cc clash)
one_change a b k Grown Same p q = absurd (p.differs q)
one_change a b k Grown Grown p q = refl

-- ---- states

whole_held : (t : Contents) (k : Key) → IsWholeAt t k → (e : EntryFacts) × (maps.get t k ≡ Some (Held e)) × IsWhole (Held e)
whole_held t k w = at w.0 w.1 w.2
  where
    at : (e : EntryValue) → maps.get t k ≡ Some e → IsWhole e → (x : EntryFacts) × (maps.get t k ≡ Some (Held x)) × IsWhole (Held x)
    at Spoilt h p = absurd p
    at (Held x) h p = (x, h, p)

part_whole : (t : Contents) (k : Key) → IsPartialAt t k → IsWholeAt t k → ⊥
part_whole t k p w =
    let h = whole_held t k w in
    let both : ◌≡◌ {A = Option EntryValue} (Some (Held p.facts)) (Some (Held h.0)) = sym p.at ∙ h.1 in
    let one : p.facts ≡ h.0 = cc in
    p.not_whole (subst (λ (x : EntryFacts). IsWhole (Held x)) (sym one) h.2)

spoilt_held : (t : Contents) (k : Key) (e : EntryFacts) → IsSpoiltAt t k → maps.get t k ≡ Some (Held e) → ⊥
spoilt_held t k e s h = let clash = sym s ∙ h in absurd (cc clash)

absent_some : (t : Contents) (k : Key) (e : EntryValue) → maps.get t k ≡ None → maps.get t k ≡ Some e → ⊥
absent_some t k e n h = let clash = sym n ∙ h in absurd (cc clash)

pub one_state : (t : Contents) (k : Key) (s r : State) → IsState t k s → IsState t k r → s ≡ r
one_state t k Absent Absent p q = refl
one_state t k Absent Partial p q = absurd (absent_some t k _ p q.at)
one_state t k Absent IsWholly p q = absurd (absent_some t k _ p q.1)
one_state t k Absent IsSpoilt p q = absurd (absent_some t k _ p q)
one_state t k Partial Absent p q = absurd (absent_some t k _ q p.at)
one_state t k Partial Partial p q = refl
one_state t k Partial IsWholly p q = absurd (part_whole t k p q)
one_state t k Partial IsSpoilt p q = absurd (spoilt_held t k _ q p.at)
one_state t k IsWholly Absent p q = absurd (absent_some t k _ q p.1)
one_state t k IsWholly Partial p q = absurd (part_whole t k q p)
one_state t k IsWholly IsWholly p q = refl
one_state t k IsWholly IsSpoilt p q = let h = whole_held t k p in absurd (spoilt_held t k h.0 q h.1)
one_state t k IsSpoilt Absent p q = absurd (absent_some t k _ q p)
one_state t k IsSpoilt Partial p q = absurd (spoilt_held t k _ p q.at)
one_state t k IsSpoilt IsWholly p q = let h = whole_held t k q in absurd (spoilt_held t k h.0 p h.1)
one_state t k IsSpoilt IsSpoilt p q = refl

-- ---- A fragment joined to a table that keeps to its limits.

-- ---- no memory is needed

disagrees : (a b : EntryFacts) (t : Bool) → facts_agree a b ≡ t → (FactsFit a b → ⊥) → ◌≡◌ {A = EntryValue} (cond t (Held (facts_together a b)) Spoilt) Spoilt
disagrees a b true e h = absurd (h (facts_fit_of a b e))
disagrees a b false e h = refl

pub needs_more : (t : Contents) (f : Core) (e : EntryValue) → maps.get t f.key ≡ Some e → (join_entry e (Held (facts_of f)) ≢ Spoilt) → (join_entry e (Held (facts_of f)) ≢ e) → NeedsNoMemory t f → ⊥
needs_more t f e at clean more (spoilt s) =
    let one = same_Some e Spoilt (sym at ∙ s) in
    clean (ap (λ x. join_entry x (Held (facts_of f))) one)
needs_more t f e at clean more (contradicts a h never) =
    let one = same_Some e (Held a) (sym at ∙ h) in
    clean (ap (λ x. join_entry x (Held (facts_of f))) one ∙ disagrees a (facts_of f) (facts_agree a (facts_of f)) refl never)
needs_more t f e at clean more (held same) =
    more (same_Some _ _ (
    ap (λ o. Some (joined_onto join_entry o (Held (facts_of f)))) (sym at)
    ∙ sym (insert_at t f.key (joined_onto join_entry (maps.get t f.key) (Held (facts_of f))))
    ∙ ap (λ u. maps.get u f.key) (sym (join_one t f) ∙ same)
    ∙ at))

-- ---- what changes

pub change_from : (a b : Contents) (k : Key) (c : Change) → (maps.get b k ≡ maps.get a k → b ≡ a) → KeyChange k (maps.get a k) (maps.get b k) c → IsChange a b k c
change_from a b k Spoils same p = record { not_yet = p.0; spoilt = p.1 }
change_from a b k (Whole d) same p = p
change_from a b k Same same p = same p
change_from a b k Grown same p = record { differs = λ e. p.0 (ap (λ u. maps.get u k) e); not_spoilt = λ s. p.1 (s.not_yet, s.spoilt); not_whole = p.2 }

-- an insert of what stands at the key changes nothing
insert_same : (t : Contents) (k : Key) (e : EntryValue) → maps.get t k ≡ Some e → maps.insert t k e ≡ t
insert_same t k e at = maps.same_map key_cmp_total key_cmp_exact _ _ (λ q. maps.get-insert key_cmp_total t k e q ∙ step q (same_key q k) refl)
  where
    step : (q : Key) (b : Bool) → same_key q k ≡ b → cond b (Some e) (maps.get t q) ≡ maps.get t q
    step q true h = sym at ∙ ap (maps.get t) (sym ((same_key_decides q k).0 h))
    step q false h = refl

pub change_at : (t : Contents) (k : Key) (e : EntryValue) (c : Change) → KeyChange k (maps.get t k) (Some e) c → IsChange t (maps.insert t k e) k c
change_at t k e c p = change_from t (maps.insert t k e) k c
    (λ h. insert_same t k e (sym h ∙ insert_at t k e))
    (subst (λ o. KeyChange k (maps.get t k) o c) (sym (insert_at t k e)) p)

-- ---- the limits are kept

pub short_of : (n : ℕ) (f : Core) → reach f ≤ n → AreShort n (facts_of f)
short_of n f h = record {
  below = below_by_reach f n h;
  marks = up_to_reach f n h;
}

pub short_join : (n : ℕ) (a b : EntryValue) → IsShort n a → IsShort n b → IsShort n (join_entry a b)
short_join n Spoilt b p q = tt
short_join n (Held a) Spoilt p q = tt
short_join n (Held a) (Held b) p q = at (facts_agree a b)
  where
    at : (t : Bool) → IsShort n (cond t (Held (facts_together a b)) Spoilt)
    at true = record {
      below = bytes_below_both n a.cover b.cover p.below q.below;
      marks = up_to_both n a.cover.marks b.cover.marks p.marks q.marks;
    }
    at false = tt

pub short_onto : (n : ℕ) (o : Option EntryValue) (b : EntryValue) → ((e : EntryValue) → o ≡ Some e → IsShort n e) → IsShort n b → IsShort n (joined_onto join_entry o b)
short_onto n None b p q = q
short_onto n (Some a) b p q = short_join n a b (p a refl) q

-- ---- want of memory

pub memory_alone : {X : Type 0} (r : Result X TableFault) (P : TableFault → Type 0) → IsErrAnd r (λ e. e ≡ NoMemory) → P NoMemory → IfErr r P
memory_alone (Ok x) P h p = tt
memory_alone (Err e) P h p = subst P (sym h) p

pub on_any_err : {X E : Type 0} (r : Result X E) (P : Type 0) → P → OnErr r P
on_any_err (Ok x) P p = tt
on_any_err (Err e) P p = p

pub on_err_both : {X E P Q R : Type 0} (r : Result X E) → (P → Q → R) → OnErr r P → OnErr r Q → OnErr r R
on_err_both (Ok x) f p q = tt
on_err_both (Err e) f p q = f p q

-- ---- the table that takes a fragment

-- with one more entry, for which there is room, the table keeps to its limits
pub insert_keeps : (t : TableValue) (f : Core) → KeepsLimits t → reach f ≤ t.limits.longest → (IsFullSource t.limits t.contents f.key → ⊥) → (IsFull t.limits t.contents f.key → ⊥) →
    KeepsLimits (record { contents = maps.insert t.contents f.key (joined_onto join_entry (maps.get t.contents f.key) (Held (facts_of f))); limits = t.limits })
insert_keeps t f keeps short source_room room =
    let k = f.key in
    let e = joined_onto join_entry (maps.get t.contents f.key) (Held (facts_of f)) in
    record {
      count = counted (maps.get t.contents k) refl (maps.len-insert key_cmp_total t.contents k e);
      sources = few_insert t.limits.per_source t.contents k e keeps.sources below;
      short = λ q d h. shorts q d (same_key q k) refl (sym (maps.get-insert key_cmp_total t.contents k e q) ∙ h);
      formed = subst IsTable (join_one t.contents f) (join_formed t.contents (table_of (f ∷ [])) keeps.formed (table_of_formed (f ∷ [])));
    }
  where
    below : maps.get t.contents f.key ≡ None → held_keys (of_source f.key.ip) t.contents < t.limits.per_source
    below at = elim (cases_lt (held_keys (of_source f.key.ip) t.contents) t.limits.per_source) [ inl h ↦ h | inr h ↦ absurd (source_room (record { is_new = at; no_room = omega (arith, h) })) ]

    counted : (o : Option EntryValue) → maps.get t.contents f.key ≡ o →
        maps.len (maps.insert t.contents f.key (joined_onto join_entry (maps.get t.contents f.key) (Held (facts_of f)))) ≡ cond (is_some (maps.get t.contents f.key)) (maps.len t.contents) (maps.len t.contents + 1) →
        maps.len (maps.insert t.contents f.key (joined_onto join_entry (maps.get t.contents f.key) (Held (facts_of f)))) ≤ t.limits.keys
    counted (Some x) at size = let same = size ∙ ap (λ o. cond (is_some o) (maps.len t.contents) (maps.len t.contents + 1)) at in let most = keeps.count in omega (arith, same, most)
    counted None at size =
        let same = size ∙ ap (λ o. cond (is_some o) (maps.len t.contents) (maps.len t.contents + 1)) at in
        let fewer : maps.len t.contents < t.limits.keys = elim (cases_lt (maps.len t.contents) t.limits.keys) [ inl h ↦ h | inr h ↦ absurd (room (record { is_new = at; no_room = omega (arith, h) })) ] in
        omega (arith, same, fewer)

    shorts : (q : Key) (d : EntryValue) (b : Bool) → same_key q f.key ≡ b → cond b (Some (joined_onto join_entry (maps.get t.contents f.key) (Held (facts_of f)))) (maps.get t.contents q) ≡ Some d → IsShort t.limits.longest d
    shorts q d true s h = subst (IsShort t.limits.longest) (same_Some _ d h) (short_onto t.limits.longest (maps.get t.contents f.key) (Held (facts_of f)) (keeps.short f.key) (short_of t.limits.longest f short))
    shorts q d false s h = keeps.short q d h

-- what is short for a table is short for a datagram
pub short_more : (m n : ℕ) (e : EntryValue) → m ≤ n → IsShort m e → IsShort n e
short_more m n Spoilt h s = tt
short_more m n (Held e) h s = record {
  below = λ i x g. (let below = s.below i x g in omega (arith, h, below));
  marks = up_to_more m n e.cover.marks h s.marks;
}

-- ---- results

-- tests that don't differ are the same
pub same_test : (a b : Bool) → not (beq a b) ≡ false → a ≡ b
same_test a b h = (booleans_Decides a b).0 (not-false (beq a b) h)

-- nothing is refused of a fragment that passes and needs no memory
pub spared : {X : Type 0} (r : Result X TableFault) (t : TableValue) (f : FragmentParts) → IfErr r (Refuses t f) → Passes t.limits f → NeedsNoMemory t.contents (core_of f) → IsOk r
spared (Ok x) t f h p n = refl
spared (Err MisplacedFirst) t f h p n = absurd (h p.placed)
spared (Err TooLong) t f h p n = let past = h.1 in let short = p.short in absurd (omega (arith, past, short))
spared (Err (FullSource k)) t f h p n = let lacks = h.1 in absurd (needs_new t.contents (core_of f) lacks.1.is_new n)
spared (Err (Full k)) t f h p n = let lacks = h.1 in absurd (needs_new t.contents (core_of f) lacks.1.is_new n)
spared (Err NoMemory) t f h p n = let lacks = h.1 in absurd (lacks.1 n)
