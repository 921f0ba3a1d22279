-- The tests of equality decide equality.
use Rattle.std.proofs.Common.{◌≡◌, ◌==◌, ◌&&◌, ℕ, List, Bool, true, refl, sym, ◌∙◌, ap, Decides}
use Rattle.std.proofs.lemmas.Bool.{true≢false, eqb-true, eq-eqb, and_from, and_parts}
use Rattle.std.specs.Cmp.{IsEquivalence, IsPartialEquivalence, decided, equiv, partial_equiv_from_equiv}
use Rattle.std.specs.Cmp.Lexicographic.{pointwise, pointwise_decides}
use Rattle.std.specs.Ordering.{nat_cmp}
use Rattle.std.specs.FinMap as maps
use Rattle.nb_names.specs.NameFacts.{name_eq_decides}
use Rattle.nb_entries.specs.Maps.{Slot, Spoilt, Held}
use Rattle.nb_entries.specs.Cover.{CoverFacts, CoverValue}
use Rattle.nb_entries.specs.Entry.{EntryFacts, EntryValue}
use Rattle.nb_entries.specs.Codes.{held, slot_of, slot_back}
use Rattle.nb_entries.specs.Equal.{same_slot, same_bytes, same_cover_facts, same_cover, same_entry_facts, same_entry}
use Rattle.nb_datagram.specs.EqualityFacts.{same_kind_decides}
use Rattle.nb_entries.specs.Shared.MarksLemmas.{options_decide, marks_decide}

pair_decides : (p q : ℕ × ℕ) → Decides ((p.0 == q.0) && (p.1 == q.1)) (p ≡ q)
pair_decides p q = (
  λ h. (let place = eqb-true p.0 q.0 (and_parts _ _ h).0 in let byte = eqb-true p.1 q.1 (and_parts _ _ h).1 in λ i. (place i, byte i)),
  λ e. and_from _ _ (eq-eqb p.0 q.0 (ap (λ (x : ℕ × ℕ). x.0) e)) (eq-eqb p.1 q.1 (ap (λ (x : ℕ × ℕ). x.1) e)),
)

-- two lists of places with their bytes are the same where their items are
pub pairs_decide : (es fs : List (ℕ × ℕ)) → Decides (pointwise (λ p q. (p.0 == q.0) && (p.1 == q.1)) es fs) (es ≡ fs)
pairs_decide = pointwise_decides pair_decides

pub bytes_decide : (m n : maps.FinMap nat_cmp ℕ) → Decides (same_bytes m n) (m ≡ n)
bytes_decide m n = (
  λ h. maps.same_entries_map m n ((pairs_decide (maps.entries m) (maps.entries n)).0 h),
  λ e. (pairs_decide (maps.entries m) (maps.entries n)).1 (ap maps.entries e),
)

pub cover_facts_decide : (a b : CoverFacts) → Decides (same_cover_facts a b) (a ≡ b)
cover_facts_decide a b = (
  λ h. (let bytes = (bytes_decide a.bytes b.bytes).0 (and_parts _ _ h).0 in
      let marks = (marks_decide a.marks b.marks).0 (and_parts _ _ h).1 in
      λ i. record { bytes = bytes i; marks = marks i }),
  λ e. and_from _ _ ((bytes_decide a.bytes b.bytes).1 (ap (λ (c : CoverFacts). c.bytes) e))
      ((marks_decide a.marks b.marks).1 (ap (λ (c : CoverFacts). c.marks) e)),
)

pub entry_facts_decide : (a b : EntryFacts) → Decides (same_entry_facts a b) (a ≡ b)
entry_facts_decide a b = (
  λ h. (let t1 = (and_parts _ _ h).1 in let t2 = (and_parts _ _ t1).1 in
      let kind = (same_kind_decides a.kind b.kind).0 (and_parts _ _ h).0 in
      let source = (name_eq_decides a.source b.source).0 (and_parts _ _ t1).0 in
      let destination = (name_eq_decides a.destination b.destination).0 (and_parts _ _ t2).0 in
      let cover = (cover_facts_decide a.cover b.cover).0 (and_parts _ _ t2).1 in
      λ i. record { kind = kind i; source = source i; destination = destination i; cover = cover i }),
  λ e. and_from _ _ ((same_kind_decides a.kind b.kind).1 (ap (λ (x : EntryFacts). x.kind) e))
      (and_from _ _ ((name_eq_decides a.source b.source).1 (ap (λ (x : EntryFacts). x.source) e))
      (and_from _ _ ((name_eq_decides a.destination b.destination).1 (ap (λ (x : EntryFacts). x.destination) e))
      ((cover_facts_decide a.cover b.cover).1 (ap (λ (x : EntryFacts). x.cover) e)))),
)

slots_decide : {X : Type 0} (E : X → X → Bool) → ((x y : X) → Decides (E x y) (x ≡ y)) → (s t : Slot X) → Decides (same_slot E s t) (s ≡ t)
slots_decide E d s t = (
  λ h. sym (slot_back s) ∙ ap slot_of ((options_decide E d (held s) (held t)).0 h) ∙ slot_back t,
  λ e. (options_decide E d (held s) (held t)).1 (ap held e),
)

pub cover_decides : (a b : CoverValue) → Decides (same_cover a b) (a ≡ b)
cover_decides = slots_decide same_cover_facts cover_facts_decide

pub entry_decides : (a b : EntryValue) → Decides (same_entry a b) (a ≡ b)
entry_decides = slots_decide same_entry_facts entry_facts_decide

-- slots are the same as their facts are
pub slot_per : {X : Type 0} {E : X → X → Bool} → IsPartialEquivalence E → IsPartialEquivalence (same_slot E)
slot_per {X} {E} p = record { symm = symm; trans = trans }
  where
    symm : (x y : Slot X) → same_slot E x y ≡ same_slot E y x
    symm Spoilt Spoilt = refl
    symm Spoilt (Held b) = refl
    symm (Held a) Spoilt = refl
    symm (Held a) (Held b) = p.symm a b

    trans : (x y z : Slot X) → same_slot E x y ≡ true → same_slot E y z ≡ true → same_slot E x z ≡ true
    trans Spoilt Spoilt z h k = k
    trans Spoilt (Held b) z h k = absurd (true≢false (sym h))
    trans (Held a) Spoilt z h k = absurd (true≢false (sym h))
    trans (Held a) (Held b) Spoilt h k = absurd (true≢false (sym k))
    trans (Held a) (Held b) (Held c) h k = p.trans a b c h k

pub slot_equiv : {X : Type 0} {E : X → X → Bool} → IsEquivalence E → IsEquivalence (same_slot E)
slot_equiv {X} {E} p = equiv (slot_per (partial_equiv_from_equiv p)) once
  where
    once : (x : Slot X) → same_slot E x x ≡ true
    once Spoilt = refl
    once (Held a) = p.refl a

pub cover_facts_equiv : IsEquivalence same_cover_facts
cover_facts_equiv = decided same_cover_facts cover_facts_decide

pub cover_facts_per : IsPartialEquivalence same_cover_facts
cover_facts_per = partial_equiv_from_equiv cover_facts_equiv

pub entry_facts_equiv : IsEquivalence same_entry_facts
entry_facts_equiv = decided same_entry_facts entry_facts_decide

pub entry_facts_per : IsPartialEquivalence same_entry_facts
entry_facts_per = partial_equiv_from_equiv entry_facts_equiv
