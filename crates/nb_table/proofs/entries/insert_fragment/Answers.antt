use Rattle.nb_table.proofs.Common.{◌≡◌, ◌∙◌, sym, ap, ap₂, subst, Option, Some, None, Result, Ok, Err, OnOk, IfOk, on_ok_weaker, on_err_weaker, FragmentParts, core_of, joined_onto, Held, EntryValue, facts_of, join_entry, DataChange, KeyChange, Tells, key_cmp_total, key_cmp_exact, needs_new}
use Rattle.std.specs.FinMap as maps
use Rattle.nb_streams.specs.declared.bytes.NoMemory.{NoMemory}
use Rattle.nb_entries.specs.declared.outline.Handing.{Handing}
use Rattle.nb_table.proofs.Joins.{put_same}
use Rattle.nb_table.proofs.Changes.{needs_more, on_err_both, on_any_err}
use Rattle.nb_table.proofs.entries.insert_fragment.Goals as goal

-- ---- a held key

-- what changed at an entry is what changed at its key
change_joined : (h : Handing) (r : Result DataChange NoMemory) (f : FragmentParts) (e new b : EntryValue) (o : Option EntryValue) → o ≡ Some e → OnOk r (new ≡ join_entry e b)
    → IfOk r (Tells h f (Some e) (Some new)) → IfOk r (Tells h f o (Some (joined_onto join_entry o b)))
change_joined h (Err x) f e new b o at joined change = tt
change_joined h (Ok c) f e new b o at joined change =
    let now = ap (λ (x : EntryValue). Some x) (joined ∙ ap (λ p. joined_onto join_entry p b) (sym at)) in (
      change.0,
      subst (λ p. KeyChange f.key p (Some (joined_onto join_entry o b)) change.0) (sym at)
          (subst (λ p. KeyChange f.key (Some e) p change.0) now change.1),
      change.2,
    )

pub insert-requires-clause-entry : goal.insert-requires-clause-entry
insert-requires-clause-entry c =
    let at = ap (maps.get c.args.entries.now) (sym c.key-key.ensures) ∙ sym c.in-Some.ensures.value in
    c.requires.entry c.in-Some.entry.now at

pub returns-in-Some-clause-needed : goal.returns-in-Some-clause-needed
returns-in-Some-clause-needed c =
    let t = c.args.entries.now in
    let at = ap (maps.get t) (sym c.key-key.ensures) ∙ sym c.in-Some.ensures.value in
    on_err_both c.insert.result (needs_more t (core_of c.args.fragment.now) c.in-Some.entry.now at) c.insert.ensures.not_spoilt c.insert.ensures.more

pub returns-in-Some-clause-kept : goal.returns-in-Some-clause-kept
returns-in-Some-clause-kept c =
    let lent = rw c.in-Some.is at c.get_mut.follows.holds c.insert.new.self in
    on_err_weaker c.insert.result
    (λ same. put_same key_cmp_total key_cmp_exact c.args.entries.now (c.get_mut.follows.lender c.insert.new.self) c.key-key.result c.in-Some.entry.now c.insert.new.self c.in-Some.ensures.value same lent) c.insert.ensures.kept

pub returns-in-Some-clause-joined : goal.returns-in-Some-clause-joined
returns-in-Some-clause-joined c =
    let t = c.args.entries.now in
    let b = facts_of (core_of c.args.fragment.now) in
    let at = ap (maps.get t) (sym c.key-key.ensures) ∙ sym c.in-Some.ensures.value in
    let lent = rw c.in-Some.is at c.get_mut.follows.holds c.insert.new.self in
    on_ok_weaker c.insert.result
    (λ joined.
    lent
    ∙ ap₂ (maps.insert t) c.key-key.ensures (joined ∙ ap (λ o. joined_onto join_entry o (Held b)) (sym at))) c.insert.ensures.joined

pub returns-in-Some-clause-change : goal.returns-in-Some-clause-change
returns-in-Some-clause-change c =
    let t = c.args.entries.now in
    let f = c.args.fragment.now in
    let b = facts_of (core_of f) in
    let at = ap (maps.get t) (sym c.key-key.ensures) ∙ sym c.in-Some.ensures.value in
    change_joined c.args.handing c.insert.result f c.in-Some.entry.now c.insert.new.self (Held b) (maps.get t f.key) at c.insert.ensures.joined c.insert.ensures.change

-- ---- a new key

pub returns-in_err-entry-in-None-clause-needed : goal.returns-in_err-entry-in-None-clause-needed
returns-in_err-entry-in-None-clause-needed c =
    let t = c.args.entries.now in
    let none = ap (maps.get t) (sym c.key-key.ensures) ∙ sym c.in-None.ensures.value in
    on_any_err c.from_residual.result _ (needs_new t (core_of c.args.fragment.now) none)

pub returns-in-Ok-clause-joined : goal.returns-in-Ok-clause-joined
returns-in-Ok-clause-joined c =
    let t = c.args.entries.now in
    let b = facts_of (core_of c.args.fragment.now) in
    let none = ap (maps.get t) (sym c.key-key.ensures) ∙ sym c.in-None.ensures.value in
    let put = rw c.get_mut.follows.holds-at-none at c.in-Ok.ensures.inserted in
    put
    ∙ ap₂ (maps.insert t) c.key-key.ensures (c.in_ok-entry-in-None.ensures.entry ∙ ap (λ o. joined_onto join_entry o (Held b)) (sym none))

pub returns-in-Ok-clause-change : goal.returns-in-Ok-clause-change
returns-in-Ok-clause-change c =
    let t = c.args.entries.now in
    let k = c.args.fragment.now.key in
    let b = facts_of (core_of c.args.fragment.now) in
    let none = ap (maps.get t) (sym c.key-key.ensures) ∙ sym c.in-None.ensures.value in
    let now = ap (λ (x : EntryValue). Some x) (c.in_ok-entry-in-None.ensures.entry ∙ ap (λ o. joined_onto join_entry o (Held b)) (sym none)) in
    let told = c.in_ok-entry-in-None.ensures.change in (
      told.0,
      subst (λ o. KeyChange k o (Some (joined_onto join_entry (maps.get t k) (Held b))) told.0) (sym none)
          (subst (λ o. KeyChange k None o told.0) now told.1),
      told.2,
    )

pub returns-in-Err-clause-needed : goal.returns-in-Err-clause-needed
returns-in-Err-clause-needed c =
    let t = c.args.entries.now in
    let none = ap (maps.get t) (sym c.key-key.ensures) ∙ sym c.in-None.ensures.value in
    needs_new t (core_of c.args.fragment.now) none
