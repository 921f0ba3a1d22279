use Rattle.nb_table.proofs.Common.{◌≡◌, ◌≤◌, ◌==◌, ◌∙◌, ℕ, Bool, true, false, not, sym, ap, subst, arith, is_some, None, true≢false, Key, FragmentParts, core_of, reach, is_first, Limits, IsFullSource, held_keys, of_source, Contents}
use Rattle.std.specs.Bool.{beq}
use Rattle.std.specs.FinMap as maps
use Rattle.nb_table.specs.Insert.{Passes}
use Rattle.nb_table.proofs.Limits.GroupLemmas.{held_at_most}
use Rattle.nb_table.proofs.Changes.{same_test}
use Rattle.nb_table.proofs.table.Table.refusal_of_lent.Goals as goal
use Rattle.nb_table.proofs.Limits.CountLemmas.{none_at}

-- what the first two tests say of a fragment that they pass over
passes_by : (l : Limits) (f : FragmentParts) (first : Bool) (offset far longest : ℕ) → first ≡ is_first f.flags → offset ≡ f.offset → far ≡ reach (core_of f) → longest ≡ l.longest
    → not (beq first (offset == 0)) ≡ false → far ≤ longest → Passes l f
passes_by l f first offset far longest first_is offset_is far_is longest_is same most = record {
  placed = sym first_is ∙ same_test _ _ same ∙ ap (λ n. n == 0) offset_is;
  short = omega (arith, far_is, longest_is, most);
}

-- what the count of an address says of the key's
source_full : (l : Limits) (t : Contents) (k q : Key) → maps.get t q ≡ None → k ≡ q → l.per_source ≤ held_keys (of_source k.ip) t → IsFullSource l t q
source_full l t k q none same most = record {
  is_new = none;
  no_room = subst (λ (x : Key). l.per_source ≤ held_keys (of_source x.ip) t) same most;
}

source_free : (l : Limits) (t : Contents) (k q : Key) → k ≡ q → (l.per_source ≤ held_keys (of_source k.ip) t → ⊥) → IsFullSource l t q → ⊥
source_free l t k q same fewer full = fewer (subst (λ (x : Key). l.per_source ≤ held_keys (of_source x.ip) t) (sym same) full.no_room)

pub returns-then-len-min-clause-refusal : goal.returns-then-len-min-clause-refusal
returns-then-len-min-clause-refusal c =
    let f = c.args.fragment.now in
    let l : Limits = record { keys = c.self.inside.keys; per_source = c.self.inside.per_source; longest = c.self.inside.longest } in
    let passes = passes_by l f _ _ _ _ c.is_first.ensures c.offset.ensures c.reach.ensures c.from.ensures c.if-is_first-offset.false c.if-reach-from.false in
    let count = c.len.ensures.count in
    let least = c.min.ensures in
    let fewer = c.if-len-min.true in
    let few = held_at_most (of_source f.key.ip) c.self.inside.entries in
    rw (← c.self.view_is) (record {
      passes = passes;
      source_room = λ full. (let many = full.no_room in omega (arith, count, least, fewer, few, many));
      room = λ full. (let many = full.no_room in omega (arith, count, least, fewer, many));
    })

pub returns-then-contains_key-clause-refusal : goal.returns-then-contains_key-clause-refusal
returns-then-contains_key-clause-refusal c =
    let f = c.args.fragment.now in
    let t : Contents = c.self.inside.entries in
    let l : Limits = record { keys = c.self.inside.keys; per_source = c.self.inside.per_source; longest = c.self.inside.longest } in
    let passes = passes_by l f _ _ _ _ c.is_first.ensures c.offset.ensures c.reach.ensures c.from.ensures c.if-is_first-offset.false c.if-reach-from.false in
    let held : is_some (maps.get t f.key) ≡ true = ap (λ k. is_some (maps.get t k)) (sym c.key-key.ensures) ∙ sym c.contains_key.ensures ∙ c.if-contains_key.true in
    let old : maps.get t f.key ≡ None → ⊥ = (λ none. true≢false (sym held ∙ ap is_some none)) in
    rw (← c.self.view_is) (record { passes = passes; source_room = λ full. old full.is_new; room = λ full. old full.is_new })

pub returns-then-is_full_of-clause-refusal : goal.returns-then-is_full_of-clause-refusal
returns-then-is_full_of-clause-refusal c =
    let f = c.args.fragment.now in
    let t : Contents = c.self.inside.entries in
    let l : Limits = record { keys = c.self.inside.keys; per_source = c.self.inside.per_source; longest = c.self.inside.longest } in
    let passes = passes_by l f _ _ _ _ c.is_first.ensures c.offset.ensures c.reach.ensures c.from.ensures c.if-is_first-offset.false c.if-reach-from.false in
    let none = none_at (maps.get t f.key) (ap (λ k. is_some (maps.get t k)) (sym c.key-key.ensures) ∙ sym c.contains_key.ensures ∙ c.if-contains_key.false) in
    rw (← c.self.view_is) (passes, (c.key-key.ensures, source_full l t c.key-key.result f.key none c.key-key.ensures (c.is_full_of.ensures.0 c.if-is_full_of.true)))

pub returns-then-len-self-clause-refusal : goal.returns-then-len-self-clause-refusal
returns-then-len-self-clause-refusal c =
    let f = c.args.fragment.now in
    let t : Contents = c.self.inside.entries in
    let l : Limits = record { keys = c.self.inside.keys; per_source = c.self.inside.per_source; longest = c.self.inside.longest } in
    let passes = passes_by l f _ _ _ _ c.is_first.ensures c.offset.ensures c.reach.ensures c.from.ensures c.if-is_first-offset.false c.if-reach-from.false in
    let none = none_at (maps.get t f.key) (ap (λ k. is_some (maps.get t k)) (sym c.key-key.ensures) ∙ sym c.contains_key.ensures ∙ c.if-contains_key.false) in
    let count = c.len.ensures.count in
    let most = c.if-len-self.true in
    rw (← c.self.view_is) (passes, (c.key-key.ensures, record { is_new = none; no_room = omega (arith, count, most) }, source_free l t c.key-key.result f.key c.key-key.ensures (λ h. true≢false (sym (c.is_full_of.ensures.1 h) ∙ c.if-is_full_of.false))))

pub returns-clause-refusal : goal.returns-clause-refusal
returns-clause-refusal c =
    let f = c.args.fragment.now in
    let l : Limits = record { keys = c.self.inside.keys; per_source = c.self.inside.per_source; longest = c.self.inside.longest } in
    let passes = passes_by l f _ _ _ _ c.is_first.ensures c.offset.ensures c.reach.ensures c.from.ensures c.if-is_first-offset.false c.if-reach-from.false in
    rw (← c.self.view_is) (record {
      passes = passes;
      source_room = source_free l c.self.inside.entries c.key-key.result f.key c.key-key.ensures (λ h. true≢false (sym (c.is_full_of.ensures.1 h) ∙ c.if-is_full_of.false));
      room = λ full. (let least = full.no_room in omega (arith, c.len.ensures.count, c.if-len-self.false, least));
    })
