use Rattle.nb_table.proofs.Common.{◌≡◌, ◌+◌, ◌∙◌, sym, ap, subst, unwrap_or, arith, nat_list_cmp_total, ip_cmp, HasNoZero, count_of, get_is, changed_is, insert_is}
use Rattle.std.specs.FinMap as maps
use Rattle.nb_table.proofs.Limits.CountLemmas.{ip_cmp_exact, put_more, zero_put}
use Rattle.nb_table.proofs.entries.counts.SourceCounts.add_key.Goals as goal

pub overflow_add-count : goal.overflow_add-count
overflow_add-count c =
    let is : count_of c.args.self.now c.args.ip ≡ c.in-Some.count.now = rw (← c.self.view_is) (ap (λ o. unwrap_or o 0) (get_is nat_list_cmp_total c.self.inside.counts c.args.ip ∙ sym c.in-Some.ensures.value)) in
    omega (arith, is, c.requires)

pub returns-in-Some-clause-counted : goal.returns-in-Some-clause-counted
returns-in-Some-clause-counted c q =
    let m = c.self.inside.counts in
    let s = maps.from_entries {R = ip_cmp} m.entries in
    let is : count_of s c.args.ip ≡ c.in-Some.count.now = ap (λ o. unwrap_or o 0) (get_is nat_list_cmp_total m c.args.ip ∙ sym c.in-Some.ensures.value) in
    rw (← c.self.view_is) (ap (λ t. count_of t q) (changed_is nat_list_cmp_total ip_cmp_exact m (c.get_mut.follows.lender (c.in-Some.count.now + 1)) c.args.ip c.in-Some.count.now (c.in-Some.count.now + 1) c.in-Some.ensures.value (c.get_mut.follows.holds (c.in-Some.count.now + 1)))
    ∙ put_more s c.args.ip q (c.in-Some.count.now + 1) (ap (λ n. n + 1) (sym is)))

pub returns-in_ok-insert-in-None-clause-counted : goal.returns-in_ok-insert-in-None-clause-counted
returns-in_ok-insert-in-None-clause-counted c q =
    let m = c.self.inside.counts in
    let s = maps.from_entries {R = ip_cmp} m.entries in
    let none : count_of s c.args.ip ≡ 0 = ap (λ o. unwrap_or o 0) (get_is nat_list_cmp_total m c.args.ip ∙ sym c.in-None.ensures.value) in
    let updates = rw c.get_mut.follows.holds-at-none at c.in_ok-insert-in-None.ensures.updates in
    rw (← c.self.view_is) (ap (λ t. count_of t q) (insert_is nat_list_cmp_total ip_cmp_exact m c.insert.new.self c.args.ip 1 updates)
    ∙ put_more s c.args.ip q 1 (sym (ap (λ n. n + 1) none)))

pub invariant_of-self : goal.invariant_of-self
invariant_of-self c =
    let m = c.self.inside.counts in
    let more = c.in-Some.count.now + 1 in
    subst HasNoZero (sym (changed_is nat_list_cmp_total ip_cmp_exact m (c.get_mut.follows.lender more) c.args.ip c.in-Some.count.now more c.in-Some.ensures.value (c.get_mut.follows.holds more)))
    (zero_put (maps.from_entries {R = ip_cmp} m.entries) c.args.ip more (λ h. omega (arith, h)) c.self.invariant)

pub invariant_of-self-in-None : goal.invariant_of-self-in-None
invariant_of-self-in-None c =
    let m = c.self.inside.counts in
    let updates = rw c.get_mut.follows.holds-at-none at c.in_ok-insert-in-None.ensures.updates in
    subst HasNoZero (sym (insert_is nat_list_cmp_total ip_cmp_exact m c.insert.new.self c.args.ip 1 updates))
    (zero_put (maps.from_entries {R = ip_cmp} m.entries) c.args.ip 1 (λ h. omega (arith, h)) c.self.invariant)
