use Rattle.nb_table.proofs.Common.{◌≡◌, ◌≤◌, ◌-◌, ◌∙◌, sym, ap, subst, unwrap_or, arith, nat_list_cmp_total, ip_cmp, HasNoZero, count_of, get_is, changed_is, remove_is}
use Rattle.std.specs.FinMap as maps
use Rattle.nb_table.proofs.Limits.CountLemmas.{ip_cmp_exact, put_less, gone_less, zero_put, zero_gone}
use Rattle.nb_table.proofs.entries.counts.SourceCounts.remove_key.Goals as goal

pub returns-in-Some : goal.returns-in-Some
returns-in-Some c q =
    let m = c.self.inside.counts in
    let s = maps.from_entries {R = ip_cmp} m.entries in
    let less = c.of-count.result - 1 in
    let is : c.of-count.result ≡ count_of s c.args.ip = rw c.self.view_is c.of-count.ensures in
    rw (← c.self.view_is) (ap (λ t. count_of t q) (changed_is nat_list_cmp_total ip_cmp_exact m (c.get_mut.follows.lender less) c.args.ip c.in-Some.kept.now less c.in-Some.ensures.value (c.get_mut.follows.holds less))
    ∙ put_less s c.args.ip q less (ap (λ n. n - 1) is))

pub returns-in_default : goal.returns-in_default
returns-in_default c q =
    let m = c.self.inside.counts in
    let s = maps.from_entries {R = ip_cmp} m.entries in
    let is : c.of-count.result ≡ count_of s c.args.ip = rw c.self.view_is c.of-count.ensures in
    let none : count_of s c.args.ip ≡ 0 = ap (λ o. unwrap_or o 0) (get_is nat_list_cmp_total m c.args.ip ∙ sym c.in_default.ensures.value) in
    absurd (omega (arith, is, none, c.if-count-gt1.true))

pub returns-else-count-gt1 : goal.returns-else-count-gt1
returns-else-count-gt1 c q =
    let m = c.self.inside.counts in
    let s = maps.from_entries {R = ip_cmp} m.entries in
    let is : c.of-count.result ≡ count_of s c.args.ip = rw c.self.view_is c.of-count.ensures in
    let most : count_of s c.args.ip ≤ 1 = omega (arith, is, c.if-count-gt1.false) in
    rw (← c.self.view_is) (ap (λ t. count_of t q) (remove_is nat_list_cmp_total ip_cmp_exact m c.remove.new.self c.args.ip c.remove.ensures.updates)
    ∙ gone_less s c.args.ip q most)

pub invariant_of-self : goal.invariant_of-self
invariant_of-self c =
    let m = c.self.inside.counts in
    let less = c.of-count.result - 1 in
    subst HasNoZero (sym (changed_is nat_list_cmp_total ip_cmp_exact m (c.get_mut.follows.lender less) c.args.ip c.in-Some.kept.now less c.in-Some.ensures.value (c.get_mut.follows.holds less)))
    (zero_put (maps.from_entries {R = ip_cmp} m.entries) c.args.ip less (λ h. omega (arith, h, c.if-count-gt1.true)) c.self.invariant)

pub invariant_of-self-else-count-gt1 : goal.invariant_of-self-else-count-gt1
invariant_of-self-else-count-gt1 c =
    let m = c.self.inside.counts in
    subst HasNoZero (sym (remove_is nat_list_cmp_total ip_cmp_exact m c.remove.new.self c.args.ip c.remove.ensures.updates))
    (zero_gone (maps.from_entries {R = ip_cmp} m.entries) c.args.ip c.self.invariant)
