use Rattle.std.proofs.Common.{◌≤◌, ◌^◌, ◌-◌, sym, subst, arith}
use Rattle.std.specs.BTreeMap.{is_at, values}
use Rattle.nb_fragments.specs.Keys.{key_cmp}
use Rattle.nb_fragments.proofs.LiveLemmas.{waits_on, earliest_found, used_found}
use Rattle.nb_fragments.proofs.fragments.Fragments.drop_over.Goals as goal

pub returns-clause-live : goal.returns-clause-live
returns-clause-live c = λ live h.
    waits_on c.args.self.now _ c.args.self.now.clock live h c.retain_live.ensures.kept
    (λ k w e. subst (λ n. n ≤ w.start) (sym c.earliest_of-self.ensures) (earliest_found (is_at (key_cmp k)) c.retain_live.new.waiting.entries (2 ^ 64 - 1) w e))
    c.retain_live.ensures.few
    (let less = h.charge in let most = h.room in let fewer = c.retain_live.ensures.charge in
    let found = used_found (values c.retain_live.new.waiting) 0 (omega (arith, less, most, fewer)) in
    omega (arith, less, fewer, found, c.used_of.ensures, c.min-self.ensures))
    (let most = h.room in omega (arith, most, c.min-self.ensures))
