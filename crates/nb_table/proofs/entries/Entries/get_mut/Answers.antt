use Rattle.nb_table.proofs.Common.{◌∙◌, sym, ap, subst, refl, key_cmp, key_cmp_total, key_cmp_exact, AreCounted, get_is, lent_is, written_keys}
use Rattle.std.specs.FinMap as maps
use Rattle.nb_table.proofs.Limits.CountLemmas.{kept_keys}
use Rattle.nb_table.proofs.entries.Entries.get_mut.Goals as goal

pub invariant_of-self-lent : goal.invariant_of-self-lent
invariant_of-self-lent c r = (
  λ w. kept_keys c.self.inside.counts _ _ (written_keys key_cmp_total key_cmp_exact (key_cmp c.args.key.now) c.self.inside.map (c.get_mut.follows.lender w) w c.get_mut.ensures.ordered (c.get_mut.follows.holds w)) c.self.invariant,
  subst (λ m. AreCounted c.self.inside.counts (maps.from_entries {R = key_cmp} m.entries)) (sym c.get_mut.follows.holds-at-none) c.self.invariant,
)

pub returns : goal.returns
returns c =
    let m = c.self.inside.map in
    rw (← c.self.view_is) (
      (
        refl,
        λ w. lent_is key_cmp_total key_cmp_exact m (c.get_mut.follows.lender w) c.args.key.now w c.get_mut.result c.get_mut.ensures.value (c.get_mut.follows.holds w),
        ap (λ n. maps.from_entries {R = key_cmp} n.entries) c.get_mut.follows.holds-at-none,
      ),
      record { writes_back = tt; value = c.get_mut.ensures.value ∙ sym (get_is key_cmp_total m c.args.key.now) },
    )
