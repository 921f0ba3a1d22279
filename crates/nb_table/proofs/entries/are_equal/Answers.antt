use Rattle.nb_table.proofs.Common.{ap, sym, ◌∙◌, length, key_cmp, key_cmp_total, key_cmp_exact, same_list}
use Rattle.std.specs.FinMap as maps
use Rattle.nb_table.proofs.TableReads.{entries_decide}
use Rattle.nb_table.proofs.entries.are_equal.Goals as goal

pub returns-then-len : goal.returns-then-len
returns-then-len c = (
  λ h. absurd (cc h),
  λ e. absurd (c.if-len.true (c.len.ensures.len ∙ ap length (same_list key_cmp_total key_cmp_exact c.args.one.now c.args.other.now c.len.ensures.ordered c.len-2.ensures.ordered e) ∙ sym c.len-2.ensures.len)),
)

pub returns : goal.returns
returns c = (
  λ h. ap (maps.from_entries {R = key_cmp}) ((entries_decide c.args.one.now.entries c.args.other.now.entries).0 (sym c.eq.ensures ∙ h)),
  λ e. c.eq.ensures ∙ (entries_decide c.args.one.now.entries c.args.other.now.entries).1 (same_list key_cmp_total key_cmp_exact c.args.one.now c.args.other.now c.len.ensures.ordered c.len-2.ensures.ordered e),
)
