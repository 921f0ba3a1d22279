use Rattle.nb_member.proofs.Common.{sym, ap, ◌∙◌, is_some, key_cmp, TableValue, Moments}
use Rattle.std.specs.FinMap as maps
use Rattle.nb_member.proofs.timed_table.TimedTable.new.Goals as goal

pub invariant_of-result : goal.invariant_of-result
invariant_of-result c =
    λ k.
    ap (λ (m : Moments). maps.contains_key m k) c.new-2.ensures
    ∙ (ap is_some (maps.get-empty key_cmp k)
    ∙ (sym (ap is_some (maps.get-empty key_cmp k))
    ∙ sym (ap (λ (t : TableValue). maps.contains_key t.contents k) c.new.ensures)))
