use Rattle.std.proofs.Common.{◌≡◌, ◌∙◌, rules, refl, sym, subst, ap, not, ◌≤◌, filter, map, sum_by, ℕ, List, Option, Some, None}
use Rattle.std.specs.Cmp.{eq_by_cmp_equiv}
use Rattle.std.specs.Ordering.{eq_by_cmp}
use Rattle.std.specs.Map.{lookup}
use Rattle.std.proofs.lemmas.Map.Made.{filter_same_pairs}
use Rattle.std.proofs.lemmas.Map.Entries.{lookup-filter-values, option_filter}
use Rattle.std.proofs.lemmas.Map.Keys.{IsDistinct-from_sorted}
use Rattle.nb_fragments.specs.declared.key.Key.{Key}
use Rattle.nb_fragments.specs.declared.waiting.Waiting.{Waiting}
use Rattle.nb_fragments.specs.Keys.{key_cmp, key_cmp_total}
use Rattle.nb_fragments.specs.Live.{is_over}
use Rattle.nb_fragments.specs.Code.Kept.{charge_of, still_kept}
use Rattle.nb_fragments.proofs.LiveLemmas.{filter_less}
use Rattle.nb_fragments.proofs.fragments.retain_live.Goals as goal

passes : (now : ℕ) (o : Option Waiting) → option_filter (λ w. not (is_over now (Some w.start))) o ≡ still_kept now o
passes now None = refl
passes now (Some w) = refl

live_only : (c : goal.After-retain) → c.retain.new.self.entries ≡ filter (λ (e : Key × Waiting). not (is_over c.args.now (Some e.1.start))) c.args.waiting.now.entries
live_only c = filter_same_pairs _ (λ (e : Key × Waiting). not (is_over c.args.now (Some e.1.start))) _ (λ k v b w f t. search rules) _ _ c.retain.ensures.filtered

pub returns-clause-charge : goal.returns-clause-charge
returns-clause-charge c =
    let less = filter_less (λ (e : Key × Waiting). not (is_over c.args.now (Some e.1.start))) c.args.waiting.now.entries in
    subst (λ (es : List (Key × Waiting)). sum_by (λ (x : Waiting). x.bytes) (map (λ e. e.1) es) ≤ charge_of c.args.waiting.now) (sym (live_only c)) less

pub returns-clause-kept : goal.returns-clause-kept
returns-clause-kept c = λ key.
    let now = c.args.now in
    ap (lookup (eq_by_cmp key_cmp key)) (live_only c)
    ∙ lookup-filter-values (eq_by_cmp_equiv key_cmp_total) (λ (w : Waiting). not (is_over now (Some w.start))) key _ (IsDistinct-from_sorted key_cmp _ c.retain.ensures.was_ordered)
    ∙ passes now _
