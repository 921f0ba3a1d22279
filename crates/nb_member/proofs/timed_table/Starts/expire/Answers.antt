use Rattle.nb_member.proofs.Common.{◌≡◌, ◌∙◌, Key, ℕ, Some, ap, filter, not, rules, sym, subst, is_over, key_cmp, StandOnce}
use Rattle.std.specs.FinMap as maps
use Rattle.std.proofs.lemmas.Fn.{filter_same}
use Rattle.nb_member.proofs.MemberLemmas.DroppedKeys.{once_running, running_is}
use Rattle.nb_member.proofs.timed_table.Starts.expire.Goals as goal

-- those whose timers haven't run out are kept
kept : (c : goal.After-retain) → c.retain.new.self.items ≡ filter (λ (e : Key × ℕ). not (is_over c.args.now (Some e.1))) c.self.inside.moments.items
kept c = filter_same _ (λ e. not (is_over c.args.now (Some e.1))) _ (λ e b f' t. search rules) _ _ c.retain.ensures.filtered

pub invariant_of-self : goal.invariant_of-self
invariant_of-self c = subst StandOnce (sym (kept c)) (once_running c.args.now c.self.inside.moments.items c.self.invariant)

pub returns-clause-moments : goal.returns-clause-moments
returns-clause-moments c =
    rw (← c.self.view_is) (ap (maps.from_entries {R = key_cmp}) (kept c) ∙ running_is c.args.now c.self.inside.moments.items c.self.invariant)
