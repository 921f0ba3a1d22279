use Rattle.nb_member.proofs.Common.{◌≡◌, Bool, false, cond, sym, ap, ◌∙◌, subst, key_cmp, key_cmp_total, key_cmp_exact, Moments, StandOnce}
use Rattle.std.specs.FinMap as maps
use Rattle.nb_member.proofs.MemberLemmas.DroppedKeys.{not_found, once_pushed}
use Rattle.nb_member.proofs.timed_table.Starts.begin_new.Goals as goal

pub invariant_of-self-2 : goal.invariant_of-self-2
invariant_of-self-2 c =
    let es = c.self.inside.moments.items in
    let none = not_found es c.args.key (rw c.self.view_is c.requires) in
    subst StandOnce (sym c.in_ok-push.ensures.items) (once_pushed es c.args.key c.args.moment c.self.invariant none)

pub returns-clause-begun : goal.returns-clause-begun
returns-clause-begun c =
    let es = c.self.inside.moments.items in
    let m : Moments = maps.from_entries {R = key_cmp} es in
    let new : maps.contains_key m c.args.key ≡ false = rw c.self.view_is c.requires in
    rw (← c.self.view_is) (ap (maps.from_entries {R = key_cmp}) c.in_ok-push.ensures.items
    ∙ (maps.from_entries_push key_cmp_total key_cmp_exact es c.args.key c.args.moment (not_found es c.args.key new)
    ∙ sym (ap (λ (b : Bool). cond b m (maps.insert m c.args.key c.args.moment)) new)))
