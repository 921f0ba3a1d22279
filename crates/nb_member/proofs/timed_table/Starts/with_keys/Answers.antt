use Rattle.nb_member.proofs.Common.{ap, ◌∙◌, key_cmp, Moments, begun_each}
use Rattle.std.specs.FinMap as maps
use Rattle.nb_member.proofs.MemberLemmas.Timers.{begun_of}
use Rattle.nb_member.proofs.timed_table.Starts.with_keys.Goals as goal

pub returns : goal.returns
returns c =
    let keys = maps.keys c.args.other.now.contents in
    let begun = c.in_ok-begin_each.ensures ∙ ap (λ es. begun_each (maps.from_entries {R = key_cmp} es) keys c.args.moment) (c.in_ok-moments.ensures.items ∙ c.deref.ensures.value) in
    rw (← c.self.view_is) (λ k.
    ap (λ (m : Moments). maps.get m k) begun
    ∙ begun_of (maps.from_entries {R = key_cmp} c.self.inside.moments.items) c.args.other.now.contents c.args.moment k)
