use Rattle.nb_member.proofs.Common.{◌≡◌, List, sym, ap, ◌∙◌, subst, rules, Key, Moments, begun_each}
use Rattle.std.specs.FinMap as maps
use Rattle.nb_member.proofs.MemberLemmas.Timers.{AreAnswered, answered, answered_on}
use Rattle.nb_member.proofs.timed_table.begin_each.Goals as goal

pub loop-key-init : goal.loop-key-init
loop-key-init c =
    let m = c.args.starts.now in
    let own = c.args.own.now.contents in
    let listed : c.into_iter-key-iterator.result ≡ maps.keys c.args.other.now.contents = search rules in
    (ap (λ (ks : List Key). begun_each m ks c.args.moment) listed, subst (AreAnswered own m) (sym listed) (answered own c.args.other.now.contents m c.requires))

pub loop-key-preserved-in-Continue-1 : goal.loop-key-preserved-in-Continue-1
loop-key-preserved-in-Continue-1 c =
    let own = c.args.own.now.contents in
    let m = c.loop-key.starts in
    let rest = c.next.new.self in
    let left = subst (AreAnswered own m) c.in-Some.ensures.steps c.loop-key.invariant.1 in
    let begun = c.in_ok-begin_new-in-Absent.ensures.begun in (
      ap (λ (n : Moments). begun_each n rest c.args.moment) begun
          ∙ (sym (ap (λ (ks : List Key). begun_each m ks c.args.moment) c.in-Some.ensures.steps) ∙ c.loop-key.invariant.0),
      subst (λ (n : Moments). AreAnswered own n rest) (sym begun) (answered_on own m c.in-Some.key c.args.moment rest left.1 left.2),
    )
