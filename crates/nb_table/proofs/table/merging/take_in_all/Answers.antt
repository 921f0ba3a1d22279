use Rattle.nb_table.proofs.Common.{ℕ, map, take, drop, slice_get, arith, refl, sym, ◌∙◌, ap, subst, take_all, Contents, join, joined_all, AreTaken, Fits, IsRefused}
use Rattle.std.specs.Iterator.Adapters.{enumerate_count, enumerate_source}
use Rattle.std.specs.Vec.Iter.{into_iter_items, into_iter_len}
use Rattle.nb_table.proofs.Joins.{are_taken, each_is_taken, next_is_joined, next_is_taken, carried, next_left}
use Rattle.nb_table.proofs.table.merging.take_in_all.Goals as goal

pub loop-index-init : goal.loop-index-init
loop-index-init c =
    let same = c.into_iter-index-iterator.ensures.into_iter_gives in
    let source = ap enumerate_source same ∙ c.enumerate-index-items.ensures.source in
    let count = ap enumerate_count same ∙ c.enumerate-index-items.ensures.count in
    record {
      left = ap (λ n. drop n c.args.others.items) count ∙ sym (ap into_iter_items source ∙ c.into_iter.ensures.rest);
      size = omega (arith, count, ap into_iter_len source, c.into_iter.ensures.len);
      joined = ap (λ n. joined_all join c.args.first.now.contents (map (λ t. t.contents) (take n c.args.others.items))) (sym count);
      limits = refl;
      taken = subst (λ n. are_taken join (Fits c.args.first.now.limits) c.args.first.now.contents (map (λ t. t.contents) (take n c.args.others.items))) (sym count) tt;
    }

pub returns-in-Err-clause-limits : goal.returns-in-Err-clause-limits
returns-in-Err-clause-limits c = ap (λ t. t.limits) c.in-Err.ensures.err ∙ c.loop-index.invariant.limits

pub returns-in-Err-clause-fault : goal.returns-in-Err-clause-fault
returns-in-Err-clause-fault c =
    let inv = c.loop-index.invariant in
    let step = c.in-Some.ensures.steps in
    let other = c.in-Some.other in
    let next = next_left c.args.others.items _ other _ (inv.left ∙ step.0.0) in
    let before : ℕ → Contents = λ n. joined_all join c.args.first.now.contents (map (λ t. t.contents) (take n c.args.others.items)) in (
      other,
      ap (slice_get c.args.others.items) step.1 ∙ next.0,
      carried (λ limits x. IsRefused limits x other.contents c.in-Err.fault) _ _ _ _ inv.limits (inv.joined ∙ ap before (sym step.1)) c.in-Err.ensures.fault,
    )

pub returns-in-Err-clause-before : goal.returns-in-Err-clause-before
returns-in-Err-clause-before c =
    let taken : ℕ → Type 0 = λ n. AreTaken join (Fits c.args.first.now.limits) c.args.first.now.contents (map (λ t. t.contents) (take n c.args.others.items)) in
    subst taken (sym c.in-Some.ensures.steps.1) (each_is_taken join (Fits c.args.first.now.limits) c.args.first.now.contents _ c.loop-index.invariant.taken)

pub returns-in-Err-clause-err : goal.returns-in-Err-clause-err
returns-in-Err-clause-err c =
    ap (λ t. t.contents) c.in-Err.ensures.err
    ∙ c.loop-index.invariant.joined
    ∙ ap (λ n. joined_all join c.args.first.now.contents (map (λ t. t.contents) (take n c.args.others.items))) (sym c.in-Some.ensures.steps.1)

pub loop-index-preserved : goal.loop-index-preserved
loop-index-preserved c =
    let inv = c.loop-index.invariant in
    let step = c.in-Some.ensures.steps in
    let others = c.args.others.items in
    let other = c.in-Some.other in
    let n = enumerate_count c.loop-index.index-iterator in
    let x = c.args.first.now.contents in
    let fits = Fits c.args.first.now.limits in
    let next = next_left others n other _ (inv.left ∙ step.0.0) in
    record {
      left = ap (λ k. drop k others) step.2 ∙ next.1;
      size = omega (arith, inv.size, step.0.1, step.2);
      joined =
          ap (λ t. t.contents) c.in_default.ensures.joined
          ∙ ap (λ q. join q other.contents) inv.joined
          ∙ sym (next_is_joined join (λ t. t.contents) x others n other next.0)
          ∙ ap (λ k. joined_all join x (map (λ t. t.contents) (take k others))) (sym step.2);
      limits = ap (λ t. t.limits) c.in_default.ensures.joined ∙ inv.limits;
      taken = subst (λ k. are_taken join fits x (map (λ t. t.contents) (take k others))) (sym step.2)
          (next_is_taken join fits (λ t. t.contents) x others n other next.0 inv.taken (carried (λ limits q. Fits limits q other.contents) _ _ _ _ inv.limits inv.joined c.in_default.ensures.fits));
    }

pub returns-clause-joined : goal.returns-clause-joined
returns-clause-joined c =
    let inv = c.loop-index.invariant in
    let all = take_all (enumerate_count c.loop-index.index-iterator) c.args.others.items (omega (arith, inv.size, c.in-None.ensures.steps.0.0)) in
    inv.joined ∙ ap (λ os. joined_all join c.args.first.now.contents (map (λ t. t.contents) os)) all

pub returns-clause-taken : goal.returns-clause-taken
returns-clause-taken c =
    let inv = c.loop-index.invariant in
    let fits = Fits c.args.first.now.limits in
    let x = c.args.first.now.contents in
    let all = take_all (enumerate_count c.loop-index.index-iterator) c.args.others.items (omega (arith, inv.size, c.in-None.ensures.steps.0.0)) in
    subst (λ os. AreTaken join fits x (map (λ t. t.contents) os)) all (each_is_taken join fits x _ inv.taken)

pub returns-clause-limits : goal.returns-clause-limits
returns-clause-limits c = c.loop-index.invariant.limits
