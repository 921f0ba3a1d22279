use Rattle.nb_entries.proofs.Common.{◌≡◌, ◌+◌, drop, ap, sym, ◌∙◌, arith, drop-drop}
use Rattle.nb_entries.proofs.cover.runs.inserting.join_rows.Goals as goal

pub loop-preserved : goal.loop-preserved
loop-preserved c =
    let size = c.in_ok-join_next.ensures.size in
    let next : c.args.at + 2 ≡ c.args.at + 1 + 1 = omega arith in
    record {
      some = c.in_ok-join_next.ensures.some;
      same = c.in_ok-join_next.ensures.same ∙ c.loop.invariant.same;
      front = c.in_ok-join_next.ensures.front ∙ c.loop.invariant.front;
      back = c.in_ok-join_next.ensures.back ∙ ap (λ n. drop n c.loop.rows.items) next ∙ sym (drop-drop 1 (c.args.at + 1) c.loop.rows.items) ∙ ap (drop 1) c.loop.invariant.back ∙ drop-drop 1 c.loop.counter c.args.rows.now.items;
      size = omega (arith, size, c.loop.invariant.size);
    }
