use Rattle.nb_table.proofs.Common.{map, arith, refl, sym, ◌∙◌, ap, subst, take_all, slice_get_read, AreTaken}
use Rattle.nb_table.proofs.Joins.{each_is_taken, next_is_joined, next_is_taken, carried}
use Rattle.nb_table.proofs.join.join_all.Goals as goal

pub loop-index-init : goal.loop-index-init
loop-index-init g c = record { joined = refl; beside = refl; taken = tt }

pub returns-in-Err-clause-fault : goal.returns-in-Err-clause-fault
returns-in-Err-clause-fault g c =
    let inv = c.loop-index.invariant in
    let other = c.index-others-index.result in
    let at = slice_get_read c.args.others.now _ c.loop-index.index other refl (omega (arith, c.loop-index-test.true)) c.index-others-index.is in
    (other, at, carried (λ b x. g.J.Join.Refuses b x (g.J.Join.content other) c.in-Err.fault) _ _ _ _ inv.beside inv.joined c.in-Err.ensures.fault)

pub returns-in-Err-clause-before : goal.returns-in-Err-clause-before
returns-in-Err-clause-before g c = each_is_taken g.J.Join.joined (g.J.Join.Takes (g.J.Join.beside c.args.first.now)) (g.J.Join.content c.args.first.now) _ c.loop-index.invariant.taken

pub loop-index-preserved : goal.loop-index-preserved
loop-index-preserved g c =
    let inv = c.loop-index.invariant in
    let J = g.J.Join in
    let others = c.args.others.now in
    let n = c.loop-index.index in
    let other = c.index-others-index.result in
    let x = J.content c.args.first.now in
    let taken = J.Takes (J.beside c.args.first.now) in
    let at = slice_get_read others _ n other refl (omega (arith, c.loop-index-test.true)) c.index-others-index.is in
    record {
      joined =
          c.in_default.ensures.joined
          ∙ ap (λ q. J.joined q (J.content other)) inv.joined
          ∙ sym (next_is_joined J.joined J.content x others n other at);
      beside = c.in_default.ensures.beside ∙ inv.beside;
      taken = next_is_taken J.joined taken J.content x others n other at inv.taken (carried (λ b q. J.Takes b q (J.content other)) _ _ _ _ inv.beside inv.joined c.in_default.ensures.taken);
    }

pub returns-clause-taken : goal.returns-clause-taken
returns-clause-taken g c =
    let J = g.J.Join in
    let taken = J.Takes (J.beside c.args.first.now) in
    let x = J.content c.args.first.now in
    let all = take_all c.loop-index.index c.args.others.now (omega (arith, c.loop-index-test.false)) in
    subst (λ os. AreTaken J.joined taken x (map J.content os)) all (each_is_taken J.joined taken x _ c.loop-index.invariant.taken)
