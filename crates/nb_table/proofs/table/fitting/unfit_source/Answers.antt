use Rattle.nb_table.proofs.Common.{◌≡◌, ◌∙◌, sym, subst, arith, Some, None, Key, EntryValue}
use Rattle.std.specs.FinMap as maps
use Rattle.nb_table.proofs.Limits.UnfitLemmas.{Gone, few_fit, gone_begun, gone_turn, gone_same, gone_all, unfit_found}
use Rattle.nb_table.proofs.table.fitting.unfit_source.Goals as goal

pub returns-then-len-from-clause-fit : goal.returns-then-len-from-clause-fit
returns-then-len-from-clause-fit c _ =
    few_fit c.args.most c.args.entries.now c.args.others.now (omega (arith, c.len.ensures.count, c.len-2.ensures.count, c.from.ensures, c.if-len-from.true))

pub loop-key-init : goal.loop-key-init
loop-key-init c =
    let s = c.args.entries.now in
    let t = c.args.others.now in
    let es = maps.entries c.args.others.now in
    let is : c.into_iter-key-iterator.result ≡ es = c.into_iter-key-iterator.ensures.into_iter_gives ∙ c.iter-key-items.ensures in
    subst (Gone c.args.most s t None es) (sym is) (gone_begun c.args.most s t es (maps.entries_sorted c.args.others.now))

pub loop-key-preserved-then-is_of_one : goal.loop-key-preserved-then-is_of_one
loop-key-preserved-then-is_of_one c =
    let s = c.args.entries.now in
    let t = c.args.others.now in
    let es = maps.entries c.args.others.now in
    let e : Key × EntryValue = (c.in-Some.key.now, c.in-Some._entry.now) in
    gone_same c.args.most s t c.loop-key.before es e c.next.new.self (subst (Gone c.args.most s t c.loop-key.before es) c.in-Some.ensures.steps c.loop-key.invariant) (c.is_of_one.ensures.0 c.if-is_of_one.true)

pub returns-in-Some-unfit_of-clause-unfit : goal.returns-in-Some-unfit_of-clause-unfit
returns-in-Some-unfit_of-clause-unfit c =
    let s = c.args.entries.now in
    let t = c.args.others.now in
    let es = maps.entries c.args.others.now in
    let e : Key × EntryValue = (c.in-Some.key.now, c.in-Some._entry.now) in
    let gone = subst (Gone c.args.most s t c.loop-key.before es) c.in-Some.ensures.steps c.loop-key.invariant in
    unfit_found c.args.most s t gone.done e c.next.new.self c.in-Some-unfit_of.unfit gone.is gone.sorted gone.none (sym c.unfit_of.ensures ∙ c.in-Some-unfit_of.is)

pub loop-key-preserved : goal.loop-key-preserved
loop-key-preserved c =
    let s = c.args.entries.now in
    let t = c.args.others.now in
    let es = maps.entries c.args.others.now in
    let e : Key × EntryValue = (c.in-Some.key.now, c.in-Some._entry.now) in
    let none = sym c.unfit_of.ensures ∙ c.in_default.is in
    gone_turn c.args.most s t c.loop-key.before (Some c.in-Some.key.now) es e c.next.new.self (subst (Gone c.args.most s t c.loop-key.before es) c.in-Some.ensures.steps c.loop-key.invariant) none none

pub returns-clause-fit : goal.returns-clause-fit
returns-clause-fit c _ =
    let s = c.args.entries.now in
    let t = c.args.others.now in
    let es = maps.entries c.args.others.now in
    gone_all c.args.most s t c.loop-key.before
    (subst (Gone c.args.most s t c.loop-key.before es) c.in-None.ensures.steps.0 c.loop-key.invariant)
