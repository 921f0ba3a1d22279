use Rattle.nb_table.proofs.Common.{◌≡◌, ◌-◌, ◌∙◌, sym, ap, subst, arith, filter, map, length, entries_between, Included, Unbounded, Key, key_cmp, key_cmp_total, key_cmp_exact, EntryValue, of_source, entries_are, sorted_is, not-true, not-false}
use Rattle.nb_table.proofs.Limits.SourceLemmas.{Left, onward, onward_all, left_begun, left_next, none_counts, one_counts}
use Rattle.nb_table.proofs.entries.room_by_keys.Goals as goal

pub loop-key-init : goal.loop-key-init
loop-key-init c =
    let ip = c.args.ip in
    let es = c.args.map.now.entries in
    let is : c.into_iter-key-iterator.result ≡ onward ip es = c.into_iter-key-iterator.ensures.into_iter_gives ∙ c.range-key-items.ensures.between tt ∙ ap (λ k. entries_between key_cmp (Included k) Unbounded es) c.first_of.ensures in (
      ap (λ r. c.args.most - length r) (ap (λ fs. filter (of_source ip) (map (λ e. e.0) fs)) is ∙ onward_all ip es),
      subst (Left ip) (sym is) (left_begun ip es (sorted_is key_cmp es c.range-key-items.ensures.ordered)),
    )

pub returns-then-ne : goal.returns-then-ne
returns-then-ne c =
    let ip = c.args.ip in
    let held = entries_are key_cmp_total key_cmp_exact c.args.map.now c.range-key-items.ensures.ordered in
    let same = ap (λ fs. length (filter (of_source ip) (map (λ e. e.0) fs))) held in
    let is = c.in-Some.ensures.steps in
    let e : Key × EntryValue = (c.in-Some.key.now, c.in-Some._entry.now) in
    let left = subst (Left ip) is c.loop-key.invariant.1 in
    let none = ap (λ fs. length (filter (of_source ip) (map (λ f. f.0) fs))) is ∙ none_counts ip e c.next.new.self left (not-true _ (sym c.ne.ensures ∙ c.if-ne.true)) in
    omega (arith, c.loop-key.invariant.0, none, same)

pub returns-then-room-eq0 : goal.returns-then-room-eq0
returns-then-room-eq0 c =
    let held = entries_are key_cmp_total key_cmp_exact c.args.map.now c.range-key-items.ensures.ordered in
    let same = ap (λ fs. length (filter (of_source c.args.ip) (map (λ e. e.0) fs))) held in
    omega (arith, c.loop-key.invariant.0, c.if-room-eq0.true, same)

pub returns : goal.returns
returns c =
    let held = entries_are key_cmp_total key_cmp_exact c.args.map.now c.range-key-items.ensures.ordered in
    let same = ap (λ fs. length (filter (of_source c.args.ip) (map (λ e. e.0) fs))) held in
    let none = ap (λ fs. length (filter (of_source c.args.ip) (map (λ f. f.0) fs))) c.in-None.ensures.steps.0 in
    omega (arith, c.loop-key.invariant.0, none, same)

pub loop-key-preserved : goal.loop-key-preserved
loop-key-preserved c =
    let ip = c.args.ip in
    let is = c.in-Some.ensures.steps in
    let e : Key × EntryValue = (c.in-Some.key.now, c.in-Some._entry.now) in
    let one = ap (λ fs. length (filter (of_source ip) (map (λ f. f.0) fs))) is ∙ one_counts (of_source ip) e c.next.new.self (not-false _ (sym c.ne.ensures ∙ c.if-ne.false)) in
    (omega (arith, c.loop-key.invariant.0, one), left_next ip e c.next.new.self (subst (Left ip) is c.loop-key.invariant.1))
