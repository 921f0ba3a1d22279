use Rattle.nb_entries.proofs.Common.{◌≡◌, ◌-◌, ap, ap₂, ◌∙◌, arith, on_ok_weaker, value_of, run_at, grown, Meet}
use Rattle.nb_entries.proofs.KeptRuns.RunPutLemmas.{meet_grown}
use Rattle.nb_entries.proofs.KeptRuns.RunMapLemmas.{Lies, lies_of, meet_at, none_there, one_there, more_there}
use Rattle.nb_entries.proofs.cover.runs.growing.insert_in_row.Goals as goal

pub join-requires : goal.join-requires
join-requires c =
    let xs = c.args.runs.now.items in
    let f = run_at c.args.start c.args.bytes.now in
    let lies : Lies xs f c.first_from-first.result c.past_to-past.result = lies_of xs _ _ f _ _ c.deref.ensures.value c.deref-2.ensures.value c.first_from-first.ensures.before c.first_from-first.ensures.after c.past_to-past.ensures.within c.past_to-past.ensures.before c.past_to-past.ensures.after in
    meet_at xs f _ _ _ c.index_mut.result.now lies (omega arith) (omega arith) c.index_mut.ensures.value

pub returns-then-past-first-clause-ok : goal.returns-then-past-first-clause-ok
returns-then-past-first-clause-ok c =
    let xs = c.args.runs.now.items in
    let f = run_at c.args.start c.args.bytes.now in
    let lies : Lies xs f c.first_from-first.result c.past_to-past.result = lies_of xs _ _ f _ _ c.deref.ensures.value c.deref-2.ensures.value c.first_from-first.ensures.before c.first_from-first.ensures.after c.past_to-past.ensures.within c.past_to-past.ensures.before c.past_to-past.ensures.after in
    on_ok_weaker c.join.result (λ e. one_there xs f _ _ c.index_mut.result.now c.join.new.run lies c.if-past-first.true c.requires.apart c.requires.agree c.index_mut.ensures.value e) c.join.ensures.ok

pub returns-then-past-first-2-clause-ok : goal.returns-then-past-first-2-clause-ok
returns-then-past-first-2-clause-ok c =
    let xs = c.args.runs.now.items in
    let f = run_at c.args.start c.args.bytes.now in
    let lies : Lies xs f c.first_from-first.result c.past_to-past.result = lies_of xs _ _ f _ _ c.deref.ensures.value c.deref-2.ensures.value c.first_from-first.ensures.before c.first_from-first.ensures.after c.past_to-past.ensures.within c.past_to-past.ensures.before c.past_to-past.ensures.after in
    rw c.in_ok-insert.ensures.items (none_there xs f _ _ _ lies c.if-past-first-2.true c.requires.apart c.requires.put c.in_ok-whole.ensures)

pub join-requires-2 : goal.join-requires-2
join-requires-2 c =
    let xs = c.args.runs.now.items in
    let f = run_at c.args.start c.args.bytes.now in
    let lies : Lies xs f c.first_from-first.result c.past_to-past.result = lies_of xs _ _ f _ _ c.deref.ensures.value c.deref-2.ensures.value c.first_from-first.ensures.before c.first_from-first.ensures.after c.past_to-past.ensures.within c.past_to-past.ensures.before c.past_to-past.ensures.after in
    let m = meet_at xs f _ _ (c.past_to-past.result - 1) c.index-last.result.now lies (omega arith) (omega arith) c.index-last.ensures in
    rw (c.in_ok-whole.ensures, c.start.ensures, c.bytes.ensures) (record { before = m.after; after = m.before })

pub join-requires-3 : goal.join-requires-3
join-requires-3 c =
    let xs = c.args.runs.now.items in
    let f = run_at c.args.start c.args.bytes.now in
    let last = c.index-last.result.now in
    let lies : Lies xs f c.first_from-first.result c.past_to-past.result = lies_of xs _ _ f _ _ c.deref.ensures.value c.deref-2.ensures.value c.first_from-first.ensures.before c.first_from-first.ensures.after c.past_to-past.ensures.within c.past_to-past.ensures.before c.past_to-past.ensures.after in
    let n = meet_at xs f _ _ (c.past_to-past.result - 1) last lies (omega arith) (omega arith) c.index-last.ensures in
    let met : Meet f (value_of last) = record { before = n.after; after = n.before } in
    let grows : value_of c.join-2.new.run ≡ grown f (value_of last) = c.in_ok-join.ensures.ok ∙ ap₂ grown c.in_ok-whole.ensures (ap₂ run_at c.start.ensures c.bytes.ensures) in
    rw (c.start-2.ensures, c.bytes-2.ensures, grows) (meet_grown _ f (value_of last) (meet_at xs f _ _ _ c.index_mut-2.result.now lies (omega arith) (omega arith) c.index_mut-2.ensures.value) met)

pub returns-clause-ok : goal.returns-clause-ok
returns-clause-ok c =
    let xs = c.args.runs.now.items in
    let f = run_at c.args.start c.args.bytes.now in
    let lies : Lies xs f c.first_from-first.result c.past_to-past.result = lies_of xs _ _ f _ _ c.deref.ensures.value c.deref-2.ensures.value c.first_from-first.ensures.before c.first_from-first.ensures.after c.past_to-past.ensures.within c.past_to-past.ensures.before c.past_to-past.ensures.after in
    let last = c.index-last.result.now in
    let grows : value_of c.join-2.new.run ≡ grown f (value_of last) = c.in_ok-join.ensures.ok ∙ ap₂ grown c.in_ok-whole.ensures (ap₂ run_at c.start.ensures c.bytes.ensures) in
    let made : value_of c.join-3.new.run ≡ grown (value_of c.index_mut-2.result.now) (grown f (value_of last)) =
    c.in_ok-join-2.ensures.ok ∙ ap (grown (value_of c.index_mut-2.result.now)) (ap₂ run_at c.start-2.ensures c.bytes-2.ensures ∙ grows) in
    rw c.drop_runs.ensures (more_there xs f _ _ c.index_mut-2.result.now last c.join-3.new.run lies (omega arith) c.requires.apart c.requires.agree c.index_mut-2.ensures.value c.index-last.ensures made)
