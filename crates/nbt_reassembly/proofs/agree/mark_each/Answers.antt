use Rattle.nbt_reassembly.proofs.Common.{List, ◌∙◌, ap, sym, key_cmp_total, key_cmp_exact, key_cmp, insert_is, Key, marked}
use Rattle.std.specs.FinMap as maps
use Rattle.nbt_reassembly.specs.Code.Marks.{Marks}
use Rattle.nbt_reassembly.proofs.DifferenceLemmas.{unmarked, now_marked}
use Rattle.nbt_reassembly.proofs.agree.mark_each.Goals as goal

pub loop-key-preserved : goal.loop-key-preserved
loop-key-preserved c =
    let t = c.args.one.now.contents in
    let u = c.args.other.now.contents in
    let marks : Marks = maps.from_entries {R = key_cmp} c.loop-key.marks.entries in
    ap (λ (s : Marks). marked t u s c.next.new.self) (unmarked t u marks c.in-Some.key c.same_at.result c.same_at.ensures c.if-not-same_at.false)
    ∙ sym (ap (λ (ks : List Key). marked t u marks ks) c.in-Some.ensures.steps) ∙ c.loop-key.invariant

pub loop-key-preserved-in_ok-insert : goal.loop-key-preserved-in_ok-insert
loop-key-preserved-in_ok-insert c =
    let t = c.args.one.now.contents in
    let u = c.args.other.now.contents in
    let marks : Marks = maps.from_entries {R = key_cmp} c.loop-key.marks.entries in
    let made = insert_is key_cmp_total key_cmp_exact c.loop-key.marks c.insert.new.self c.in-Some.key tt c.in_ok-insert.ensures.updates in
    ap (λ (s : Marks). marked t u s c.next.new.self) (made ∙ now_marked t u marks c.in-Some.key c.same_at.result c.same_at.ensures c.if-not-same_at.true)
    ∙ sym (ap (λ (ks : List Key). marked t u marks ks) c.in-Some.ensures.steps) ∙ c.loop-key.invariant
