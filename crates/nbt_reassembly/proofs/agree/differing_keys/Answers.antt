use Rattle.nbt_reassembly.proofs.Common.{ap, ◌∙◌, key_cmp, marked}
use Rattle.std.specs.FinMap as maps
use Rattle.nbt_reassembly.proofs.DifferenceLemmas.{marks_are}
use Rattle.nbt_reassembly.proofs.agree.differing_keys.Goals as goal

pub returns : goal.returns
returns c =
    let t = c.args.one.now.contents in
    let u = c.args.other.now.contents in
    ap maps.keys
    (c.in_ok-mark_each-2.ensures
    ∙ ap (λ s. marked t u s (maps.keys u)) (c.in_ok-mark_each.ensures ∙ ap (λ s. marked t u s (maps.keys t)) (ap (maps.from_entries {R = key_cmp}) c.new-keys.ensures.empty)))
    ∙ marks_are t u
