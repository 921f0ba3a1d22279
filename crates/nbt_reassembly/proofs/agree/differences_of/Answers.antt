use Rattle.nbt_reassembly.proofs.Common.{◌++◌, List, ap, ap₂, map, sym, ◌∙◌, codes, Key, key_cmp_total, key_cmp_exact, entries_are, lines_of_keys}
use Rattle.nbt_reassembly.proofs.agree.differences_of.Goals as goal

pub loop-key-init : goal.loop-key-init
loop-key-init c =
    let t = c.args.one.now.contents in
    let u = c.args.other.now.contents in
    let held = c.keys-key-items.ensures in
    let keys = c.into_iter-key-iterator.ensures.into_iter_gives ∙ held.rest ∙ sym (ap (map (λ e. e.0)) (entries_are key_cmp_total key_cmp_exact c.in_ok-keys.keys held.ordered)) ∙ c.in_ok-keys.ensures in
    let text = c.in_ok-push_str.ensures.bytes ∙ ap (λ front. front ++ codes "different\n") c.new-lines.ensures.bytes in
    ap₂ (λ front (ks : List Key). front ++ lines_of_keys t u ks) text keys
