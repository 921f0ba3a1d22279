use Rattle.nb_table.proofs.Common.{◌++◌, sym, ◌∙◌, ap, ap₂, append-nil, subst, AllByRecursion, MAX_LENGTH, IsShort}
use Rattle.nb_table.proofs.Limits.MergingLemmas.{seen, seen_all, entries_short}
use Rattle.nb_table.proofs.table.merging.merging_entries.preview_entries.Goals as goal

pub loop-key-init : goal.loop-key-init
loop-key-init c =
    let order = c.into_iter-key-iterator.ensures.into_iter_gives ∙ c.iter-key-items.ensures in
    record {
      short = subst (AllByRecursion (λ e. IsShort MAX_LENGTH e.1)) (sym order) (entries_short MAX_LENGTH c.args.others.now c.requires.other);
      seen = ap₂ (λ ds es. ds ++ seen c.args.entries.now es) c.new-datagrams.ensures.items order;
    }

pub returns : goal.returns
returns c =
    let t = c.args.entries.now in
    let ds = c.loop-key.datagrams.items in
    c.from_vec.ensures
    ∙ sym (append-nil ds)
    ∙ sym (ap (λ es. ds ++ seen t es) c.in-None.ensures.steps.0)
    ∙ c.loop-key.invariant.seen
    ∙ seen_all t c.args.others.now
