use Rattle.std.proofs.Common.{sym, ◌∙◌, ap, Some}
use Rattle.nb_datagram.specs.Fragment.{cores_of}
use Rattle.nb_table.specs.Conflict.{with_key}
use Rattle.nb_table.specs.Contents.{cover_in}
use Rattle.nb_table.specs.Shared.ContentsLemmas.{get-cover_in}
use Rattle.nb_entries.specs.Shared.WholeLemmas.{below_none, below_more}
use Rattle.nb_examples.proofs.plain.whole.bytes_below.Goals as goal

pub returns-in-None : goal.returns-in-None
returns-in-None c =
    let fs = with_key c.args.key.now (cores_of c.args.fragments.now) in
    sym (below_none (cover_in fs).bytes c.args.end c.loop-place.place c.loop-place-test.true (get-cover_in fs c.loop-place.place ∙ sym c.byte_at.ensures ∙ c.in-None.is))

pub loop-place-preserved : goal.loop-place-preserved
loop-place-preserved c =
    let fs = with_key c.args.key.now (cores_of c.args.fragments.now) in
    below_more (cover_in fs).bytes c.loop-place.place c.loop-place.bytes.items c.in-Some.byte c.loop-place.invariant (get-cover_in fs c.loop-place.place ∙ sym c.byte_at.ensures ∙ c.in-Some.is)
    ∙ ap Some (sym c.in_ok-push-in-Some.ensures.items)
