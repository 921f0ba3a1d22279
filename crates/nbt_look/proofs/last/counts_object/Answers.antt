use Rattle.nbt_look.proofs.ObjectLemmas.{counts_made}
use Rattle.nbt_look.proofs.last.counts_object.Goals as goal

pub returns : goal.returns
returns c =
    counts_made c.args.listing.now _ _ _ _ c.in_ok-sink.ensures c.in_ok-tell_counts.ensures c.in_ok-made.ensures.bytes c.in_ok-made.ensures.json
    c.in_ok-end_line.ensures
