use Rattle.std.proofs.Common.{◌++◌}
use Rattle.std.proofs.lemmas.Result.{on_ok_weaker}
use Rattle.nb_traffic.specs.Brought.{segment_value}
use Rattle.nbt_look.specs.Entries.{as_list, differing_in, lost_of}
use Rattle.nbt_look.proofs.ListerLemmas.{adds_both}
use Rattle.nbt_look.proofs.lister.Lister.add_segment.Goals as goal

pub returns : goal.returns
returns c =
    let s = segment_value c.args.segment.now in
    let lost = as_list (lost_of s s.left_out) in
    let differing = as_list (differing_in s) in
    let first = c.in_ok-add_packets.ensures in
    on_ok_weaker c.add_some-2.result
    (λ last. (
      first.0,
      first.1,
      adds_both _ _ first.0 (lost ++ differing) _ _ _ _ _ _ first.2
          (adds_both _ _ lost differing _ _ _ _ _ _ (rw c.lost_in.ensures at c.in_ok-add_some.ensures) (rw c.differing_in.ensures at last)),
    ))
    c.add_some-2.ensures
