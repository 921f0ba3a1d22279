use Rattle.std.proofs.Common.{◌++◌}
use Rattle.std.proofs.lemmas.Result.{on_ok_weaker}
use Rattle.nb_telling.proofs.FoldLemmas.{and_then}
use Rattle.nbt_look.specs.Totals.{left_out_fields, packets_fields, rest_fields}
use Rattle.nbt_look.proofs.last.tell_counts.Goals as goal

pub returns : goal.returns
returns g c =
    let l = c.args.listing.now in
    on_ok_weaker c.tell_rest.result
    (λ told. and_then g.S.Sink.after _ (packets_fields l.counts) (left_out_fields l.counts ++ rest_fields l) c.in_ok-tell_packets.ensures
    (and_then g.S.Sink.after _ (left_out_fields l.counts) (rest_fields l) c.in_ok-tell_left_out.ensures told))
    c.tell_rest.ensures
