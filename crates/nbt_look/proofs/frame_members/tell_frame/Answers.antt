use Rattle.std.proofs.Common.{◌++◌}
use Rattle.std.proofs.lemmas.Result.{on_ok_weaker}
use Rattle.nb_pcap.specs.Frame.{value_of}
use Rattle.nb_telling.proofs.FoldLemmas.{and_then}
use Rattle.nb_traffic.specs.Brought.{packet_value}
use Rattle.nbt_look.specs.Objects.{column_fields, link_fields, size_fields}
use Rattle.nbt_look.proofs.frame_members.tell_frame.Goals as goal

pub returns : goal.returns
returns g c =
    let frame = value_of c.args.frame.now in
    let columns = column_fields c.args.frame.now.number frame c.args.shown.now (packet_value c.args.packet.now) in
    on_ok_weaker c.tell_size.result
    (λ told. and_then g.S.Sink.after _ columns (link_fields frame ++ size_fields frame) c.in_ok-tell_columns.ensures
    (and_then g.S.Sink.after _ (link_fields frame) (size_fields frame) c.in_ok-tell_link.ensures told))
    c.tell_size.ensures
