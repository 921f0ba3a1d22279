use Rattle.nb_pcap.specs.Frame.{value_of}
use Rattle.nbt_look.specs.Entries.{entry_value}
use Rattle.nbt_look.proofs.ObjectLemmas.{object_made}
use Rattle.nbt_look.proofs.objects.packet_object.Goals as goal

pub returns : goal.returns
returns c =
    object_made c.args.frame.now.number (value_of c.args.frame.now) (entry_value c.args.entry.now) c.args.shown.now.first c.args.shown.now.time.now
    c.args.shown.now.phrase.now _ _ _ _ _ _ c.fronts_are_members.ensures c.in_ok-sink.ensures c.in_ok-tell_frame.ensures
    (rw c.moment_of.ensures at c.in_ok-tell_arrival.ensures) c.in_ok-tell_standing.ensures
    c.in_ok-made.ensures.bytes c.in_ok-made.ensures.json c.in_ok-end_line.ensures
