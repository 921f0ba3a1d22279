use Rattle.std.proofs.Common.{refl}
use Rattle.std.proofs.lemmas.Result.{on_ok_weaker}
use Rattle.nb_pcap.specs.Frame.{value_of}
use Rattle.nb_traffic.specs.Brought.{brought_value}
use Rattle.nbt_look.proofs.ListerLemmas.{datagram_listed, fragment_listed, nothing_listed, segment_listed}
use Rattle.nbt_look.proofs.lister.Lister.make.Goals as goal

pub returns-in-Datagram : goal.returns-in-Datagram
returns-in-Datagram c =
    on_ok_weaker c.add.result
    (datagram_listed _ (value_of c.args.frame.now) c.args.brought.now _ _ _ _ _ _ _ c.in-Datagram.is c.begin.ensures c.clear.ensures.items
    c.packet_entry.ensures)
    c.add.ensures

pub returns-in-Segment : goal.returns-in-Segment
returns-in-Segment c =
    on_ok_weaker c.add_segment.result
    (segment_listed _ (value_of c.args.frame.now) c.args.brought.now _ _ _ _ _ _ c.in-Segment.is c.begin.ensures c.clear.ensures.items)
    c.add_segment.ensures

pub returns-in-NoFragment : goal.returns-in-NoFragment
returns-in-NoFragment c =
    on_ok_weaker c.add-in-NoFragment.result
    (fragment_listed _ (value_of c.args.frame.now) c.args.brought.now _ _ _ _ _ _ _ _ c.in-NoFragment.is c.begin.ensures c.clear.ensures.items
    c.fragment_entry.ensures)
    c.add-in-NoFragment.ensures

pub returns-in-Fragment : goal.returns-in-Fragment
returns-in-Fragment c =
    nothing_listed _ (value_of c.args.frame.now) (brought_value c.args.brought.now) _ _ _ (rw c.in-Fragment.is refl) c.begin.ensures c.clear.ensures.items

pub returns-in-OtherPorts : goal.returns-in-OtherPorts
returns-in-OtherPorts c =
    nothing_listed _ (value_of c.args.frame.now) (brought_value c.args.brought.now) _ _ _ (rw c.in-OtherPorts.is refl) c.begin.ensures c.clear.ensures.items

pub returns-in-Unread : goal.returns-in-Unread
returns-in-Unread c =
    nothing_listed _ (value_of c.args.frame.now) (brought_value c.args.brought.now) _ _ _ (rw c.in-Unread.is refl) c.begin.ensures c.clear.ensures.items
