use Rattle.std.proofs.Common.{refl}
use Rattle.std.proofs.lemmas.List.{take_rest}
use Rattle.nb_pcap.specs.Frame.{value_of}
use Rattle.nb_traffic.specs.Brought.{segment_value}
use Rattle.nbt_look.proofs.ListerLemmas.{all_added, none_added, one_added}
use Rattle.nbt_look.proofs.lister.Lister.add_packets.Goals as goal

pub packets-init : goal.packets-init
packets-init c = none_added _ (value_of c.args.frame.now) (segment_value c.args.segment.now) _ _

pub packets-preserved : goal.packets-preserved
packets-preserved c =
    one_added _ (value_of c.args.frame.now) (segment_value c.args.segment.now) _ _ _ _ _ _ c.packets.rest.now _ c.in-Whole.field-0 c.in-Whole.used _
    c.packets.invariant c.in-Whole.ensures.stands c.session_entry.ensures (take_rest c.packets.rest.now c.in-Whole.used) c.in_ok-add-in-Whole.ensures

pub returns-in-More : goal.returns-in-More
returns-in-More c =
    all_added _ (value_of c.args.frame.now) (segment_value c.args.segment.now) _ _ _ _ c.packets.rest.now _ c.packets.invariant c.in-More.ensures.only refl

pub returns-in-Refused : goal.returns-in-Refused
returns-in-Refused c =
    all_added _ (value_of c.args.frame.now) (segment_value c.args.segment.now) _ _ _ _ c.packets.rest.now _ c.packets.invariant c.in-Refused.ensures.only refl
