use Rattle.std.proofs.Common.{◌≡◌, drop, flat_map, fold}
use Rattle.nbt_look.specs.Objects.{vlan_fields}
use Rattle.nbt_look.proofs.frame_members.tell_each_vlan.Given as goal

abbrev pub invariant-loop-id : goal.invariant-loop-id
invariant-loop-id g l =
    fold g.S.Sink.after (g.S.Sink.seen l.sink) (flat_map vlan_fields (drop l.id-index l.ids))
    ≡ fold g.S.Sink.after (g.S.Sink.seen l.fn.sink) (flat_map vlan_fields l.ids)
