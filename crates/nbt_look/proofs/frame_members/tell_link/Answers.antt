use Rattle.std.proofs.Common.{◌∙◌}
use Rattle.std.proofs.lemmas.Result.{on_ok_weaker}
use Rattle.nb_pcap.specs.Frame.{value_of}
use Rattle.nbt_look.proofs.ObjectLemmas.{link_told}
use Rattle.nbt_look.proofs.frame_members.tell_link.Goals as goal

pub returns : goal.returns
returns g c =
    let has = c.contents_of-contents.ensures in
    on_ok_weaker c.tell_mac-2.result
    (λ told. link_told g.S.Sink.after _ _ _ _ (value_of c.args.frame.now) _ _ _ (c.as_slice.ensures.value ∙ has.vlans) has.sender has.receiver
    c.in_ok-tell_vlans.ensures c.in_ok-tell_mac.ensures told)
    c.tell_mac-2.ensures
