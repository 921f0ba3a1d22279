use Rattle.nbt_packets.proofs.Common.{ap, sym, ◌∙◌, on_ok_weaker, Packet}
use Rattle.nbt_packets.proofs.ShowingFieldsLemmas.{packet_told, tick_told}
use Rattle.nbt_packets.proofs.texts.PacketsLineFields.tell.Goals as goal

pub returns-in-Packet : goal.returns-in-Packet
returns-in-Packet g c =
    let is = c.in-Packet.is ∙ ap (Packet c.in-Packet.port c.in-Packet.moment) (sym c.as_slice.ensures) in record {
      told = on_ok_weaker c.tell_packet.result
          (packet_told g.S.Sink.after c.args.said.now tt tt c.in-Packet.port c.in-Packet.moment c.as_slice.result.now _ _ is c.fields_are_members.ensures)
          c.tell_packet.ensures.told;
    }

pub returns-in-Tick : goal.returns-in-Tick
returns-in-Tick g c = record {
  told = on_ok_weaker c.text.result (tick_told g.S.Sink.after c.args.said.now tt tt c.in-Tick.now _ _ c.in-Tick.is) c.text.ensures.told;
}
