use Rattle.nbt_packets.proofs.Common.{ap, sym, string_bytes, ◌∙◌, on_ok_weaker, Packet}
use Rattle.nbt_packets.proofs.ShowingLemmas.{adds_packet, adds_tick}
use Rattle.nbt_packets.proofs.texts.push_line.Goals as goal

pub returns-in-Tick : goal.returns-in-Tick
returns-in-Tick g c =
    on_ok_weaker c.push_tick.result
    (adds_tick _ c.args.number c.in-Tick.now (string_bytes c.args.text.now) (string_bytes c.push_tick.new.text) c.args.said.now c.in-Tick.is)
    c.push_tick.ensures

pub returns-in_ok-push_arrival-in-Packet : goal.returns-in_ok-push_arrival-in-Packet
returns-in_ok-push_arrival-in-Packet g c =
    let old = string_bytes c.args.text.now in
    let mid = string_bytes c.push_arrival.new.text in
    let new = string_bytes c.push.new.text in
    let is = c.in-Packet.is ∙ ap (Packet c.in-Packet.port c.in-Packet.moment) (sym c.as_slice.ensures) in
    on_ok_weaker c.push.result
    (adds_packet _ c.args.number c.in-Packet.port c.in-Packet.moment c.as_slice.result.now old mid new c.args.said.now is
    c.in_ok-push_arrival-in-Packet.ensures)
    c.push.ensures
