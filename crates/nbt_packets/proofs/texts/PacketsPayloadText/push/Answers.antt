use Rattle.nbt_packets.proofs.Common.{on_ok_weaker}
use Rattle.nbt_packets.proofs.texts.PacketsPayloadText.push.Goals as goal

pub returns : goal.returns
returns c = on_ok_weaker c.push_packet.result (λ a. (a.text, a.shown, a.added)) c.push_packet.ensures.added
