use Rattle.nbt_packets.proofs.Common.{ℕ, List, ◌++◌, ap, ap₂, subst, sym, ◌∙◌, on_ok_weaker, Packet}
use Rattle.nb_telling.specs.Telling.{FieldTag, Text}
use Rattle.nb_text.specs.SaysPacket.{IsSaid}
use Rattle.nbt_packets.proofs.ShowingFieldsLemmas.{phrased_told, tick_told}
use Rattle.nbt_packets.proofs.texts.PhrasesLineFields.tell.Goals as goal

pub returns-in_ok-text-in-Packet : goal.returns-in_ok-text-in-Packet
returns-in_ok-text-in-Packet g c =
    let said = c.in_ok-push_brief-in-Packet.ensures.said in
    let is = c.in-Packet.is ∙ ap (Packet c.in-Packet.port c.in-Packet.moment) (sym c.as_slice-in-Packet.ensures) in
    let phrase = subst (λ (payload : List ℕ). IsSaid payload c.in-Packet.port said.text) (c.as_slice.ensures ∙ sym c.as_slice-in-Packet.ensures) said.said in
    let text = c.as_str.ensures.value ∙ said.added ∙ ap (λ (front : List ℕ). front ++ said.text) c.clear.ensures.bytes in
    let first = c.in_ok-text-in-Packet.ensures.told ∙ ap₂ (λ (key : FieldTag) (value : List ℕ). g.S.Sink.after (g.S.Sink.seen c.args.sink.now) (Text key value)) c.bare.ensures text in
    record {
      told = on_ok_weaker c.tell_packet.result
          (phrased_told g.S.Sink.after c.args.said.now tt tt c.in-Packet.port c.in-Packet.moment c.as_slice-in-Packet.result.now said.text _ _ _ is c.fields_are_members.ensures phrase first)
          c.tell_packet.ensures.told;
    }

pub returns-in-Tick : goal.returns-in-Tick
returns-in-Tick g c = record {
  told = on_ok_weaker c.text-in-Tick.result (tick_told g.S.Sink.after c.args.said.now tt tt c.in-Tick.now _ _ c.in-Tick.is) c.text-in-Tick.ensures.told;
}
