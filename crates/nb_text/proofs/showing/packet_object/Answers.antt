use Rattle.nb_text.proofs.TellsLemmas.{told_object, told_json}
use Rattle.nb_text.proofs.showing.packet_object.Goals as goal

pub returns-clause-object : goal.returns-clause-object
returns-clause-object c =
    told_object c.args.payload.now c.args.port _ _ c.end.result c.in_ok-tell_packet.ensures.told c.in_ok-sink.ensures c.end.ensures.bytes

pub returns-clause-json : goal.returns-clause-json
returns-clause-json c =
    told_json c.args.payload.now c.args.port _ _ c.end.result c.in_ok-tell_packet.ensures.told c.in_ok-sink.ensures c.end.ensures.json
