use Rattle.std.proofs.Common.{string_bytes}
use Rattle.std.proofs.lemmas.Result.{on_ok_weaker}
use Rattle.nb_text.proofs.TellsLemmas.{told_shown}
use Rattle.nb_text.proofs.showing.push_packet.Goals as goal

pub returns-clause-added : goal.returns-clause-added
returns-clause-added c =
    on_ok_weaker c.tell_packet.result
    (told_shown c.args.payload.now c.args.port (string_bytes c.args.text.now) (string_bytes c.tell_packet.new.sink)) c.tell_packet.ensures.told
