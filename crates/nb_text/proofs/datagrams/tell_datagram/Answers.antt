use Rattle.std.proofs.lemmas.Result.{on_ok_weaker}
use Rattle.nb_telling.proofs.FoldLemmas.{and_then}
use Rattle.nb_text.specs.DatagramFields.{parts_fields}
use Rattle.nb_text.specs.Fields.{used_fields}
use Rattle.nb_text.proofs.TellsLemmas.{datagram_told, no_datagram_told}
use Rattle.nb_text.proofs.datagrams.tell_datagram.Goals as goal

pub returns-in_ok-tell_parts-in-Ok-clause-told : goal.returns-in_ok-tell_parts-in-Ok-clause-told
returns-in_ok-tell_parts-in-Ok-clause-told g c =
    datagram_told g.S.Sink.after c.args.payload.now _ _ c.tell_used.result _ _ c.in-Ok.ensures.found
    (on_ok_weaker c.tell_used.result
    (and_then g.S.Sink.after _ (parts_fields c.in-Ok.packet) (used_fields c.in-Ok.used) c.in_ok-tell_parts-in-Ok.ensures.told) c.tell_used.ensures.told)

pub returns-in-Err-clause-told : goal.returns-in-Err-clause-told
returns-in-Err-clause-told g c =
    no_datagram_told g.S.Sink.after c.args.payload.now _ _ c.tell_refusal.result _ c.in-Err.ensures.fault
    (rw c.place.ensures at c.tell_refusal.ensures.told)
