use Rattle.std.proofs.Common.{ℕ, ◌<◌, List, length, subst}
use Rattle.std.proofs.lemmas.Result.{on_ok_weaker}
use Rattle.nb_service.specs.ServiceFaults.{PacketFails, cut_header}
use Rattle.nb_text.specs.Made.{no_names}
use Rattle.nb_text.specs.TellsFront.{no_names_header}
use Rattle.nb_text.proofs.TellsLemmas.{alone_told}
use Rattle.nb_text.proofs.services.tell_judged.Goals as goal

pub returns-in-None-clause-told : goal.returns-in-None-clause-told
returns-in-None-clause-told g c = c.tell_whole.ensures.told c.args.more

pub returns-in-Err-clause-told : goal.returns-in-Err-clause-told
returns-in-Err-clause-told g c =
    let low = subst (λ (b : List ℕ). length b < 12) c.packet.ensures c.in-Err.ensures.fault.1 in
    let fails : PacketFails c.args.names.now c.in-Err.fault = rw (c.in-Err.ensures.fault.0, c.packet.ensures) (cut_header low) in
    on_ok_weaker c.tell_refusal.result
    (alone_told g.S.Sink.after c.args.names.now _ _ c.args.more _ (no_names c.in-Err.fault fails) (no_names_header c.in-Err.fault fails low))
    (rw c.place.ensures at c.tell_refusal.ensures.told)
