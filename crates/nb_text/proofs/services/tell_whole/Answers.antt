use Rattle.std.proofs.Common.{fold, ap, sym, ◌∙◌}
use Rattle.std.proofs.lemmas.Result.{on_ok_weaker}
use Rattle.nb_service.specs.Header.{PacketHeader, header_value}
use Rattle.nb_service.specs.Packet.{header_of}
use Rattle.nb_telling.proofs.FoldLemmas.{and_then}
use Rattle.nb_text.specs.ServiceFields.{header_fields, lists_fields}
use Rattle.nb_text.specs.Made as made
use Rattle.nb_text.specs.TellsFront as fronts
use Rattle.nb_text.proofs.TellsLemmas.{alone_told}
use Rattle.nb_text.proofs.services.tell_whole.Goals as goal

pub returns-clause-told : goal.returns-clause-told
returns-clause-told g c more =
    let after = g.S.Sink.after in
    let seen = c.requires.stands in
    let end = rw c.requires.whole at seen.end in
    let header = c.in_ok-tell_header.ensures.told
    ∙ ap (λ (h : PacketHeader). fold after (g.S.Sink.seen c.args.sink.now) (header_fields h c.args.walked.now.next)) (sym end.1) in
    on_ok_weaker c.tell_lists.result
    (λ told. alone_told after c.args.names.now _ _ more _ (made.names _ _ end.0) (fronts.names _ _ end.0)
    (and_then after _ (header_fields (header_of seen.part) c.args.walked.now.next) (lists_fields seen.part) header told))
    (c.tell_lists.ensures.told (header_value c.args.header.now) seen)
