use Rattle.std.proofs.lemmas.Result.{on_ok_weaker}
use Rattle.nb_service.specs.Header.{header_value}
use Rattle.nb_telling.proofs.FoldLemmas.{and_then}
use Rattle.nb_text.specs.FrontFields.{names_header_fields}
use Rattle.nb_text.specs.ServiceFields.{lists_fields}
use Rattle.nb_text.specs.Made.{no_names}
use Rattle.nb_text.specs.Tells.{no_service_fields}
use Rattle.nb_text.proofs.TellsLemmas.{front_told}
use Rattle.nb_text.proofs.services.tell_cut.Goals as goal

pub returns-clause-told : goal.returns-clause-told
returns-clause-told g c =
    let after = g.S.Sink.after in
    let seen = c.requires.stands in
    let fails = rw c.requires.cut at seen.end in
    let header = header_value c.args.header.now in
    on_ok_weaker c.tell_lists.result
    (λ told. rw c.if-not-more.false (front_told after c.args.names.now _ _ c.args.fault header seen.part _ _ fails seen.items (rw c.place.ensures at c.in_ok-tell_refusal.ensures.told)
    (and_then after _ (names_header_fields header) (lists_fields seen.part) c.in_ok-tell_front_header.ensures.told told)))
    (c.tell_lists.ensures.told header seen)

pub returns-then-not-more-clause-told : goal.returns-then-not-more-clause-told
returns-then-not-more-clause-told g c =
    let fails = rw c.requires.cut at c.requires.stands.end in
    rw c.if-not-more.true
    (record { fields = no_service_fields c.args.fault; tells = no_names c.args.fault fails; seen = rw c.place.ensures at c.in_ok-tell_refusal.ensures.told })
