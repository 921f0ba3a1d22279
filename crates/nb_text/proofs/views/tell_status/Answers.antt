use Rattle.std.proofs.Common.{◌≡◌, List, codes, fold, sym, ap, ◌∙◌}
use Rattle.std.specs.List.{flat_map}
use Rattle.std.proofs.lemmas.Result.{on_ok_weaker}
use Rattle.nb_service.specs.Record.{of_bytes}
use Rattle.nb_service.specs.Views.{StatusParts, status_of_data}
use Rattle.nb_telling.specs.Telling.{Field, LineEnds}
use Rattle.nb_telling.proofs.FoldLemmas.{and_then}
use Rattle.nb_text.specs.Fields.{list_fields}
use Rattle.nb_text.specs.Views.{node_name_fields, parts_in, unit_fields}
use Rattle.nb_text.proofs.ViewLemmas.{names_found, unit_told}
use Rattle.nb_text.proofs.views.tell_status.Goals as goal

pub returns-in_ok-digits-in-Some-clause-told : goal.returns-in_ok-digits-in-Some-clause-told
returns-in_ok-digits-in-Some-clause-told g c =
    let after = g.S.Sink.after in
    let status = status_of_data (of_bytes c.args.bytes.now) in
    let names : parts_in (λ (s : StatusParts). s.names) c.of_rdata.result ≡ status.names =
    names_found c.args.bytes.now c.of_rdata.result _ c.of_rdata.ensures.found c.of_rdata.ensures.value in
    let unit = unit_told status.statistics c.in-Some.unit (sym c.first_unit.ensures ∙ c.in-Some.is) in
    let listed = c.in_ok-tell_list.ensures.told ∙ ap (λ (ns : List _). fold after (g.S.Sink.seen c.args.sink.now) (list_fields (codes "names") (flat_map node_name_fields ns))) names in
    on_ok_weaker c.line_ends.result
    (λ told. and_then after _ (list_fields (codes "names") (flat_map node_name_fields status.names)) (unit_fields status.statistics) listed
    (told ∙ ap (λ s. after s LineEnds) c.in_ok-digits-in-Some.ensures.told
    ∙ sym (ap (λ (fields : List Field). fold after (g.S.Sink.seen c.tell_list.new.sink) fields) unit)))
    c.line_ends.ensures.told
