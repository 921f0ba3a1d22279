use Rattle.std.proofs.Common.{◌≡◌, ◌∷◌, [], ℕ, List, fold, refl, ap, ◌∙◌}
use Rattle.std.proofs.lemmas.Result.{on_ok_weaker}
use Rattle.nb_names.specs.NameText.{labels_written}
use Rattle.nb_service.specs.declared.record.Fields.{Fields}
use Rattle.nb_service.specs.declared.kinds.TheConstants.{NS}
use Rattle.nb_service.specs.Record.{ResourceRecord, of_bytes, of_domain}
use Rattle.nb_telling.specs.Telling.{Data, LineEnds, Text}
use Rattle.nb_text.specs.Tags.{tag_named}
use Rattle.nb_text.specs.ServiceFields.{rdata_field}
use Rattle.nb_text.specs.Views.{fields_by}
use Rattle.nb_text.proofs.HeardLemmas.{is_ns}
use Rattle.nb_text.proofs.records.tell_rdata.Goals as goal

bytes_same : (e : ResourceRecord) (kind : ℕ) (bytes : List ℕ) → kind ≡ e.kind → of_bytes bytes ≡ e.rdata →
    Data (tag_named "data") bytes ∷ LineEnds ∷ fields_by kind (of_bytes bytes) ≡ rdata_field e.rdata ∷ LineEnds ∷ fields_by e.kind e.rdata
bytes_same e kind bytes k d = rw (← k, ← d) refl

domain_same : (e : ResourceRecord) (labels : List (List ℕ)) → e.kind ≡ NS → of_domain labels ≡ e.rdata →
    Text (tag_named "domain") (labels_written labels) ∷ LineEnds ∷ [] ≡ rdata_field e.rdata ∷ LineEnds ∷ fields_by e.kind e.rdata
domain_same e labels k d = rw (k, ← d) refl

pub returns-in-Bytes-clause-told : goal.returns-in-Bytes-clause-told
returns-in-Bytes-clause-told g c entry sees =
    on_ok_weaker c.tell_bytes.result
    (λ told. told ∙ ap (fold g.S.Sink.after (g.S.Sink.seen c.args.sink.now)) (bytes_same entry _ _ (ap (λ (f : Fields). f.kind) sees.fields) (rw c.in-Bytes.is at (c.rdata.ensures entry sees))))
    c.tell_bytes.ensures.told

pub returns-in-Domain-clause-told : goal.returns-in-Domain-clause-told
returns-in-Domain-clause-told g c entry sees =
    let is : of_domain c.in-Domain.domain ≡ entry.rdata = rw c.in-Domain.is at (c.rdata.ensures entry sees) in
    on_ok_weaker c.tell_domain.result
    (λ told. told ∙ ap (fold g.S.Sink.after (g.S.Sink.seen c.args.sink.now)) (domain_same entry c.in-Domain.domain (is_ns _ _ _ _ _ _ is sees.stands.rdata) is))
    c.tell_domain.ensures.told
