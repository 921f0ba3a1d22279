use Rattle.std.proofs.Common.{◌≡◌, ℕ, List, ◌∷◌, [], ◌++◌, fold, sym, ap, ◌∙◌}
use Rattle.nb_service.specs.Record.{ResourceRecord}
use Rattle.nb_service.proofs.ItemLemmas.{read_is_ok, read_is}
use Rattle.nb_telling.specs.Telling.{Field, Part, LineEnds, PartEnds}
use Rattle.nb_telling.proofs.FoldLemmas.{told_both}
use Rattle.nb_text.specs.ServiceFields.{head_fields, rdata_field, record_fields}
use Rattle.nb_text.specs.Views.{fields_by}
use Rattle.nb_text.proofs.records.tell_record_at.Goals as goal

-- a record, told part by part
steps : {S : Type 0} (after : S → Field → S) (old begun head parts new : S) (lead : List ℕ) (e : ResourceRecord) → begun ≡ after old (Part lead)
    → head ≡ fold after begun (head_fields e.name e.kind e.class e.ttl) → parts ≡ fold after head (rdata_field e.rdata ∷ LineEnds ∷ fields_by e.kind e.rdata)
    → new ≡ after parts PartEnds → new ≡ fold after old (record_fields lead e)
steps {S} after old begun head parts new lead e first second third last =
    last
    ∙ ap (λ (s : S). after s PartEnds)
    (third ∙ ap (λ (s : S). fold after s (rdata_field e.rdata ∷ LineEnds ∷ fields_by e.kind e.rdata))
    (second ∙ ap (λ (s : S). fold after s (head_fields e.name e.kind e.class e.ttl)) first))
    ∙ sym (told_both after (fold after old (Part lead ∷ (head_fields e.name e.kind e.class e.ttl ++ rdata_field e.rdata ∷ LineEnds ∷ []))) (fields_by e.kind e.rdata) (PartEnds ∷ []))

pub unwrap-seen-requires : goal.unwrap-seen-requires
unwrap-seen-requires g c = read_is_ok c.see_record.result _ (c.see_record.ensures.only c.requires.0 c.requires.1 c.requires.2)

pub tell_head-requires : goal.tell_head-requires
tell_head-requires g c =
    let seen = read_is c.see_record.result _ _ c.unwrap-seen.ensures (c.see_record.ensures.only c.requires.0 c.requires.1 c.requires.2) in
    (_, seen.1.name)

pub tell_rdata-requires : goal.tell_rdata-requires
tell_rdata-requires g c =
    let seen = read_is c.see_record.result _ _ c.unwrap-seen.ensures (c.see_record.ensures.only c.requires.0 c.requires.1 c.requires.2) in
    (c.requires.0, seen.1)

pub returns-clause-told : goal.returns-clause-told
returns-clause-told g c entry next stands =
    let seen = read_is c.see_record.result _ _ c.unwrap-seen.ensures (c.see_record.ensures.only entry next stands) in
    let head = rw seen.1.fields at (c.in_ok-tell_head.ensures.told entry.name seen.1.name) in (
      seen.2,
      steps g.S.Sink.after _ _ _ _ _ c.args.lead.now entry c.in_ok-part.ensures.told head (c.in_ok-tell_rdata.ensures.told entry seen.1)
          c.in_ok-part_ends.ensures.told,
    )
