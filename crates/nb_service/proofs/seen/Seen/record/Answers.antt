use Rattle.std.proofs.Common.{◌∙◌, ap}
use Rattle.nb_service.specs.declared.record.Fields.{Fields}
use Rattle.nb_service.proofs.ItemLemmas.{data_fits, seen_rdata}
use Rattle.nb_service.proofs.seen.Seen.record.Goals as goal

pub new-requires : goal.new-requires
new-requires c =
    let sees = c.requires.1 in
    rw (c.rdata-rdata.ensures _ sees) (data_fits _ _ _ _ _ sees.stands.rdlength.fits (seen_rdata _ _ _ sees))

pub returns : goal.returns
returns c entry sees = c.new.ensures ∙ (λ i. record {
  name = c.domain_at-name.ensures entry.name sees.name i;
  kind = ap (λ (f : Fields). f.kind) sees.fields i;
  class = ap (λ (f : Fields). f.class) sees.fields i;
  ttl = ap (λ (f : Fields). f.ttl) sees.fields i;
  rdata = c.rdata-rdata.ensures entry sees i;
})
