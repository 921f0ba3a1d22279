use Rattle.std.proofs.Common.{ap}
use Rattle.nb_service.specs.declared.record.Fields.{Fields}
use Rattle.nb_service.proofs.seen.Seen.question.Goals as goal

pub returns : goal.returns
returns c question sees = λ i. record {
  name = c.domain_at.ensures question.name sees.name i;
  kind = ap (λ (f : Fields). f.kind) sees.fields i;
  class = ap (λ (f : Fields). f.class) sees.fields i;
}
