use Rattle.std.proofs.Common.{ap, ◌∙◌}
use Rattle.nbt_look.specs.Hearing.{Hearing}
use Rattle.nbt_look.proofs.NamingLemmas.{conflict_in, named_in, status_in}
use Rattle.nbt_look.proofs.hearing.hear.Goals as goal

pub returns : goal.returns
returns c =
    let told = c.in_ok-tell_front.ensures.told in
    let is = c.sink.view_is ∙ told.seen in
    record {
      fields = told.fields;
      tells = told.tells;
      is_named = ap (λ (h : Hearing). h.heard.is_named) is ∙ named_in c.args.wanted.now told.fields;
      status = ap (λ (h : Hearing). h.heard.status) is ∙ status_in c.args.wanted.now told.fields;
      conflict = ap (λ (h : Hearing). h.heard.conflict) is ∙ conflict_in c.args.wanted.now told.fields;
    }
