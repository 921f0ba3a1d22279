use Rattle.std.proofs.Common.{ℕ, Bool, List, ◌++◌, map, sym, ap, ap₂, ◌∙◌}
use Rattle.nb_service.specs.declared.views.NodeName.{NodeName}
use Rattle.nb_service.specs.Record.{of_bytes}
use Rattle.nb_text.specs.ServiceSaid.{few}
use Rattle.nb_text.specs.Views.{listed_by, name_listed}
use Rattle.nb_text.proofs.ViewLemmas.{names_found}
use Rattle.nb_text.proofs.views.list_view.Goals as goal

pub returns-in-33 : goal.returns-in-33
returns-in-33 c items is =
    let found = c.of_rdata-in-33 in
    c.list_each-in-33.ensures items is
    ∙ ap (λ (names : List NodeName). few (items ++ map name_listed names)) (names_found c.args.bytes.now found.result _ found.ensures.found found.ensures.value)
    ∙ sym (ap₂ (λ (status : Bool) (kind : ℕ). few (items ++ listed_by status kind (of_bytes c.args.bytes.now))) c.if-status.true c.in-33.is)
