use Rattle.std.proofs.Common.{◌∙◌}
use Rattle.nb_names.proofs.SpellingLemmas.{labels_of-spelled, spelled}
use Rattle.nb_names.proofs.lent_name.NameForm.lent.Goals as goal

pub new-requires-clause-spelled : goal.new-requires-clause-spelled
new-requires-clause-spelled g c = spelled _ _ c.scope_spelling.ensures.formed.0.scope.domain c.scope_spelling.ensures.value

pub new-requires-clause-scope : goal.new-requires-clause-scope
new-requires-clause-scope g c =
    let formed = c.scope_spelling.ensures.formed.0.scope in
    rw (labels_of-spelled _ _ formed.domain c.scope_spelling.ensures.value) formed

pub returns-clause-value : goal.returns-clause-value
returns-clause-value g c =
    let scope = labels_of-spelled _ _ c.scope_spelling.ensures.formed.0.scope.domain c.scope_spelling.ensures.value in
    c.new.ensures.value ∙ (λ i. record { bytes = c.bytes.ensures.value i; scope = scope i })
