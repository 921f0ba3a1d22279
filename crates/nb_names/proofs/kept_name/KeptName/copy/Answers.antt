use Rattle.nb_names.proofs.kept_name.KeptName.copy.Goals as goal

pub invariant_of-result : goal.invariant_of-result
invariant_of-result c =
    let name = c.scope_spelling.ensures.name in
    let kept = c.in_ok-scope.ensures c.args.name.now.scope name.0.scope.domain c.scope_spelling.ensures.value in
    record { name = rw (kept.0, c.bytes.ensures.value) name; spelled = kept.1 }

pub returns : goal.returns
returns c =
    let name = c.scope_spelling.ensures.name in
    let kept = c.in_ok-scope.ensures c.args.name.now.scope name.0.scope.domain c.scope_spelling.ensures.value in
    λ i. record { bytes = c.bytes.ensures.value i; scope = kept.0 i }
