use Rattle.std.proofs.Common.{◌≡◌, ◌∙◌, ap, List, ◌++◌, ◌∷◌, [], ℕ, Some}
use Rattle.std.specs.List.{slice_get}
use Rattle.nb_names.specs.FirstLevel.{letters}
use Rattle.nb_names.specs.Name.{labels_of_name}
use Rattle.nb_survey.specs.declared.heard.Listed.{Listed}
use Rattle.nb_survey.specs.Hearing.{listed_of}
use Rattle.nb_survey.proofs.HearingLemmas.{made_more}
use Rattle.nb_survey.proofs.hearing.push_listed.Goals as goal

pub names-preserved : goal.names-preserved
names-preserved c =
    let x = c.unwrap-name.result in
    let got : slice_get c.in-Some.status.names c.names.place ≡ Some x = cc in
    let spelled = c.to_domain.ensures ∙ (ap labels_of_name c.new.ensures.value ∙ ap (λ (scope : List (List ℕ)). letters x.bytes ∷ scope) c.copied.ensures) in
    c.in_ok-push.ensures.items
    ∙ (ap (λ (name : List (List ℕ)). c.names.found.items ++ (record { name = name; flags = x.flags }) ∷ []) spelled
    ∙ (ap (λ (xs : List Listed). xs ++ listed_of c.scope_of-scope.result x ∷ []) c.names.invariant
    ∙ made_more (listed_of c.scope_of-scope.result) c.args.found.now.items c.in-Some.status.names c.names.place x got))
