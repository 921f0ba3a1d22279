use Rattle.std.proofs.Common.{◌∙◌, ap, sym, refl, length}
use Rattle.nb_names.proofs.SpellingLemmas.{labels_of-spelled, spelled, no_label_spelled}
use Rattle.nb_names.proofs.kept_name.kept_scope.Goals as goal

pub returns-then-spelled : goal.returns-then-spelled
returns-then-spelled c labels domain is =
    rw c.new.ensures.items (sym (no_label_spelled labels (sym (ap length is) ∙ c.if-spelled.true)), λ some. absurd (some refl))

pub returns : goal.returns
returns c labels domain is =
    let copied = c.in_ok-from_slice.ensures.items ∙ is in
    (labels_of-spelled labels _ domain copied, λ some. spelled _ labels domain copied)
