use Rattle.std.proofs.Common.{◌++◌, refl, sym, ◌∙◌, ap, subst, append-nil}
use Rattle.std.specs.List.{AllByRecursion}
use Rattle.nb_names.specs.DomainName.{IsLabel}
use Rattle.nb_names.specs.NameText.{scope_text_of}
use Rattle.nb_names.proofs.WrittenLemmas.{label_turn}
use Rattle.nb_names.proofs.text_writing.dot_labels.Goals as goal

pub labels-init : goal.labels-init
labels-init c = (λ labels a e. (labels, a, e, refl), λ was. was)

pub labels-preserved : goal.labels-preserved
labels-preserved c = (
  λ labels a e.
      let was = c.labels.invariant.0 labels a e in
      let split = c.in-Some.ensures.split was.0 was.1 was.2 in (
        split.0,
        (subst (AllByRecursion IsLabel) split.1 was.1).1,
        split.2,
        label_turn c.in-Some.label.now split.0 _ _ _ (c.dot_label.ensures.dotted c.if-not-dot_label.false) (ap (λ ls. c.labels.row.items ++ scope_text_of ls) (sym split.1) ∙ was.3),
      ),
  λ was. c.dot_label.ensures.ascii c.if-not-dot_label.false (c.labels.invariant.1 was),
)

pub returns-clause-dotted : goal.returns-clause-dotted
returns-clause-dotted c labels a e all =
    let was = c.labels.invariant.0 labels a e in
    let none = c.in_default.ensures.split was.0 was.1 was.2 in
    sym (append-nil c.labels.row.items) ∙ ap (λ ls. c.labels.row.items ++ scope_text_of ls) (sym none) ∙ was.3
