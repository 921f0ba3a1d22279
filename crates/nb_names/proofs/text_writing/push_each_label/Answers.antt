use Rattle.std.proofs.Common.{◌++◌, string_bytes, refl, sym, ◌∙◌, ap, subst, append-nil}
use Rattle.std.specs.List.{AllByRecursion}
use Rattle.nb_names.specs.DomainName.{IsLabel}
use Rattle.nb_names.specs.NameText.{scope_text_of}
use Rattle.nb_names.proofs.WrittenLemmas.{label_turn}
use Rattle.nb_names.proofs.text_writing.push_each_label.Goals as goal

pub labels-init : goal.labels-init
labels-init c = (λ labels a e. (labels, a, e, refl), λ front f. f)

pub labels-preserved : goal.labels-preserved
labels-preserved c = (
  λ labels a e.
      let was = c.labels.invariant.0 labels a e in
      let split = c.in-Some.ensures.split was.0 was.1 was.2 in (
        split.0,
        (subst (AllByRecursion IsLabel) split.1 was.1).1,
        split.2,
        label_turn c.in-Some.label.now split.0 _ _ _ c.in_ok-push_label.ensures.added (ap (λ ls. string_bytes c.labels.text ++ scope_text_of ls) (sym split.1) ∙ was.3),
      ),
  λ front f. c.in_ok-push_label.ensures.front front (c.labels.invariant.1 front f),
)

pub returns-in_err-push_label-clause-front : goal.returns-in_err-push_label-clause-front
returns-in_err-push_label-clause-front c front f = c.in_err-push_label.ensures.front front (c.labels.invariant.1 front f)

pub returns-clause-added : goal.returns-clause-added
returns-clause-added c labels a e =
    let was = c.labels.invariant.0 labels a e in
    let none = c.in_default.ensures.split was.0 was.1 was.2 in
    sym (append-nil (string_bytes c.labels.text)) ∙ ap (λ ls. string_bytes c.labels.text ++ scope_text_of ls) (sym none) ∙ was.3
