use Rattle.std.proofs.Common.{◌+◌, ◌++◌, List, ℕ, drop, sym, ◌∙◌, ap, append_assoc}
use Rattle.std.proofs.lemmas.List.{at_drop_more}
use Rattle.nb_names.specs.NameText.{items_of}
use Rattle.nb_names.proofs.text_writing.dot_label.Goals as goal

pub loop-byte-preserved : goal.loop-byte-preserved
loop-byte-preserved c =
    let label = c.args.label.now in
    let place = c.loop-byte.byte-index in
    let before = c.loop-byte.row.items in (
      ap (λ (row : List ℕ). row ++ items_of (drop (place + 1) label)) (c.add_plain.ensures.added c.if-not-add_plain.false) ∙ append_assoc before _ _
          ∙ ap (λ (items : List ℕ). before ++ items) (sym (at_drop_more items_of label place 0 c.loop-byte-test.true))
          ∙ c.loop-byte.invariant.0,
      λ was. c.add_plain.ensures.ascii c.if-not-add_plain.false (c.loop-byte.invariant.1 was),
    )
