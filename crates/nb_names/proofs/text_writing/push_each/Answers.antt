use Rattle.std.proofs.Common.{◌+◌, ◌++◌, List, ℕ, drop, string_bytes, sym, ◌∙◌, ap, append_assoc}
use Rattle.std.proofs.lemmas.List.{at_drop_more}
use Rattle.nb_names.specs.NameText.{items_of}
use Rattle.nb_names.proofs.text_writing.push_each.Goals as goal

pub loop-byte-preserved : goal.loop-byte-preserved
loop-byte-preserved c =
    let bytes = c.args.bytes.now in
    let place = c.loop-byte.byte-index in
    let before = string_bytes c.loop-byte.text in (
      ap (λ (text : List ℕ). text ++ items_of (drop (place + 1) bytes)) c.in_ok-push_item.ensures.added ∙ append_assoc before _ _
          ∙ ap (λ (items : List ℕ). before ++ items) (sym (at_drop_more items_of bytes place 0 c.loop-byte-test.true))
          ∙ c.loop-byte.invariant.0,
      λ front f. c.in_ok-push_item.ensures.front front (c.loop-byte.invariant.1 front f),
    )
