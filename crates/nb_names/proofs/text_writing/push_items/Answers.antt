use Rattle.std.proofs.Common.{◌++◌, List, ℕ, string_bytes, ◌∙◌, ap, sym}
use Rattle.std.proofs.lemmas.Result.{on_ok_weaker}
use Rattle.nb_names.proofs.PushingLemmas.{plain_items, plain_ascii}
use Rattle.nb_names.proofs.text_writing.push_items.Goals as goal

pub push_ascii-requires : goal.push_ascii-requires
push_ascii-requires c = plain_ascii c.args.bytes.now (sym c.are_plain.ensures ∙ c.if-are_plain.true)

pub returns-then-are_plain-clause-added : goal.returns-then-are_plain-clause-added
returns-then-are_plain-clause-added c =
    let same = plain_items c.args.bytes.now (sym c.are_plain.ensures ∙ c.if-are_plain.true) in
    on_ok_weaker c.push_ascii.result (λ written. written ∙ ap (λ (items : List ℕ). string_bytes c.args.text.now ++ items) (sym same)) c.push_ascii.ensures.added
