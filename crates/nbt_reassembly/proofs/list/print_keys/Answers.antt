use Rattle.nbt_reassembly.proofs.Common.{Bool, ◌∙◌, ap, sym, listed_as, prints_as, prints_text}
use Rattle.nbt_reassembly.proofs.list.print_keys.Goals as goal

pub returns-then-json-clause-printed : goal.returns-then-json-clause-printed
returns-then-json-clause-printed g c =
    let is = c.as_slice.ensures.value ∙ c.in_ok-objects.ensures ∙ sym (ap (λ (b : Bool). listed_as b c.args.table.now.contents) c.if-json.true) in
    prints_as _ _ _ _ c.print.result is (prints_text _ _ _ c.print.result c.print.ensures.printed c.print.ensures.fault c.print.ensures.err)

pub returns-clause-printed : goal.returns-clause-printed
returns-clause-printed g c =
    let is = c.as_bytes.ensures.value ∙ c.in_ok-lines.ensures.listed ∙ sym (ap (λ (b : Bool). listed_as b c.args.table.now.contents) c.if-json.false) in
    prints_as _ _ _ _ c.print-2.result is (prints_text _ _ _ c.print-2.result c.print-2.ensures.printed c.print-2.ensures.fault c.print-2.ensures.err)
