use Rattle.nbt_usage.proofs.Common.{codes, string_bytes, sym, ◌∙◌}
use Rattle.std.specs.Cmp.Lexicographic.{bytes_decides}
use Rattle.nbt_usage.proofs.HelpWords.{asks_help}
use Rattle.nbt_usage.proofs.hints.print_unhelped.Goals as goal

pub returns-in-len2-up-clause-other : goal.returns-in-len2-up-clause-other
returns-in-len2-up-clause-other g c other =
    absurd (other (asks_help string_bytes c.args.words.now c.help-item.result c.in-len2-up.len_at_least c.help-item.is
    (sym c.as_str.ensures.value ∙ (bytes_decides c.as_str.result.now (codes "help")).0 (sym c.eq.ensures ∙ c.if-eq.true))))
