use Rattle.nbt_usage.proofs.Common.{codes, string_bytes, sym, ◌∙◌}
use Rattle.std.specs.Cmp.Lexicographic.{bytes_decides}
use Rattle.nbt_usage.proofs.HelpWords.{behind}
use Rattle.nbt_usage.proofs.advice.words_behind_help.Goals as goal

pub returns-in-len3-up-clause-found : goal.returns-in-len3-up-clause-found
returns-in-len3-up-clause-found c =
    behind string_bytes c.args.words.now c.help-item.result c.in-len3-up.len_at_least c.help-item.is
    (sym c.as_str.ensures.value ∙ (bytes_decides c.as_str.result.now (codes "help")).0 (sym c.eq.ensures ∙ c.if-eq.true))
