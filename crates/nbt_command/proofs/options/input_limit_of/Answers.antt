use Rattle.nbt_command.proofs.Common.{sym, subst, codes, ExplainsUnsignedError, HasUnsignedDigitsIfOk, ParsesUnsigned}
use Rattle.nbt_command.specs.Options.{IsInputLimit}
use Rattle.nbt_command.specs.Shared.OptionLemmas.{number_or}
use Rattle.nbt_command.proofs.options.input_limit_of.Goals as goal

pub returns : goal.returns
returns c =
    let matches = c.args.matches.now in
    subst (IsInputLimit matches) (sym c.unwrap_or.ensures)
    (number_or 64 16777216 (codes "input-limit") (λ text r. ParsesUnsigned 64 10 text r × ExplainsUnsignedError 10 text r × HasUnsignedDigitsIfOk text r) (λ text r read. read.0)
    matches c.get_one.result c.get_one.ensures.none c.get_one.ensures.value)
