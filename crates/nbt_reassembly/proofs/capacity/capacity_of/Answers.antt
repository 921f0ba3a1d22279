use Rattle.nbt_reassembly.proofs.Common.{sym, subst, codes, ExplainsUnsignedError, HasUnsignedDigitsIfOk, ParsesUnsigned, IsSourceLimit}
use Rattle.nbt_command.specs.Shared.OptionLemmas.{number_given, number_or}
use Rattle.nbt_reassembly.proofs.capacity.capacity_of.Goals as goal

pub returns-clause-given : goal.returns-clause-given
returns-clause-given c =
    let matches = c.args.matches.now in
    record {
      keys = number_given 32 matches (codes "keys") c.in-Some.keys c.in-Some.ensures.none (λ text is. (c.in-Some.ensures.value text is).0);
      per_source = subst (IsSourceLimit matches) (sym c.unwrap_or-per_source.ensures)
          (number_or 32 4294967295 (codes "per-source") (λ text r. ParsesUnsigned 32 10 text r × ExplainsUnsignedError 10 text r × HasUnsignedDigitsIfOk text r) (λ text r read. read.0)
          matches c.get_one-2.result c.get_one-2.ensures.none c.get_one-2.ensures.value);
    }
