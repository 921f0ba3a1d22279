use Rattle.std.proofs.Common.{length, arith, ap, length-append}
use Rattle.nb_names.specs.DomainName.{spelling}
use Rattle.nb_names.specs.FirstLevel.{letters}
use Rattle.nb_names.proofs.FirstLevelLemmas.{length-letters}
use Rattle.nb_names.proofs.lent_name.NameForm.spelled_len.Goals as goal

pub returns-clause-value : goal.returns-clause-value
returns-clause-value g c =
    let n = g.Self.NameForm.name c.args.self.now in
    let size = ap length c.scope_spelling.ensures.value in
    omega (arith, size, length-append (letters n.bytes) (spelling n.scope), length-letters n.bytes, c.scope_spelling.ensures.formed.0.sixteen)
