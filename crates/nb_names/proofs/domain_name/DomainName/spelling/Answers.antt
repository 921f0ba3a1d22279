use Rattle.std.proofs.Common.{◌≡◌, ◌∙◌}
use Rattle.nb_names.specs.DomainName.{spelling}
use Rattle.nb_names.proofs.SpellingLemmas.{AreByteLabels-spelled}
use Rattle.nb_names.proofs.domain_name.DomainName.spelling.Goals as goal

pub returns-clause-labels : goal.returns-clause-labels
returns-clause-labels c =
    let bytes : c.as_slice-bytes.result.now ≡ spelling c.args.self.now = rw (← c.self.view_is) (c.as_slice-bytes.ensures.value ∙ c.self.invariant.exact) in
    AreByteLabels-spelled c.args.self.now (rw (← bytes) c.each_is_a_byte.ensures)
