use Rattle.nb_entries.proofs.Common.{◌∙◌}
use Rattle.nb_entries.proofs.Covers.{or_is}
use Rattle.nb_entries.proofs.cover.marks.Marks.together.Goals as goal

pub returns : goal.returns
returns c =
    let end = c.or.ensures ∙ or_is c.args.self.end c.args.other.end in
    let promise = c.greater.ensures in
    λ i. record { end = end i; promise = promise i }
