use Rattle.nb_names.proofs.SpellingLemmas.{split_is}
use Rattle.nb_names.proofs.domain_name.LentDomain.split_first.Goals as goal

pub returns-clause-split : goal.returns-clause-split
returns-clause-split c =
    rw (← c.self.view_is) (split_is _ (λ split. split.0.now) (λ split. split.1.now) c.split_label.result c.self.invariant.domain
    (c.split_label.ensures.split _ c.self.invariant.domain.each c.self.invariant.exact))
