use Rattle.nb_entries.proofs.Common.{◌∙◌, sym, on_err_weaker, core_of, facts_of, facts_fit_of}
use Rattle.nb_entries.proofs.Changes.{join_differs}
use Rattle.nb_entries.proofs.entry.Slot+EntryFacts.insert.Goals as goal

pub insert-requires-clause-fits : goal.insert-requires-clause-fits
insert-requires-clause-fits c = facts_fit_of c.in-Held.facts (facts_of (core_of c.args.fragment.now)) (sym c.agrees_with.ensures ∙ c.if-not-agrees_with.false)

pub returns-clause-more : goal.returns-clause-more
returns-clause-more c =
    let b = facts_of (core_of c.args.fragment.now) in
    let fit = facts_fit_of c.in-Held.facts b (sym c.agrees_with.ensures ∙ c.if-not-agrees_with.false) in
    on_err_weaker c.insert.result (λ more. join_differs c.args.self.now c.in-Held.facts b (sym c.in-Held.is) fit more) c.insert.ensures.more
