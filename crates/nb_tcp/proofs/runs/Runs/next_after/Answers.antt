use Rattle.std.proofs.Common.{sym, ap, ◌∙◌}
use Rattle.nb_tcp.specs.Runs.{is_any}
use Rattle.nb_tcp.proofs.RunsLemmas.{no_next, next_found}
use Rattle.nb_tcp.proofs.runs.Runs.next_after.Goals as goal

pub returns-in_default-clause-none : goal.returns-in_default-clause-none
returns-in_default-clause-none c = rw (← c.self.view_is)
    (λ _ none i lo. no_next c.args.at c.self.inside.map.entries (sym (c.range.ensures.between tt) ∙ c.in_default.ensures.steps.0) none i lo)

pub returns-clause-some : goal.returns-clause-some
returns-clause-some c = rw (← c.self.view_is)
    (next_found 0 c.args.at c.self.inside.map.entries c.self.invariant.0 (c.in-Some.start.now, c.in-Some._run.now) _
    (sym (c.range.ensures.between tt) ∙ c.in-Some.ensures.steps))

pub returns-in_default-clause-later : goal.returns-in_default-clause-later
returns-in_default-clause-later c = rw (← c.self.view_is) (sym (ap is_any (sym (c.range.ensures.between tt) ∙ c.in_default.ensures.steps.0)))

pub returns-clause-later : goal.returns-clause-later
returns-clause-later c = rw (← c.self.view_is) (sym (ap is_any (sym (c.range.ensures.between tt) ∙ c.in-Some.ensures.steps)))
