use Rattle.std.proofs.Common.{sym, ◌∙◌}
use Rattle.nb_tcp.proofs.RunsLemmas.{none_to, last_to, past_there, known_there}
use Rattle.nb_tcp.proofs.runs.Runs.known_at.Goals as goal

pub returns-in_default-clause-none : goal.returns-in_default-clause-none
returns-in_default-clause-none c = λ _. rw (← c.self.view_is)
    (none_to 0 c.args.at c.self.inside.map.entries c.self.invariant.0 (sym (c.range.ensures.between tt) ∙ c.in_default.ensures.steps.0))

pub returns-then-bytes-offset-clause-none : goal.returns-then-bytes-offset-clause-none
returns-then-bytes-offset-clause-none c = λ _. rw (← c.self.view_is)
    (past_there 0 _ _ _ c.as_slice-bytes.result.now
    (last_to 0 c.args.at c.self.inside.map.entries c.self.invariant.0 _ (c.in-Some.start.now, c.in-Some.run'.now)
    (sym (c.range.ensures.between tt) ∙ c.in-Some.ensures.steps)) c.as_slice-bytes.ensures c.if-bytes-offset.true)

pub returns-clause-some : goal.returns-clause-some
returns-clause-some c = rw (← c.self.view_is)
    (known_there 0 _ _ _ c.as_slice-bytes.result.now
    (last_to 0 c.args.at c.self.inside.map.entries c.self.invariant.0 _ (c.in-Some.start.now, c.in-Some.run'.now)
    (sym (c.range.ensures.between tt) ∙ c.in-Some.ensures.steps)) c.as_slice-bytes.ensures c.if-bytes-offset.false)
