use Rattle.nb_fragments.proofs.waiting.Waiting.join.Goals as goal

pub returns-clause-taken : goal.returns-clause-taken
returns-clause-taken c = c.taken_of.ensures c.args.self.now.cover c.in_ok-change.ensures.change
