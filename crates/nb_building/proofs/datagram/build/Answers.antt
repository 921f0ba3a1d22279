use Rattle.nb_building.proofs.datagram.build.Goals as goal

pub returns-in-unique-clause-built : goal.returns-in-unique-clause-built
returns-in-unique-clause-built c = rw c.in-unique.is c.fragments.ensures.built

pub returns-in-group-clause-built : goal.returns-in-group-clause-built
returns-in-group-clause-built c = rw c.in-group.is c.fragments-in-group.ensures.built

pub returns-in-broadcast-clause-built : goal.returns-in-broadcast-clause-built
returns-in-broadcast-clause-built c = rw c.in-broadcast.is c.fragments-in-broadcast.ensures.built

pub returns-in-error-clause-built : goal.returns-in-error-clause-built
returns-in-error-clause-built c = rw c.in-error.is c.error.ensures.built

pub returns-in-find-clause-built : goal.returns-in-find-clause-built
returns-in-find-clause-built c = rw c.in-find.is c.query.ensures.built

pub returns-in-found-clause-built : goal.returns-in-found-clause-built
returns-in-found-clause-built c = rw c.in-found.is c.query-in-found.ensures.built

pub returns-in-missing-clause-built : goal.returns-in-missing-clause-built
returns-in-missing-clause-built c = rw c.in-missing.is c.query-in-missing.ensures.built

pub returns-in-unique-clause-refused : goal.returns-in-unique-clause-refused
returns-in-unique-clause-refused c = rw c.in-unique.is c.fragments.ensures.refused

pub returns-in-group-clause-refused : goal.returns-in-group-clause-refused
returns-in-group-clause-refused c = rw c.in-group.is c.fragments-in-group.ensures.refused

pub returns-in-broadcast-clause-refused : goal.returns-in-broadcast-clause-refused
returns-in-broadcast-clause-refused c = rw c.in-broadcast.is c.fragments-in-broadcast.ensures.refused

pub returns-in-error-clause-refused : goal.returns-in-error-clause-refused
returns-in-error-clause-refused c = rw c.in-error.is c.error.ensures.refused

pub returns-in-find-clause-refused : goal.returns-in-find-clause-refused
returns-in-find-clause-refused c = rw c.in-find.is c.query.ensures.refused

pub returns-in-found-clause-refused : goal.returns-in-found-clause-refused
returns-in-found-clause-refused c = rw c.in-found.is c.query-in-found.ensures.refused

pub returns-in-missing-clause-refused : goal.returns-in-missing-clause-refused
returns-in-missing-clause-refused c = rw c.in-missing.is c.query-in-missing.ensures.refused
