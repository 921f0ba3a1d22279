use Rattle.nb_building.proofs.service.build.Goals as goal

pub returns-in-release-clause-built : goal.returns-in-release-clause-built
returns-in-release-clause-built c = rw c.in-release.is c.withdrawal.ensures.built

pub returns-in-response-clause-built : goal.returns-in-response-clause-built
returns-in-response-clause-built c = rw c.in-response.is c.build.ensures.built

pub returns-in-release-clause-refused : goal.returns-in-release-clause-refused
returns-in-release-clause-refused c = rw c.in-release.is c.withdrawal.ensures.refused

pub returns-in-response-clause-refused : goal.returns-in-response-clause-refused
returns-in-response-clause-refused c = rw c.in-response.is c.build.ensures.refused
