use Rattle.std.proofs.Common.{ap, ◌∙◌}
use Rattle.nb_connections.specs.Directions.{kept_in}
use Rattle.nb_connections.proofs.DirectionsLemmas.{kept_inserted}
use Rattle.nb_connections.proofs.connections.Connections.admit.Goals as goal

pub returns-in-Ok-clause-sum : goal.returns-in-Ok-clause-sum
returns-in-Ok-clause-sum c = λ none. ap kept_in c.in-Ok.ensures.entries ∙ kept_inserted c.args.self.now.channels.entries c.args.ends c.args.channel none
