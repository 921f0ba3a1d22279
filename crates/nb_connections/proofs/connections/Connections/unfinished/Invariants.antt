use Rattle.std.proofs.Common.{◌≡◌}
use Rattle.std.specs.BTreeMap.{values}
use Rattle.nb_connections.specs.Directions.{unfinished_in}
use Rattle.nb_connections.proofs.connections.Connections.unfinished.Given as goal

abbrev pub invariant-channels : goal.invariant-channels
invariant-channels l = unfinished_in l.count l.channel-iterator ≡ unfinished_in l.self.lost (values l.self.channels)
