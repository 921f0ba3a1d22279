use Rattle.std.proofs.Common.{[]}
use Rattle.nb_traffic.specs.Follows.{nothing}
use Rattle.nb_traffic.proofs.traffic.Traffic.new.Goals as goal

pub returns : goal.returns
returns c = (record { clock = 0; live = []; segments = [] }, nothing, c.new.ensures.clock, c.new.ensures.live, c.new-2.ensures)
