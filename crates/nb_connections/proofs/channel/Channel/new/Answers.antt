use Rattle.std.proofs.Common.{refl, []}
use Rattle.nb_session.specs.Cutting.{no_packet}
use Rattle.nb_connections.specs.Reading.{started}
use Rattle.nb_connections.specs.Course.{Reads, begun}
use Rattle.nb_connections.proofs.channel.Channel.new.Goals as goal

pub returns-clause-grown : goal.returns-clause-grown
returns-clause-grown c = (
  refl,
  Reads (started c.args.first),
  begun,
  record {
    is_open = refl;
    first = c.new.ensures.first;
    orders = c.new.ensures.orders;
    held = c.new-2.ensures.items;
    front = [];
    there = no_packet;
    exact = refl;
  },
)
