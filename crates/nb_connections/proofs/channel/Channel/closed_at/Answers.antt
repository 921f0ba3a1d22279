use Rattle.std.proofs.Common.{refl, ap, ◌∙◌, rules, [], Some}
use Rattle.nb_session.specs.Cutting.{no_packet}
use Rattle.nb_connections.proofs.ChannelLemmas.{restarts}
use Rattle.nb_connections.proofs.channel.Channel.closed_at.Goals as goal

pub returns-clause-reads : goal.returns-clause-reads
returns-clause-reads c = restarts c.args.self.now _ c.args.number (c.in-Some.is ∙ ap Some (c.ends_at.ensures.ends (search rules))) (record {
  is_open = refl;
  first = c.new.ensures.first;
  orders = c.new.ensures.orders;
  held = c.new-2.ensures.items;
  front = [];
  there = no_packet;
  exact = refl;
})
