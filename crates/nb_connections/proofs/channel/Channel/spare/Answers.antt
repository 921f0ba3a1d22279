use Rattle.std.proofs.Common.{◌∙◌}
use Rattle.nb_connections.proofs.channel.Channel.spare.Goals as goal

pub returns-then-room-clause-reads : goal.returns-then-room-clause-reads
returns-then-room-clause-reads c = λ reading keeps. record {
  is_open = keeps.is_open;
  first = c.forget.ensures.first ∙ keeps.first;
  orders = c.forget.ensures.orders _ _ _ keeps.orders;
  held = keeps.held;
  front = keeps.front;
  there = keeps.there;
  exact = keeps.exact;
}
