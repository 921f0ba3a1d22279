use Rattle.std.proofs.Common.{take, sym, arith, rules}
use Rattle.std.proofs.lemmas.List.{length-take-le}
use Rattle.nb_streams.proofs.RoomLemmas.{take-written, front_written}
use Rattle.nb_streams.proofs.room.moving.read_into.Goals as goal

pub returns-in-Ok : goal.returns-in-Ok
returns-in-Ok g c = (
  take c.in-Ok.count c.read_some.new.buffer,
  sym (length-take-le c.in-Ok.count c.read_some.new.buffer c.in-Ok.ensures.some),
  search rules,
  c.in-Ok.ensures.read,
  c.in-Ok.ensures.end,
  take-written c.args.held _ c.in-Ok.count c.args.buffer.now c.read_some.new.buffer (omega arith) c.in-Ok.ensures.some,
  front_written c.args.held _ c.args.buffer.now c.read_some.new.buffer (omega arith),
  c.in-Ok.ensures.grow,
)
