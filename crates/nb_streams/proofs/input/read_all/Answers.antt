use Rattle.std.proofs.Common.{take, ◌++◌}
use Rattle.nb_streams.proofs.DeviceLemmas.{Consumes-more}
use Rattle.nb_streams.proofs.input.read_all.Goals as goal

pub returns-in-Err-extend_from_slice-clause-lost : goal.returns-in-Err-extend_from_slice-clause-lost
returns-in-Err-extend_from_slice-clause-lost g c = (
  c.loop-chunk.bytes.items ++ take c.in-Ok.count c.read_some.new.buffer,
  Consumes-more (g.R.Read.remaining c.args.reader.now.inner) (g.R.Read.remaining c.loop-chunk.reader.inner) (g.R.Read.remaining c.read_some.new.reader.inner)
      c.loop-chunk.bytes.items (take c.in-Ok.count c.read_some.new.buffer) c.loop-chunk.invariant.consumes c.in-Ok.ensures.read,
)
