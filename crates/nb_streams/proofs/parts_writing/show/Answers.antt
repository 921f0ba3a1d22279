use Rattle.std.proofs.lemmas.Result.{on_ok_weaker}
use Rattle.nb_streams.proofs.PushingLemmas.{shown_behind}
use Rattle.nb_streams.proofs.parts_writing.show.Goals as goal

pub returns : goal.returns
returns g c = on_ok_weaker c.write.result (shown_behind _ c.args.room.now c.write.new.self) c.write.ensures.writes
