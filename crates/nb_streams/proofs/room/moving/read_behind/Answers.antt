use Rattle.std.proofs.Common.{◌∙◌, ◌-◌, ℕ, List, subst}
use Rattle.nb_streams.specs.Code.RoomSteps.{ReadsBehind}
use Rattle.nb_streams.proofs.room.moving.read_behind.Goals as goal

pub returns-in-Ok-clause-reads : goal.returns-in-Ok-clause-reads
returns-in-Ok-clause-reads g c =
    subst (λ (bytes : List ℕ). ReadsBehind (g.R.Read.remaining c.args.reader.now.inner) (g.R.Read.remaining c.read_within.new.reader.inner)
    c.args.reader.now.counts c.read_within.new.reader.counts bytes c.read_within.new.bytes.items (c.args.end - c.args.start) c.args.left c.read_within.result)
    (c.make_room.ensures.front ∙ c.move_to_front.ensures.front) c.read_within.ensures.reads
