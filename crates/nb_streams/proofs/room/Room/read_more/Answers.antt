use Rattle.std.proofs.Common.{[]}
use Rattle.nb_streams.proofs.RoomLemmas.{no_more}
use Rattle.nb_streams.proofs.room.Room.read_more.Goals as goal

pub returns-in-Err : goal.returns-in-Err
returns-in-Err g c =
    no_more _ _ _ _ _ _ _ _ _ _ c.self.view_is c.in-Err.ensures.reads c.self.invariant.looked_at
    (λ same i. record { lent = []; rest = same i; taken = c.self.inside.taken; most = c.self.inside.most })
