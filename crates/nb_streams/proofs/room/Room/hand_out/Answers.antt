use Rattle.std.proofs.Common.{◌≤◌, length, take, drop, ap, arith}
use Rattle.nb_streams.specs.Room.{RoomValue}
use Rattle.nb_streams.proofs.RoomLemmas.{handed_out_is}
use Rattle.nb_streams.proofs.room.Room.hand_out.Goals as goal

pub returns : goal.returns
returns g c =
    let within : c.args.size ≤ length (drop c.self.inside.start (take c.self.inside.end c.self.inside.bytes.items)) =
    omega (arith, c.requires, ap (λ (v : RoomValue). length v.rest) c.self.view_is) in
    let is = handed_out_is c.self.inside.bytes.items c.self.inside.start c.self.inside.end c.args.size c.self.invariant.held c.self.invariant.kept within in
    rw (← c.self.view_is) (λ i. record { lent = is.0 i; rest = is.1 i; taken = c.self.inside.taken; most = c.self.inside.most })
