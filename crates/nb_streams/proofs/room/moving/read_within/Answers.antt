use Rattle.std.proofs.Common.{[], inl, refl, arith}
use Rattle.nb_streams.specs.DeviceFacts.{Consumes-nil, Consumes-kept}
use Rattle.nb_streams.proofs.room.moving.read_within.Goals as goal

pub returns-in-Err-clause-reads : goal.returns-in-Err-clause-reads
returns-in-Err-clause-reads g c =
    let r = c.in-Err.ensures.reads in
    ([], Consumes-kept _ _ _ [] (Consumes-nil _) r.0, inl (r.2, refl), r.1, r.3, omega arith)
