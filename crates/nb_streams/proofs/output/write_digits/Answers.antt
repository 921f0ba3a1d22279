use Rattle.std.proofs.lemmas.Result.{err_from_is_err_and, on_err_weaker}
use Rattle.nb_streams.proofs.DeviceLemmas.{wrote_front, wrote_part, wrote_last_front}
use Rattle.nb_streams.proofs.output.write_digits.Goals as goal

pub returns-in_err-write_part-clause-err : goal.returns-in_err-write_part-clause-err
returns-in_err-write_part-clause-err g c =
    let p = err_from_is_err_and c.from_residual.result c.from_residual.ensures.1 in
    rw p.1 (wrote_front _ _ _ _ _ _ _ _ _ 256 c.parts.invariant c.split_at.ensures.front c.split_at.ensures.back c.in_err-write_part.ensures.err)

pub parts-preserved : goal.parts-preserved
parts-preserved g c =
    wrote_part _ _ _ _ _ _ _ _ _ _ 256 c.parts.invariant c.split_at.ensures.front c.split_at.ensures.back
    c.in_ok-write_part.ensures.written c.in_ok-write_part.ensures.grow

pub returns-clause-err : goal.returns-clause-err
returns-clause-err g c =
    on_err_weaker c.write_part-2.result (wrote_last_front _ _ _ _ _ _ _ c.parts.invariant) c.write_part-2.ensures.err
