use Rattle.std.proofs.Common.{◌≡◌, ◌+◌, ◌-◌, refl, arith}
use Rattle.std.proofs.lemmas.List.{drop-set}
use Rattle.nb_streams.proofs.PushingLemmas.{number_is_short}
use Rattle.nb_streams.proofs.parts_writing.put_dotted.Goals as goal

pub write_digits-start-requires : goal.write_digits-start-requires
write_digits-start-requires c = (omega (arith, number_is_short c.from.result (rw c.from.ensures c.ranges.number.fits), c.requires.wide), c.requires.within)

pub overflow_sub-start : goal.overflow_sub-start
overflow_sub-start c = omega (arith, number_is_short c.from.result (rw c.from.ensures c.ranges.number.fits), c.requires.wide, c.write_digits-start.ensures.start)

pub returns-clause-put : goal.returns-clause-put
returns-clause-put c =
    let w = c.write_digits-start in
    let e : w.result - 1 + 1 ≡ w.result = omega (arith, number_is_short c.from.result (rw c.from.ensures c.ranges.number.fits), c.requires.wide, w.ensures.start) in
    rw (drop-set w.new.buf (w.result - 1) 46 (omega arith), e, w.ensures.written, c.from.ensures) refl

pub returns-clause-start : goal.returns-clause-start
returns-clause-start c = omega (arith, number_is_short c.from.result (rw c.from.ensures c.ranges.number.fits), c.requires.wide, c.write_digits-start.ensures.start)
