use Rattle.std.proofs.Common.{ap, arith, length, refl}
use Rattle.nb_capture.proofs.LineLemmas.Ending.{too_long_feed, too_long_open}
use Rattle.nb_capture.proofs.LineLemmas.Seeking.{hands_line}
use Rattle.nb_capture.proofs.line_reading.take_first.Goals as goal

pub returns-in-Some : goal.returns-in-Some
returns-in-Some c = hands_line c.rest.result.now c.args.room.now c.hand_out.new.self c.in-Some.at c.rest.ensures c.in-Some.ensures c.if-at-le-MAX_LINE.true c.hand_out.ensures

pub returns-in_default : goal.returns-in_default
returns-in_default c =
    (too_long_feed c.rest.result.now c.args.room.now.rest c.in-Some.at c.rest.ensures c.in-Some.ensures (omega (arith, c.if-at-le-MAX_LINE.false)), refl)

pub returns-in_default-2 : goal.returns-in_default-2
returns-in_default-2 c = (
  too_long_open c.rest.result.now c.args.room.now.rest c.rest.ensures c.in-None.ensures (omega (arith, c.if-size-le-MAX_LINE.false, ap length c.rest.ensures, ap length c.rest-size.ensures)),
  refl,
)
