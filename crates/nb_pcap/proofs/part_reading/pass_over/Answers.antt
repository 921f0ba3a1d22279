use Rattle.std.proofs.Common.{◌≡◌, ◌<◌, ◌-◌, ◌∙◌, sym, ap, arith, length, min}
use Rattle.std.proofs.lemmas.Result.{err_from_is_err_and}
use Rattle.nb_pcap.specs.Steps.{cut}
use Rattle.nb_pcap.proofs.PassLemmas.{is_passed, passing_none, passing_on, passing_few, passing_fails, block_bad, block_passed, end_read}
use Rattle.nb_pcap.proofs.StepLemmas.{stops_longer, stops_unread}
use Rattle.nb_pcap.proofs.part_reading.pass_over.Goals as goal

pub pass-init : goal.pass-init
pass-init g c =
    let p = is_passed c.args.context.now c.args.room.now.rest c.args.size c.requires.says c.requires.passed in
    passing_none c.args.room.now _ _ c.args.size p.least_is c.requires.short

pub read_once-requires : goal.read_once-requires
read_once-requires g c =
    let short : length c.pass.room.rest < c.pass.left = omega (arith, c.pass-test.true, ap length c.rest.ensures) in
    let k_is : c.min-passed.result ≡ min (length c.pass.room.rest) (c.pass.left - 4) = omega (arith, c.min-passed.ensures, ap length c.rest-in-pass.ensures) in
    omega (arith, passing_few c.pass.room c.hand_out.new.self c.pass.left c.min-passed.result short c.pass.invariant.end k_is c.hand_out.ensures)

pub returns-in_err-read_once : goal.returns-in_err-read_once
returns-in_err-read_once g c =
    let p = is_passed c.args.context.now c.args.room.now.rest c.args.size c.requires.says c.requires.passed in
    let e = err_from_is_err_and c.from_residual.result c.from_residual.ensures.1 in
    let r = c.in_err-read_once.ensures in
    let short : length c.pass.room.rest < c.pass.left = omega (arith, c.pass-test.true, ap length c.rest.ensures) in
    let k_is : c.min-passed.result ≡ min (length c.pass.room.rest) (c.pass.left - 4) = omega (arith, c.min-passed.ensures, ap length c.rest-in-pass.ensures) in
    let on = passing_on _ _ _ _ _ _ _ _ _ _ _ _ _ _ c.pass.invariant short k_is c.hand_out.ensures r (omega (arith, ap length r.once.0)) in
    rw (e.1, e.2) (passing_fails _ _ _ _ _ _ _ _ _ _ p on.0 (omega (arith, on.1, short, k_is, c.pass.invariant.end, ap length r.once.0))
    (λ bytes u not_end. stops_longer _ _ _ _ _ _ _ _ c.pass.invariant.took.grow (stops_unread _ _ _ _ _ _ _ u r.once.1)))

pub returns-then-branch-eq0 : goal.returns-then-branch-eq0
returns-then-branch-eq0 g c =
    let p = is_passed c.args.context.now c.args.room.now.rest c.args.size c.requires.says c.requires.passed in
    let r = c.in_ok-read_once.ensures in
    let short : length c.pass.room.rest < c.pass.left = omega (arith, c.pass-test.true, ap length c.rest.ensures) in
    let k_is : c.min-passed.result ≡ min (length c.pass.room.rest) (c.pass.left - 4) = omega (arith, c.min-passed.ensures, ap length c.rest-in-pass.ensures) in
    let on = passing_on _ _ _ _ _ _ _ _ _ _ _ _ _ _ c.pass.invariant short k_is c.hand_out.ensures r (omega (arith, r.once.0, r.once.2)) in
    passing_fails _ _ _ _ _ _ _ _ _ _ p on.0 (omega (arith, on.1, short, k_is, c.pass.invariant.end, r.once.0, c.if-branch-eq0.true))
    (λ bytes u not_end. cut u (r.once.1 c.if-branch-eq0.true) not_end)

pub pass-smaller : goal.pass-smaller
pass-smaller g c =
    let r = c.in_ok-read_once.ensures in
    let short : length c.pass.room.rest < c.pass.left = omega (arith, c.pass-test.true, ap length c.rest.ensures) in
    let k_is : c.min-passed.result ≡ min (length c.pass.room.rest) (c.pass.left - 4) = omega (arith, c.min-passed.ensures, ap length c.rest-in-pass.ensures) in
    let on = passing_on _ _ _ _ _ _ _ _ _ _ _ _ _ _ c.pass.invariant short k_is c.hand_out.ensures r (omega (arith, r.once.0, r.once.2)) in
    omega (arith, on.1, short, k_is, c.pass.invariant.end, r.once.0, c.if-branch-eq0.false)

pub pass-preserved : goal.pass-preserved
pass-preserved g c =
    let r = c.in_ok-read_once.ensures in
    let short : length c.pass.room.rest < c.pass.left = omega (arith, c.pass-test.true, ap length c.rest.ensures) in
    let k_is : c.min-passed.result ≡ min (length c.pass.room.rest) (c.pass.left - 4) = omega (arith, c.min-passed.ensures, ap length c.rest-in-pass.ensures) in
    (passing_on _ _ _ _ _ _ _ _ _ _ _ _ _ _ c.pass.invariant short k_is c.hand_out.ensures r (omega (arith, r.once.0, r.once.2))).0

pub number_32-requires : goal.number_32-requires
number_32-requires g c = omega (arith, c.pass-test.false, ap length c.rest.ensures, ap length c.rest-2.ensures, c.pass.invariant.end)

pub returns-then-number_32-size : goal.returns-then-number_32-size
returns-then-number_32-size g c =
    let p = is_passed c.args.context.now c.args.room.now.rest c.args.size c.requires.says c.requires.passed in
    block_bad _ _ _ _ _ _ _ _ _ p c.pass.invariant (omega (arith, c.pass-test.false, ap length c.rest.ensures))
    (λ h. c.if-number_32-size.true (end_read _ _ c.pass.room.rest _ _ _ _ p _ c.order_in.ensures c.rest-2.ensures c.number_32.ensures ∙ h))

pub returns : goal.returns
returns g c =
    let p = is_passed c.args.context.now c.args.room.now.rest c.args.size c.requires.says c.requires.passed in
    block_passed _ _ _ _ _ _ _ _ _ _ p c.pass.invariant (omega (arith, c.pass-test.false, ap length c.rest.ensures))
    (sym (end_read _ _ c.pass.room.rest _ _ _ _ p _ c.order_in.ensures c.rest-2.ensures c.number_32.ensures) ∙ c.if-number_32-size.false) c.hand_out-2.ensures
