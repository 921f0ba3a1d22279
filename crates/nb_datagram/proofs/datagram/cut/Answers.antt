use Rattle.nb_datagram.proofs.Common.{◌≤◌, length, ap, refl, sym, arith, NetbiosName, name_bytes}
use Rattle.std.proofs.lemmas.Result.{err_from_is_err_and}
use Rattle.nb_datagram.proofs.PiecesLemmas.{pieces_too_long, pieces_not_too_long, pieces_more}
use Rattle.nb_datagram.proofs.datagram.cut.Goals as goal

pub returns-then-names-min-gt-MAX_LENGTH-clause-too_long : goal.returns-then-names-min-gt-MAX_LENGTH-clause-too_long
returns-then-names-min-gt-MAX_LENGTH-clause-too_long c =
    let from = ap (λ (n : NetbiosName). length (name_bytes n)) c.source.ensures in
    let to = ap (λ (n : NetbiosName). length (name_bytes n)) c.destination.ensures in
    let size = ap length c.bytes-size.ensures.value in
    let some : 1 ≤ c.args.most = omega arith in (
      λ _. (
        some,
        pieces_too_long c.args.datagram.now c.args.most some
            (omega (arith, from, to, size, c.spelled_len.ensures.value, c.spelled_len-2.ensures.value, c.min.ensures, c.if-names-min-gt-MAX_LENGTH.true)),
      ),
      λ _. refl,
    )

pub returns-in_err-push-clause-too_long : goal.returns-in_err-push-clause-too_long
returns-in_err-push-clause-too_long c =
    let p = err_from_is_err_and c.from_residual.result c.from_residual.ensures.1 in
    let from = ap (λ (n : NetbiosName). length (name_bytes n)) c.source.ensures in
    let to = ap (λ (n : NetbiosName). length (name_bytes n)) c.destination.ensures in
    let size = ap length c.bytes-size.ensures.value in
    rw (p.1, p.2) (
      λ h. absurd (cc h),
      λ h. absurd (pieces_not_too_long c.args.datagram.now c.args.most
          (omega (arith, from, to, size, c.spelled_len.ensures.value, c.spelled_len-2.ensures.value, c.min.ensures, c.if-names-min-gt-MAX_LENGTH.false)) h.1),
    )

pub loop-place-preserved : goal.loop-place-preserved
loop-place-preserved c =
    rw (c.in_ok-push.ensures.items, c.loop-place.invariant, c.piece.ensures)
    (sym (pieces_more c.args.datagram.now c.args.most c.loop-place.place))

pub returns-clause-too_long : goal.returns-clause-too_long
returns-clause-too_long c =
    let from = ap (λ (n : NetbiosName). length (name_bytes n)) c.source.ensures in
    let to = ap (λ (n : NetbiosName). length (name_bytes n)) c.destination.ensures in
    let size = ap length c.bytes-size.ensures.value in (
      λ h. absurd (cc h),
      λ h. absurd (pieces_not_too_long c.args.datagram.now c.args.most
          (omega (arith, from, to, size, c.spelled_len.ensures.value, c.spelled_len-2.ensures.value, c.min.ensures, c.if-names-min-gt-MAX_LENGTH.false)) h.1),
    )
