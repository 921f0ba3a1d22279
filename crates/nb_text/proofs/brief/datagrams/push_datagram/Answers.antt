use Rattle.std.proofs.Common.{◌++◌, length, string_bytes}
use Rattle.std.proofs.lemmas.Result.{on_ok_weaker}
use Rattle.nb_text.specs.Said.{datagram_refused_said, datagram_said, follow_said}
use Rattle.nb_text.specs.Made.{datagram, no_datagram}
use Rattle.nb_text.proofs.SaidLemmas.{adds, says_both}
use Rattle.nb_text.proofs.brief.datagrams.push_datagram.Goals as goal

pub returns-in_ok-push_packet-in-Ok : goal.returns-in_ok-push_packet-in-Ok
returns-in_ok-push_packet-in-Ok c =
    let said = datagram_said c.in-Ok.packet in
    let follow = follow_said c.in-Ok.used (length c.args.payload.now) in (
      on_ok_weaker c.push_follow.result
          (λ added. adds c.args.payload.now 138 (said ++ follow) _ _ (datagram c.in-Ok.packet c.in-Ok.used c.in-Ok.ensures.found)
          (says_both (string_bytes c.args.text.now) said follow c.in_ok-push_packet-in-Ok.ensures.0 added))
          c.push_follow.ensures.0,
      λ front is. c.push_follow.ensures.1 front (c.in_ok-push_packet-in-Ok.ensures.1 front is),
    )

pub returns-in-Err : goal.returns-in-Err
returns-in-Err c = (
  on_ok_weaker c.push_fault.result (λ added. adds c.args.payload.now 138 (datagram_refused_said c.in-Err.fault) _ _ (no_datagram c.in-Err.fault c.in-Err.ensures.fault) added)
      c.push_fault.ensures.0,
  c.push_fault.ensures.1,
)
