use Rattle.std.proofs.Common.{ℕ, ◌<◌, List, ◌++◌, length, string_bytes, ap, subst, ◌∙◌}
use Rattle.std.proofs.lemmas.Result.{on_ok_weaker}
use Rattle.nb_service.specs.ServiceFaults.{cut_header}
use Rattle.nb_text.specs.Said.{follow_said, said_after}
use Rattle.nb_text.specs.Made.{names, no_names}
use Rattle.nb_text.specs.ServiceSaid.{service_refused_said, service_said}
use Rattle.nb_text.proofs.SaidLemmas.{adds, none_said, says_both}
use Rattle.nb_text.proofs.brief.services.push_judged.Goals as goal

pub push_packet-requires : goal.push_packet-requires
push_packet-requires c =
    let end = rw c.in-None.is at c.walk-walked.ensures.end in
    (c.walk-walked.ensures.part, c.walk-walked.result.next, end.0, end.1)

pub returns-in-Err : goal.returns-in-Err
returns-in-Err c =
    let low = subst (λ (b : List ℕ). length b < 12) c.packet.ensures c.in-Err.ensures.fault.1 in (
      on_ok_weaker c.push_fault.result
          (λ added. adds c.args.names.now 137 (service_refused_said c.in-Err.fault) _ _
          (no_names c.in-Err.fault (rw (c.in-Err.ensures.fault.0, c.packet.ensures) (cut_header low))) added)
          c.push_fault.ensures.0,
      c.push_fault.ensures.1,
    )

pub returns-in_ok-push_packet-in-None : goal.returns-in_ok-push_packet-in-None
returns-in_ok-push_packet-in-None c =
    let seen = c.walk-walked.ensures in
    let end = rw c.in-None.is at seen.end in
    let said = service_said seen.part in
    let follow = follow_said c.walk-walked.result.next (length c.args.names.now) in (
      on_ok_weaker c.push_follow.result
          (λ added. adds c.args.names.now 137 (said ++ follow) _ _ (names seen.part c.walk-walked.result.next end.0)
          (says_both (string_bytes c.args.text.now) said follow (c.in_ok-push_packet-in-None.ensures seen.part c.walk-walked.result.next end.0 end.1).0
          (added ∙ ap (λ (b : List ℕ). said_after (string_bytes c.push_packet.new.text) (follow_said c.walk-walked.result.next (length b))) c.packet-in-None.ensures)))
          c.push_follow.ensures.0,
      λ front is. c.push_follow.ensures.1 front ((c.in_ok-push_packet-in-None.ensures seen.part c.walk-walked.result.next end.0 end.1).1 front is),
    )

pub returns-in-Some : goal.returns-in-Some
returns-in-Some c =
    let fails = rw c.in-Some.is at c.walk-walked.ensures.end in (
      on_ok_weaker c.push_fault-in-Some.result
          (λ added. adds c.args.names.now 137 (service_refused_said c.in-Some.fault) _ _ (no_names c.in-Some.fault fails) added)
          c.push_fault-in-Some.ensures.0,
      c.push_fault-in-Some.ensures.1,
    )

pub returns-in_err-push_packet-in-None : goal.returns-in_err-push_packet-in-None
returns-in_err-push_packet-in-None c =
    let end = rw c.in-None.is at c.walk-walked.ensures.end in
    let part = c.walk-walked.ensures.part in
    (none_said _ _ c.from_residual.result c.from_residual.ensures.1, (c.push_packet.ensures part c.walk-walked.result.next end.0 end.1).1)
