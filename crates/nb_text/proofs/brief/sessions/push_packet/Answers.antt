use Rattle.std.proofs.Common.{ℕ, List, ◌++◌, sym, ap, ◌∙◌, codes, string_bytes}
use Rattle.std.specs.Fmt.{decimal}
use Rattle.std.proofs.lemmas.Result.{on_ok_weaker}
use Rattle.nb_streams.specs.Addresses.{address_text}
use Rattle.nb_session.specs.Packet.{Packet}
use Rattle.nb_text.specs.Said.{said_after, session_said}
use Rattle.nb_text.proofs.brief.sessions.push_packet.Goals as goal

pub returns-in_ok-push_text-in-Retarget-2 : goal.returns-in_ok-push_text-in-Retarget-2
returns-in_ok-push_text-in-Retarget-2 c =
    let old = string_bytes c.args.text.now in (
      on_ok_weaker c.push_decimal.result
          (λ added. added
          ∙ ap (λ (t : List ℕ). t ++ decimal c.from-number.result) (c.in_ok-push_text-in-Retarget-2.ensures.0
          ∙ ap (λ (t : List ℕ). t ++ codes ", port ") (c.in_ok-push_address-in-Retarget.ensures.added
          ∙ ap (λ (t : List ℕ). t ++ address_text c.in-Retarget.address) c.in_ok-push_text-in-Retarget.ensures.0))
          ∙ ap (λ (n : ℕ). (((old ++ codes "sends the caller to ") ++ address_text c.in-Retarget.address) ++ codes ", port ") ++ decimal n) c.from-number.ensures
          ∙ ap (λ (p : Packet). said_after old (session_said p)) (sym c.in-Retarget.is))
          c.push_decimal.ensures.added,
      λ front is. c.push_decimal.ensures.front front (c.in_ok-push_text-in-Retarget-2.ensures.1 front
          (c.in_ok-push_address-in-Retarget.ensures.front front (c.in_ok-push_text-in-Retarget.ensures.1 front is))),
    )
