use Rattle.std.proofs.Common.{ap, ◌∙◌}
use Rattle.std.proofs.lemmas.Result.{on_ok_weaker}
use Rattle.nb_streams.specs.Addresses.{address_text}
use Rattle.nb_telling.specs.Telling.{Text, Number}
use Rattle.nb_text.specs.Tags.{tag_named, to_port_tag}
use Rattle.nb_text.proofs.sessions.tell_parts.Goals as goal

pub returns-in_ok-shown-in-Retarget-clause-told : goal.returns-in_ok-shown-in-Retarget-clause-told
returns-in_ok-shown-in-Retarget-clause-told g c =
    let after = g.S.Sink.after in
    rw c.in-Retarget.is
    (on_ok_weaker c.tell_number.result
    (λ told. told ∙ ap (λ s. after s (Number to_port_tag c.in-Retarget.port))
    (c.in_ok-shown-in-Retarget.ensures.told ∙ ap (λ s. after s (Text (tag_named "address") (address_text c.in-Retarget.address)))
    c.in_ok-tell_kind-in-Retarget.ensures.told))
    c.tell_number.ensures.told)
