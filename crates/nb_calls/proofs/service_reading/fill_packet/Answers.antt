use Rattle.nb_calls.proofs.Common.{◌≡◌, ◌∙◌, ℕ, List, Ok, Err, refl, ap, sym, subst, read_is, read_is_ok, PacketHeader, HasHeader, header_value, header_numbers}
use Rattle.nb_calls.proofs.ServiceLemmas.{outline_header}
use Rattle.nb_calls.proofs.service_reading.fill_packet.Goals as goal

pub unwrap-requires : goal.unwrap-requires
unwrap-requires c =
    let stands = subst (λ (p : List ℕ). HasHeader p (header_value c.in-Ok.field-0-0)) (sym c.packet.ensures) (outline_header _ _ _ c.in-Ok.ensures.found) in
    read_is_ok c.read_header.result _ (c.read_header.ensures.only _ stands)

pub returns-in-Ok : goal.returns-in-Ok
returns-in-Ok c =
    let stands = subst (λ (p : List ℕ). HasHeader p (header_value c.in-Ok.field-0-0)) (sym c.packet.ensures) (outline_header _ _ _ c.in-Ok.ensures.found) in
    let same : header_value c.unwrap.result ≡ header_value c.in-Ok.field-0-0 = read_is c.read_header.result _ _ c.unwrap.ensures (c.read_header.ensures.only _ stands) in
    (Ok _, (_, _, c.in-Ok.ensures.found, c.header_numbers.ensures ∙ ap (λ (h : PacketHeader). header_numbers h c.in-Ok.used) same), (refl, refl, refl))

pub returns-in-Err : goal.returns-in-Err
returns-in-Err c =
    (Err _, (_, c.in-Err.ensures.fault, c.service_refusal.ensures), (refl, c.refuse.ensures.at, c.refuse.ensures.status))
