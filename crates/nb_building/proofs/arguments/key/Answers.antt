use Rattle.nb_building.proofs.RefusalLemmas.{has_id, no_address, no_colon, no_port, no_slash, none_or_no_room, refused_passed_on}
use Rattle.nb_building.proofs.arguments.key.Goals as goal

pub returns-in_err-sender : goal.returns-in_err-sender
returns-in_err-sender c =
    none_or_no_room _ _ _ c.from_residual.result c.from_residual.ensures.1 c.in_err-sender.ensures.0 (no_slash _ c.in_err-sender.ensures.1)

pub returns-in_err-ip : goal.returns-in_err-ip
returns-in_err-ip c =
    none_or_no_room _ _ _ c.from_residual-in_err-ip.result c.from_residual-in_err-ip.ensures.1 c.in_err-ip.ensures.0
    (no_colon _ _ _ c.in_ok-sender.ensures c.in_err-ip.ensures.1)

pub returns-in_err-address : goal.returns-in_err-address
returns-in_err-address c =
    none_or_no_room _ _ _ c.from_residual-in_err-address.result c.from_residual-in_err-address.ensures.1 c.in_err-address.ensures.0
    (no_address _ _ _ _ _ c.in_ok-sender.ensures c.in_ok-ip.ensures c.in_err-address.ensures.1)

pub returns-in_err-number : goal.returns-in_err-number
returns-in_err-number c =
    none_or_no_room _ _ _ c.from_residual-in_err-number.result c.from_residual-in_err-number.ensures.1 c.in_err-number.ensures.0
    (no_port _ _ _ _ _ c.in_ok-sender.ensures c.in_ok-ip.ensures c.in_err-number.ensures.1)

pub returns-in_err-word : goal.returns-in_err-word
returns-in_err-word c =
    refused_passed_on _ _ _ _ c.from_residual-in_err-word.result c.from_residual-in_err-word.ensures.1 c.in_err-word.ensures
    (has_id _ _ _ c.in_ok-sender.ensures)
