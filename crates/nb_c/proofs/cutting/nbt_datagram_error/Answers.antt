use Rattle.nb_calls.proofs.Common.{◌≡◌, ℕ, List, IfOk, subst, Key, error_packet}
use Rattle.nb_calls.proofs.AnswerLemmas.{writes_made}
use Rattle.nb_c.proofs.cutting.nbt_datagram_error.Goals as goal

pub returns : goal.returns
returns c =
    writes_made _ _ _ _ _
    (subst (λ (k : Key). IfOk c.error_packet.result (λ (bytes : List ℕ). bytes ≡ error_packet k c.args.code)) c.key_from-key.ensures c.error_packet.ensures)
    c.write_bytes.ensures
