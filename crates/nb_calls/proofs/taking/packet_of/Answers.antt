use Rattle.nb_calls.proofs.Common.{ℕ, ◌/◌, ◌%◌, List, ◌∷◌, [], ◌∙◌, sym, ap, append_assoc}
use Rattle.nb_calls.proofs.ObjectLemmas.{four}
use Rattle.nb_calls.proofs.taking.packet_of.Goals as goal

pub returns-clause-bytes : goal.returns-clause-bytes
returns-clause-bytes c =
    let e = c.args.error.now in
    rw c.to_be_bytes.ensures (rw c.to_be_bytes-2.ensures
    (ap (λ (l : List ℕ). 19 ∷ e.flags ∷ (e.key.id / 256 % 256) ∷ (e.key.id % 256) ∷ l)
    (four e.key.ip ((e.key.port / 256 % 256) ∷ (e.key.port % 256) ∷ e.code ∷ []) c.has_four.ensures
    ∙ sym (append_assoc e.key.ip ((e.key.port / 256 % 256) ∷ (e.key.port % 256) ∷ []) (e.code ∷ [])))))
