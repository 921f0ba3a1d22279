use Rattle.nb_calls.proofs.Common.{◌≡◌, ℕ, Ok, Err, length, ap, arith, refl, subst, Refused, NameAt, labels_of_name}
use Rattle.nb_calls.specs.Names.{whole, no_name, bytes_trail}
use Rattle.nb_calls.proofs.AnswerLemmas.{made}
use Rattle.nb_calls.proofs.names.text_of.Goals as goal

pub returns-then-next-spelling : goal.returns-then-next-spelling
returns-then-next-spelling c = (Err _, bytes_trail _ _ (c.in-Ok.ensures.name.0, c.in-Ok.ensures.found) c.if-next-spelling.true, refl)

pub returns-else-next-spelling : goal.returns-else-next-spelling
returns-else-next-spelling c =
    let last : c.in-Ok.next ≡ length c.args.spelling.now = omega (arith, c.in-Ok.ensures.within, c.if-next-spelling.false) in
    let there = subst (λ (n : ℕ). NameAt c.args.spelling.now Refused 0 (labels_of_name c.in-Ok.name) n) last c.in-Ok.ensures.found in
    rw c.answer_of.ensures (Ok c.in-Ok.name, whole _ (c.in-Ok.ensures.name.0, there), made _ _ c.text_bytes.ensures)

pub returns-in-Err : goal.returns-in-Err
returns-in-Err c = (Err _, no_name _ c.in-Err.ensures.fault, ap Err c.name_refusal.ensures)
