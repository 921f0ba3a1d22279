use Rattle.std.proofs.Common.{◌≡◌, ℕ, ◌+◌, List, [], ◌∷◌, ◌++◌, string_bytes, ap, ◌∙◌, arith}
use Rattle.std.proofs.lemmas.Fmt.{decimal_digit}
use Rattle.nb_streams.proofs.parts_writing.push_decimal.Goals as goal

pub returns-then-number-lt10-clause-added : goal.returns-then-number-lt10-clause-added
returns-then-number-lt10-clause-added c =
    let same : c.from.result ≡ 48 + c.args.number = omega (arith, c.from.ensures) in
    let digit = c.in_ok-push.ensures.ascii (omega (arith, same, c.if-number-lt10.true)) in
    rw (decimal_digit c.args.number c.if-number-lt10.true)
    (c.in_ok-push.ensures.bytes ∙ ap (λ (t : List ℕ). string_bytes c.args.text.now ++ t) digit ∙ ap (λ (n : ℕ). string_bytes c.args.text.now ++ n ∷ []) same)
