use Rattle.std.proofs.Common.{◌≡◌, ℕ, List, [], ◌∷◌, ◌++◌, ap, sym, ◌∙◌, decimal, arith}
use Rattle.std.proofs.lemmas.Fmt.{decimal_digit}
use Rattle.json.specs.Token.{number}
use Rattle.json.proofs.Printed.Decimals.{IsNumber-decimal}
use Rattle.nb_telling.proofs.json_sink.write_number.Goals as goal

pub number-requires : goal.number-requires
number-requires c =
    rw c.ascii_str.ensures (rw (sym (decimal_digit c.args.value c.if-value-lt10.true))
    (IsNumber-decimal c.args.value (omega (arith, c.if-value-lt10.true))))

pub returns-then-value-lt10-clause-written : goal.returns-then-value-lt10-clause-written
returns-then-value-lt10-clause-written c =
    let same : c.ascii_str.result.now ≡ decimal c.args.value = c.ascii_str.ensures ∙ sym (decimal_digit c.args.value c.if-value-lt10.true) in
    c.in_ok-number.ensures.ok ∙ ap (λ (text : List ℕ). c.args.writer.now.tokens ++ number text ∷ []) same
