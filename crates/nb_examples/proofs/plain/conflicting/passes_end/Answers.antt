use Rattle.std.proofs.Common.{◌≡◌, ◌<◌, sym, ◌∙◌, subst, length, arith}
use Rattle.std.proofs.lemmas.Bool.Decides.{nat_tests}
use Rattle.nb_datagram.specs.Fragment.{core_of}
use Rattle.nb_examples.proofs.PlainProgram.{past_end_decides, empty_never_past}
use Rattle.nb_examples.proofs.plain.conflicting.passes_end.Goals as goal

pub returns-then-not-is_empty : goal.returns-then-not-is_empty
returns-then-not-is_empty c =
    let some : 0 < length c.bytes.result.now = grind (arith, nat_tests, c.if-not-is_empty.ensures) in
    past_end_decides (core_of c.args.one.now) (core_of c.args.other.now) c.in-Some.end c.reach.result
    (sym c.end_of_one.ensures ∙ c.in-Some.is) (subst (λ xs. 0 < length xs) c.bytes.ensures.value some) c.reach.ensures

pub returns-else-not-is_empty : goal.returns-else-not-is_empty
returns-else-not-is_empty c =
    let tested = c.if-not-is_empty.ensures in
    let none : length c.bytes.result.now ≡ 0 = grind (arith, nat_tests, tested) in
    (λ h. absurd (grind (arith, nat_tests, tested, none, h)), λ p. absurd (empty_never_past (core_of c.args.one.now) (core_of c.args.other.now) (subst (λ xs. length xs ≡ 0) c.bytes.ensures.value none) p))
