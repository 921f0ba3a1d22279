use Rattle.std.proofs.Common.{sym, ◌∙◌, arith}
use Rattle.std.proofs.lemmas.Bool.{false≢true}
use Rattle.nb_streams.specs.HexadecimalFacts.{HexText-from_test, test-from_HexText, length-HexText}
use Rattle.nb_streams.proofs.hexadecimal.fault_without_room.Goals as goal

pub returns-then-are_digits : goal.returns-then-are_digits
returns-then-are_digits c =
    let read = HexText-from_test c.args.text.now (sym c.are_digits.ensures ∙ c.if-are_digits.true) c.requires.even in
    let some = c.requires.some in
    let len = length-HexText read.0 c.args.text.now read.1 in
    (read.0, read.1, omega (arith, len, some))

pub returns-else-are_digits : goal.returns-else-are_digits
returns-else-are_digits c bytes h =
    absurd (false≢true (sym c.if-are_digits.false ∙ (c.are_digits.ensures ∙ test-from_HexText bytes c.args.text.now h)))
