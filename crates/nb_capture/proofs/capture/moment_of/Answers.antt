use Rattle.std.proofs.Common.{sym, ◌∙◌}
use Rattle.nb_capture.proofs.CaptureLemmas.LineValues.{no_moment_from_test, digits_are_ascii, moment_from_parse}
use Rattle.nb_capture.proofs.capture.moment_of.Goals as goal

pub returns-then-not-are_digits : goal.returns-then-not-are_digits
returns-then-not-are_digits c =
    no_moment_from_test c.args.text.now (sym c.are_digits.ensures ∙ c.if-not-are_digits.true)

pub ascii_str-requires : goal.ascii_str-requires
ascii_str-requires c = digits_are_ascii c.args.text.now (sym c.are_digits.ensures ∙ c.if-not-are_digits.false)

pub returns : goal.returns
returns c =
    rw c.ok.ensures.value (moment_from_parse c.args.text.now c.parse.result (sym c.are_digits.ensures ∙ c.if-not-are_digits.false) c.if-text-gt-MAX_MOMENT_DIGITS.false
    (rw c.ascii_str.ensures at c.parse.ensures.value.0))
