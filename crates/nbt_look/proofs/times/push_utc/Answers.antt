use Rattle.std.proofs.Common.{ap, ◌∙◌, ◌++◌, ℕ, List, Bool, Option, string_bytes, FitsSigned, arith}
use Rattle.std.specs.Int.{w128}
use Rattle.jiff_core.proofs.SignedLemmas.{signed_arith}
use Rattle.std.proofs.lemmas.Int.{to_z-of_z}
use Rattle.nbt_look.proofs.TimesLemmas.{utc_from}
use Rattle.nbt_look.proofs.times.push_utc.Goals as goal

pub returns : goal.returns
returns c =
    let printer = c.precision-printer.result in
    let low_enough = c.ranges.at.fits in
    let is = c.from.ensures in
    let fits : FitsSigned w128 c.from.result = omega (arith, signed_arith) in
    let low = ap (λ (o : Bool × ℕ × Option ℕ). o.0) c.precision-printer.ensures ∙ ap (λ (o : Bool × ℕ × Option ℕ). o.0) c.new.ensures in
    let between = ap (λ (o : Bool × ℕ × Option ℕ). o.1) c.precision-printer.ensures ∙ ap (λ (o : Bool × ℕ × Option ℕ). o.1) c.new.ensures in
    let places = ap (λ (o : Bool × ℕ × Option ℕ). o.2) c.precision-printer.ensures in (
      _,
      utc_from printer c.unwrap-instant.result c.args.at _ low between places (rw c.unwrap-instant.ensures at c.from_nanosecond.ensures.value ∙ to_z-of_z w128 c.from.result fits ∙ c.from.ensures) c.timestamp_text.ensures,
      c.in_ok-push_str.ensures.bytes ∙ ap (λ (said : List ℕ). string_bytes c.args.text.now ++ said) c.as_str.ensures.value,
    )
