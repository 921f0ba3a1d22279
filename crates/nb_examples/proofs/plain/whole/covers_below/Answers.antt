use Rattle.std.proofs.Common.{sym, ◌∙◌}
use Rattle.nb_datagram.specs.Fragment.{cores_of}
use Rattle.nb_table.specs.Contents.{byte_at}
use Rattle.nb_examples.proofs.PlainProgram.{some_of, covers_more, covers_not}
use Rattle.nb_examples.proofs.plain.whole.covers_below.Goals as goal

pub returns-then-not-is_covered : goal.returns-then-not-is_covered
returns-then-not-is_covered c =
    let L = cores_of c.args.fragments.now in
    let none = sym c.is_covered.ensures ∙ c.if-not-is_covered.true in
    (λ h. absurd (cc h), λ below. absurd (covers_not L c.args.key.now c.args.end c.loop-place.place c.loop-place-test.true none below))

pub loop-place-preserved : goal.loop-place-preserved
loop-place-preserved c =
    let L = cores_of c.args.fragments.now in
    covers_more L c.args.key.now c.loop-place.place c.loop-place.invariant
    (some_of (byte_at L c.args.key.now c.loop-place.place) (sym c.is_covered.ensures ∙ c.if-not-is_covered.false))
