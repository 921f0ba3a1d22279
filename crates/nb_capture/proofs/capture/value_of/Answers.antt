use Rattle.nb_capture.proofs.Common.{codes, ◌≡◌, ◌++◌, strip_prefix_is, Decides-eqb, tick}
use Rattle.nb_capture.proofs.capture.value_of.Goals as goal

pub returns-in-Some-moment_of : goal.returns-in-Some-moment_of
returns-in-Some-moment_of c =
    let is : c.args.line.now ≡ codes "tick " ++ c.in-Some.digits.now = rw c.in-Some.is at (strip_prefix_is Decides-eqb c.args.line.now (codes "tick ") _ c.strip_prefix.ensures.cases) in
    rw is (tick c.in-Some-moment_of.now c.in-Some.digits.now c.in-Some-moment_of.ensures)
