use Rattle.std.proofs.Common.{arith, sym, ◌∙◌}
use Rattle.std.proofs.lemmas.Bool.Decides.{Decides-eqb}
use Rattle.std.proofs.lemmas.Slice.Eq.{slice_eq-Decides}
use Rattle.nb_tcp.proofs.PartLemmas.{agrees, disagrees}
use Rattle.nb_tcp.proofs.putting.agreeing.Goals as goal

pub returns-then-eq-clause-some : goal.returns-then-eq-clause-some
returns-then-eq-clause-some c = agrees _ _ c.in-Some.known.now _ c.min-count.result c.in-Some.ensures.some
    (omega (arith, c.min-count.ensures)) ((slice_eq-Decides Decides-eqb _ _ _ c.eq.ensures).0 c.if-eq.true)

pub returns-else-eq-clause-none : goal.returns-else-eq-clause-none
returns-else-eq-clause-none c = λ _. disagrees _ _ c.in-Some.known.now _ c.min-count.result c.in-Some.ensures.some
    (omega (arith, c.min-count.ensures)) (omega (arith, c.min-count.ensures)) (sym c.eq.ensures ∙ c.if-eq.false)
