use Rattle.std.proofs.Common.{arith, ap, length}
use Rattle.nb_tcp.proofs.RunsLemmas.{first_fits, rest_are_runs, rest_charge}
use Rattle.nb_tcp.proofs.runs.Runs.forget_first.Goals as goal

pub overflow_add-end : goal.overflow_add-end
overflow_add-end c = omega (arith, first_fits _ _ c.self.invariant.0 c.in-Some.ensures.first, ap length c.as_slice.ensures)

pub invariant_of-self-2 : goal.invariant_of-self-2
invariant_of-self-2 c = (
  rest_are_runs _ _ _ c.self.invariant.0 c.in-Some-pop_first.ensures.removal,
  omega (arith, rest_charge _ _ _ c.in-Some-pop_first.ensures.removal, c.self.invariant.1, ap length c.as_slice-2.ensures),
)
