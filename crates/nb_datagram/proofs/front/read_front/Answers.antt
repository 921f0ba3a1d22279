use Rattle.nb_datagram.proofs.Common.{refl}
use Rattle.nb_datagram.specs.Fronts.{of_fragment, of_another, no_fields}
use Rattle.nb_datagram.proofs.FrontLemmas.{front_there, one_front}
use Rattle.nb_datagram.proofs.ReadingLemmas.{header_type}
use Rattle.nb_datagram.proofs.front.read_front.Goals as goal
use Rattle.nb_datagram.proofs.front.read_front.Goals.{then-is_fragment+in_ok-read_fragment, else-is_fragment}

pub returns-in_err-read_fragment-clause-found : goal.returns-in_err-read_fragment-clause-found
returns-in_err-read_fragment-clause-found c =
    rw c.from_residual-in_err-read_fragment.ensures
    (no_fields _ (header_type _ c.in_ok-header.header c.in_ok-header.ensures) (c.if-is_fragment.ensures.0 refl) c.in_err-read_fragment.ensures)

pub returns-clause-found : goal.returns-clause-found
returns-clause-found c =
    front_there _ c.in_ok-header.header c.if-is_fragment.fragment c.in_ok-header.ensures (elim c.if-is_fragment.branch [
      | then-is_fragment+in_ok-read_fragment w ↦ rw w.fragment-is (of_fragment _ (w.if-is_fragment.ensures.0 refl) w.in_ok-read_fragment.ensures)
      | else-is_fragment w ↦ rw w.fragment-is (of_another (λ is. let wrong = w.if-is_fragment.ensures.1 is in absurd (cc)))
    ])

pub returns-clause-only : goal.returns-clause-only
returns-clause-only c front there = one_front _ _ front (returns-clause-found c) there
