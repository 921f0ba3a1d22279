use Rattle.nb_entries.proofs.Common.{◌≢◌, arith, goes_on, known, unknown}
use Rattle.nb_datagram.specs.declared.key.Kind.TheVariants.{Unique, Group, Broadcast}
use Rattle.nb_datagram.specs.Packet.{type_of}
use Rattle.nb_entries.proofs.SavedReading.{stopped}
use Rattle.nb_entries.proofs.saved.fields.read_kind.Goals as goal

pub returns-in_err-number : goal.returns-in_err-number
returns-in_err-number c = stopped _ _ c.from_residual.ensures.1 c.in_err-number.ensures

pub returns-in-16 : goal.returns-in-16
returns-in-16 c = goes_on _ _ c.in_ok-number.ensures (known Unique (omega arith))

pub returns-in-17 : goal.returns-in-17
returns-in-17 c = goes_on _ _ c.in_ok-number.ensures (known Group (omega arith))

pub returns-in-18 : goal.returns-in-18
returns-in-18 c = goes_on _ _ c.in_ok-number.ensures (known Broadcast (omega arith))

pub returns-in_default : goal.returns-in_default
returns-in_default c = goes_on _ _ c.in_ok-number.ensures (unknown (λ kind. elim kind as (λ k. c.in_ok-number.number ≢ type_of k) [
  | Unique ↦ λ h. omega (arith, h)
  | Group ↦ λ h. omega (arith, h)
  | Broadcast ↦ λ h. omega (arith, h)
]))
