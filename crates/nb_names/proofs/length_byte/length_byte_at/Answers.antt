use Rattle.std.proofs.Common.{arith, get_or}
use Rattle.nb_names.specs.NameFaults.{short_label, half_pointer}
use Rattle.nb_names.proofs.LabelsLemmas.{stands_one}
use Rattle.nb_names.proofs.length_byte.length_byte_at.Goals as goal

pub returns-then-behind-first : goal.returns-then-behind-first
returns-then-behind-first c =
    short_label _ (stands_one c.args.packet.now c.args.here (omega arith)) (omega arith) (omega arith) (omega arith)

pub returns-then-first-lt-LOWEST_POINTER : goal.returns-then-first-lt-LOWEST_POINTER
returns-then-first-lt-LOWEST_POINTER c = record {
  first = get_or c.args.packet.now c.args.here 0;
  there = stands_one c.args.packet.now c.args.here (omega arith);
  low = omega arith;
  high = omega arith;
}

pub returns-then-behind-eq0 : goal.returns-then-behind-eq0
returns-then-behind-eq0 c =
    half_pointer _ (stands_one c.args.packet.now c.args.here (omega arith)) (omega arith) (omega arith)
