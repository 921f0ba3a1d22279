use Rattle.std.proofs.Common.{arith, length-set}
use Rattle.nb_names.proofs.FirstLevelLemmas.{letters_turn, all_letters}
use Rattle.nb_names.proofs.spellings.letters_of.Goals as goal

pub loop-place-preserved : goal.loop-place-preserved
loop-place-preserved c = record {
  size = simp length-set c.loop-place.invariant.size;
  written = letters_turn c.loop-place.letters c.args.bytes.now c.loop-place.place (omega (arith, c.loop-place.invariant.size)) (omega arith) c.loop-place.invariant.written;
}

pub returns : goal.returns
returns c = all_letters c.loop-place.letters c.args.bytes.now c.loop-place.place (omega (arith, c.loop-place.invariant.size)) (omega arith) c.loop-place.invariant.written
