use Rattle.std.proofs.Common.{arith, length-set}
use Rattle.nb_names.proofs.FirstLevelLemmas.{bytes_turn, all_letters, letters_two_more}
use Rattle.nb_names.proofs.spellings.bytes_in_turn.Goals as goal

pub loop-place-preserved : goal.loop-place-preserved
loop-place-preserved c =
    let high = c.in_ok-high.ensures.found in
    let low = c.in_ok-low.ensures.found in
    record {
      size = simp length-set c.loop-place.invariant.size;
      read = bytes_turn c.args.letters.now c.loop-place.bytes c.loop-place.place _ _ (omega arith) (omega (arith, c.loop-place.invariant.size)) high.0 low.0 high.1 low.1 c.loop-place.invariant.read;
      before = letters_two_more c.args.letters.now c.loop-place.place _ _ high.0 low.0 high.1 low.1 c.loop-place.invariant.before;
    }

pub returns-clause-found : goal.returns-clause-found
returns-clause-found c = all_letters c.args.letters.now c.loop-place.bytes c.loop-place.place (omega arith) (omega (arith, c.loop-place.invariant.size)) c.loop-place.invariant.read
