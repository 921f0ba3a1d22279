use Rattle.std.proofs.Common.{◌≡◌, ◌+◌, arith, sym, ap, drop, add-one, length, length-drop}
use Rattle.nb_names.specs.DomainName.{spelling}
use Rattle.nb_streams.specs.PacketFacts.{All-drop}
use Rattle.nb_names.proofs.SpellingLemmas.{some_left}
use Rattle.nb_names.proofs.spellings.count_labels.Goals as goal

pub loop-behind-preserved : goal.loop-behind-preserved
loop-behind-preserved c = record {
  short = omega (arith, c.in-Some.ensures.shorter);
  left = λ labels a e.
      let inside = c.loop-behind.invariant.left labels a e in
      let split = c.in-Some.ensures.split (drop c.loop-behind.count labels) (All-drop _ _ labels a) inside.1 in
      let next = some_left labels _ _ _ split.1 in
      let rest : spelling split.0 ≡ spelling (drop (c.loop-behind.count + 1) labels) = ap spelling (rw add-one (sym next.1)) in
      (omega (arith, next.2), cc (split.2, rest));
}

pub returns : goal.returns
returns c labels a e =
    let inside = c.loop-behind.invariant.left labels a e in
    let left = c.in_default.ensures.split (drop c.loop-behind.count labels) (All-drop _ _ labels a) inside.1 in
    omega (arith, inside.0, ap length left, length-drop c.loop-behind.count labels)
