use Rattle.nb_calls.proofs.Common.{Option, Key, NarrowsBy}
use Rattle.std.specs.FinMap as maps
use Rattle.nb_calls.proofs.tables.least_of.Given as goal

abbrev pub invariant-loop-key : goal.invariant-loop-key
invariant-loop-key l =
    (new : Option Key) → NarrowsBy l.one.contents l.other.contents l.key-iterator l.least new
    → NarrowsBy l.one.contents l.other.contents (maps.keys l.held.contents) l.fn.so_far new
