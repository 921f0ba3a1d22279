use Rattle.std.proofs.Common.{◌≡◌, ◌++◌, drop, false, string_bytes}
use Rattle.nbt_look.specs.Totals.{lacks_text}
use Rattle.nbt_look.proofs.totals.push_lacks.Given as goal

abbrev pub invariant-loop-lack : goal.invariant-loop-lack
invariant-loop-lack l =
    string_bytes l.text ++ lacks_text l.counts l.begun (drop l.lack-index l.lacks) ≡ string_bytes l.fn.text ++ lacks_text l.counts false l.lacks
