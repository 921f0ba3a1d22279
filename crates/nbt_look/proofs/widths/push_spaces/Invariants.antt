use Rattle.std.proofs.Common.{◌≡◌, ◌++◌, string_bytes}
use Rattle.nbt_look.specs.Columns.{spaces}
use Rattle.nbt_look.proofs.widths.push_spaces.Given as goal

abbrev pub invariant-spaces : goal.invariant-spaces
invariant-spaces l = string_bytes l.text ++ spaces l.left ≡ string_bytes l.fn.text ++ spaces l.count

abbrev pub decreases-spaces : goal.decreases-spaces
decreases-spaces l = l.left
