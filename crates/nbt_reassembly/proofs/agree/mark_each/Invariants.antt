use Rattle.nbt_reassembly.proofs.Common.{◌≡◌, key_cmp, marked}
use Rattle.std.specs.FinMap as maps
use Rattle.nbt_reassembly.proofs.agree.mark_each.Given as goal

abbrev pub invariant-loop-key : goal.invariant-loop-key
invariant-loop-key l =
    marked l.one.contents l.other.contents (maps.from_entries {R = key_cmp} l.marks.entries) l.key-iterator
    ≡ marked l.one.contents l.other.contents (maps.from_entries {R = key_cmp} l.fn.marks.entries) (maps.keys l.held.contents)
