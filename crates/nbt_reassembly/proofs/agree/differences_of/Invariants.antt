use Rattle.nbt_reassembly.proofs.Common.{◌≡◌, ◌++◌, string_bytes, true, lines_of_keys}
use Rattle.nbt_reassembly.specs.Tables.{difference_text}
use Rattle.nbt_reassembly.proofs.agree.differences_of.Given as goal

abbrev pub invariant-loop-key : goal.invariant-loop-key
invariant-loop-key l =
    string_bytes l.lines ++ lines_of_keys l.one.contents l.other.contents l.key-iterator ≡ difference_text true l.one.contents l.other.contents
