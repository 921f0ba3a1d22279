use Rattle.std.proofs.Common.{◌≡◌, ◌++◌, drop, string_bytes}
use Rattle.nb_streams.specs.Growth.{OnlyAdds}
use Rattle.nb_names.specs.NameText.{items_of}
use Rattle.nb_names.proofs.text_writing.push_each.Given as goal

abbrev pub invariant-loop-byte : goal.invariant-loop-byte
invariant-loop-byte l =
    (string_bytes l.text ++ items_of (drop l.byte-index l.bytes) ≡ string_bytes l.fn.text ++ items_of l.bytes)
    × OnlyAdds (string_bytes l.fn.text) (string_bytes l.text)
