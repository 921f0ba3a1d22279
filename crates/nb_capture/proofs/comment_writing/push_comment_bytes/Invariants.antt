use Rattle.nb_capture.proofs.Common.{◌≡◌, ◌++◌, drop, string_bytes, flat_map, byte_text}
use Rattle.nb_streams.specs.Growth.{OnlyAdds}
use Rattle.nb_capture.proofs.comment_writing.push_comment_bytes.Given as goal

abbrev pub invariant-loop-byte : goal.invariant-loop-byte
invariant-loop-byte l =
    (string_bytes l.text ++ flat_map byte_text (drop l.byte-index l.bytes) ≡ string_bytes l.fn.text ++ flat_map byte_text l.bytes)
    × OnlyAdds (string_bytes l.fn.text) (string_bytes l.text)
