use Rattle.std.proofs.Common.{◌≡◌, ◌++◌, drop, flat_map, string_bytes}
use Rattle.nbt_look.specs.Objects.{colon_byte}
use Rattle.nbt_look.proofs.frame_members.push_colon_bytes.Given as goal

abbrev pub invariant-loop-byte : goal.invariant-loop-byte
invariant-loop-byte l =
    string_bytes l.text ++ flat_map colon_byte (drop l.byte-index l.octets) ≡ string_bytes l.fn.text ++ flat_map colon_byte l.octets
