use Rattle.std.proofs.Common.{◌≡◌, ◌++◌, drop, flat_map, string_bytes}
use Rattle.nbt_look.specs.Ends.{shown_byte}
use Rattle.nbt_look.proofs.ends.push_name.Given as goal

abbrev pub invariant-loop-byte : goal.invariant-loop-byte
invariant-loop-byte l =
    string_bytes l.text ++ flat_map shown_byte (drop l.byte-index l.name) ≡ string_bytes l.fn.text ++ flat_map shown_byte l.name
