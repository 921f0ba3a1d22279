use Rattle.std.proofs.Common.{◌≡◌, ◌++◌, length, string_bytes}
use Rattle.nb_streams.specs.Growth.{OnlyAdds}
use Rattle.nb_streams.specs.Hexadecimal.{digits_text}
use Rattle.nb_streams.proofs.parts_writing.push_digits.Given as goal

abbrev pub invariant-parts : goal.invariant-parts
invariant-parts l =
    (string_bytes l.text ++ digits_text l.rest ≡ string_bytes l.initial.text ++ digits_text l.bytes)
    × OnlyAdds (string_bytes l.initial.text) (string_bytes l.text)

abbrev pub decreases-parts : goal.decreases-parts
decreases-parts l = length l.rest
