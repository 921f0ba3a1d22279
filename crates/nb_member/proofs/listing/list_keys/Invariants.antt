use Rattle.std.proofs.Common.{◌≡◌, ◌++◌, [], string_bytes}
use Rattle.std.specs.FinMap as maps
use Rattle.nb_member.specs.Listing.{key_lines, listing}
use Rattle.nb_member.proofs.listing.list_keys.Given as goal

abbrev pub invariant-loop-key : goal.invariant-loop-key
invariant-loop-key l =
    (string_bytes l.lines ++ key_lines l.table.contents l.key-iterator ≡ listing l.table.contents)
    × (maps.keys l.table.contents ≡ [] → l.key-iterator ≡ [])
