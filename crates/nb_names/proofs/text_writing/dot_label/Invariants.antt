use Rattle.std.proofs.Common.{◌≡◌, ◌++◌, ◌∷◌, drop}
use Rattle.std.specs.Str.{IsAscii}
use Rattle.nb_streams.specs.Ascii.{dot}
use Rattle.nb_names.specs.NameText.{items_of}
use Rattle.nb_names.proofs.text_writing.dot_label.Given as goal

abbrev pub invariant-loop-byte : goal.invariant-loop-byte
invariant-loop-byte l =
    (l.row.items ++ items_of (drop l.byte-index l.label) ≡ l.fn.row.items ++ dot ∷ items_of l.label)
    × (IsAscii l.fn.row.items → IsAscii l.row.items)
