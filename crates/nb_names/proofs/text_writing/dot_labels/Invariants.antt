use Rattle.std.proofs.Common.{◌≡◌, ◌++◌, ℕ, List, length}
use Rattle.std.specs.List.{AllByRecursion}
use Rattle.std.specs.Str.{IsAscii}
use Rattle.nb_names.specs.DomainName.{IsLabel, spelling}
use Rattle.nb_names.specs.NameText.{scope_text_of}
use Rattle.nb_names.proofs.text_writing.dot_labels.Given as goal

abbrev pub invariant-labels : goal.invariant-labels
invariant-labels l =
    ((labels : List (List ℕ)) → AllByRecursion IsLabel labels → l.spelled ≡ spelling labels →
    (more : List (List ℕ)) × AllByRecursion IsLabel more × (l.rest ≡ spelling more)
    × (l.row.items ++ scope_text_of more ≡ l.fn.row.items ++ scope_text_of labels))
    × (IsAscii l.fn.row.items → IsAscii l.row.items)

abbrev pub decreases-labels : goal.decreases-labels
decreases-labels l = length l.rest
