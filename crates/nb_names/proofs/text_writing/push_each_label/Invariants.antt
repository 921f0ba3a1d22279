use Rattle.std.proofs.Common.{◌≡◌, ◌++◌, ℕ, List, length, string_bytes}
use Rattle.std.specs.List.{AllByRecursion}
use Rattle.nb_streams.specs.Growth.{OnlyAdds}
use Rattle.nb_names.specs.DomainName.{IsLabel, spelling}
use Rattle.nb_names.specs.NameText.{scope_text_of}
use Rattle.nb_names.proofs.text_writing.push_each_label.Given as goal

abbrev pub invariant-labels : goal.invariant-labels
invariant-labels l =
    ((labels : List (List ℕ)) → AllByRecursion IsLabel labels → l.spelled ≡ spelling labels →
    (more : List (List ℕ)) × AllByRecursion IsLabel more × (l.rest ≡ spelling more)
    × (string_bytes l.text ++ scope_text_of more ≡ string_bytes l.fn.text ++ scope_text_of labels))
    × OnlyAdds (string_bytes l.fn.text) (string_bytes l.text)

abbrev pub decreases-labels : goal.decreases-labels
decreases-labels l = length l.rest
