use Rattle.std.proofs.Common.{◌≡◌, ◌∷◌, [], codes, string_bytes, take}
use Rattle.std.specs.List.{flat_map}
use Rattle.nb_streams.specs.Growth.{OnlyAdds}
use Rattle.nb_text.specs.Said.{said_after}
use Rattle.nb_text.proofs.brief.pieces.push_others.Given as goal

abbrev pub invariant-loop-place : goal.invariant-loop-place
invariant-loop-place g l =
    (string_bytes l.text ≡ said_after (string_bytes l.fn.text) (flat_map (λ next. codes ", " ∷ g.T.Shows.shown next ∷ []) (take l.place l.items)))
    × OnlyAdds (string_bytes l.fn.text) (string_bytes l.text)
