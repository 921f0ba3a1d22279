use Rattle.std.proofs.Common.{◌≡◌, ◌∙◌, ap, sym, ◌++◌, ◌∷◌, List, false, filter}
use Rattle.std.proofs.lemmas.Bool.{cond-false}
use Rattle.std.proofs.lemmas.List.Elements.{filter-append}
use Rattle.nb_connections.specs.declared.piece.Ends.{Ends}
use Rattle.nb_connections.specs.Directions.{Came, is_of, since}
use Rattle.nb_connections.proofs.laws.others_change_nothing.Goals as goal

others : (ends : Ends) (before later : List Came) (other : Came) → is_of ends other ≡ false → filter (is_of ends) (before ++ other ∷ later) ≡ filter (is_of ends) (before ++ later)
others ends before later other h =
    filter-append (is_of ends) before (other ∷ later)
    ∙ (ap (λ (xs : List Came). filter (is_of ends) before ++ xs) (cond-false (is_of ends other) (other ∷ filter (is_of ends) later) (filter (is_of ends) later) h)
    ∙ sym (filter-append (is_of ends) before later))

pub returns : goal.returns
returns c = λ ends before later other h. ap since (others ends before later other h)
