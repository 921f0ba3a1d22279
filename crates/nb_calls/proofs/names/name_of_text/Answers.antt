use Rattle.nb_calls.proofs.Common.{ℕ, List, subst}
use Rattle.nb_calls.specs.Names.{IsRead}
use Rattle.nb_calls.proofs.NameLemmas.{read_of}
use Rattle.nb_calls.proofs.TextLemmas.{formed_utf8}
use Rattle.nb_calls.proofs.names.name_of_text.Goals as goal

pub returns-in-Ok : goal.returns-in-Ok
returns-in-Ok c =
    subst (λ (t : List ℕ). IsRead t c.name_from_text.result) c.in-Ok.ensures.cases.0 (read_of _ _ c.name_from_text.ensures.found c.name_from_text.ensures.fault)

pub returns-in-Err : goal.returns-in-Err
returns-in-Err c = (λ formed. c.in-Err.ensures.cases.0 (formed_utf8 _ formed), c.bad_place.ensures)
