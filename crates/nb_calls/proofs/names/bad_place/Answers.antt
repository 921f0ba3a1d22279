use Rattle.nb_calls.proofs.Common.{ℕ, List, subst, IsBad, IsFormed}
use Rattle.nb_calls.proofs.TextLemmas.{bad_front, bad_end}
use Rattle.nb_calls.proofs.names.bad_place.Goals as goal

pub returns-in-Ok-name_from_text : goal.returns-in-Ok-name_from_text
returns-in-Ok-name_from_text c =
    let read = c.in-Ok-name_from_text.ensures.found in
    bad_end _ _ c.requires (subst IsFormed c.in-Ok.ensures.cases.0 (read.parts, read.form))

pub returns-in-Err-BadText : goal.returns-in-Err-BadText
returns-in-Err-BadText c =
    let fails = rw c.in-Err-BadText.field-0-is at c.in-Err-BadText.ensures.fault in
    bad_front _ _ _ c.requires (subst (λ (t : List ℕ). IsBad t c.in-Err-BadText.place) c.in-Ok.ensures.cases.0 fails.1)

pub returns-in-Err-TooLong : goal.returns-in-Err-TooLong
returns-in-Err-TooLong c =
    let fails = rw c.in-Err-TooLong.field-0-is at c.in-Err-TooLong.ensures.fault in
    bad_end _ _ c.requires (subst IsFormed c.in-Ok.ensures.cases.0 fails.0)
