use Rattle.nb_entries.proofs.Common.{get_or, arith, refl, ◌∙◌, slice_get-get_or}
use Rattle.nb_entries.proofs.cover.runs.Runs.cover_below.Goals as goal

pub returns-in-Some : goal.returns-in-Some
returns-in-Some c = let all = c.in-Some.ensures in (λ _ q l. (get_or _ q 0, all.each q q (omega arith) l ∙ slice_get-get_or _ q 0 (omega arith)), λ _. refl)

pub returns-in-None : goal.returns-in-None
returns-in-None c = let lacks = c.in-None.ensures in (λ h. absurd (cc), λ h. (let there = h lacks.place lacks.most in absurd (cc (there.1, lacks.none))))
