use Rattle.std.proofs.Common.{◌≡◌, ◌∙◌, ap, List, ◌++◌, ◌∷◌, [], Some}
use Rattle.std.specs.List.{slice_get}
use Rattle.nb_service.specs.declared.views.AddressEntry.{AddressEntry}
use Rattle.nb_survey.proofs.HearingLemmas.{taken_more}
use Rattle.nb_survey.proofs.hearing.push_own.Goals as goal

pub entries-preserved : goal.entries-preserved
entries-preserved c =
    let got : slice_get c.in-Some.entries c.entries.place ≡ Some c.unwrap.result = cc in
    c.in_ok-push.ensures.items
    ∙ (ap (λ (xs : List AddressEntry). xs ++ c.unwrap.result ∷ []) c.entries.invariant
    ∙ taken_more c.args.found.now.items c.in-Some.entries c.entries.place c.unwrap.result got)
