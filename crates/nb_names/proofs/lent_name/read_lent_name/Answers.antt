use Rattle.std.proofs.Common.{◌∙◌}
use Rattle.std.proofs.lemmas.Result.{err_from_is_err_and}
use Rattle.nb_names.specs.NameFaults.{on_way, not_netbios}
use Rattle.nb_names.proofs.FaultLemmas.{no_netbios}
use Rattle.nb_names.proofs.LabelsLemmas.{one_reading, IsDomain-read, range_spelled}
use Rattle.nb_names.proofs.NameLemmas.{one_name}
use Rattle.nb_names.proofs.SpellingLemmas.{labels_of-spelled, spelled}
use Rattle.nb_names.proofs.lent_name.read_lent_name.Goals as goal

pub returns-in_err-seen-clause-fault : goal.returns-in_err-seen-clause-fault
returns-in_err-seen-clause-fault c =
    let p = err_from_is_err_and c.from_residual.result c.from_residual.ensures.1 in
    rw (p.1, p.2) (on_way c.in_err-seen.ensures.fault)

pub of_spelling-requires : goal.of_spelling-requires
of_spelling-requires c =
    let there = c.in_ok-seen.ensures.found.1.name in
    spelled _ _ (IsDomain-read _ _ _ _ _ _ there) (range_spelled _ _ _ _ there)

pub returns-in-Ok-clause-found : goal.returns-in-Ok-clause-found
returns-in-Ok-clause-found c =
    let there = c.in_ok-seen.ensures.found.1.name in
    let labels = labels_of-spelled _ _ (IsDomain-read _ _ _ _ _ _ there) (range_spelled _ _ _ _ there) in
    rw (c.in-Ok.ensures.found ∙ labels) there

pub returns-in-Ok-clause-only : goal.returns-in-Ok-clause-only
returns-in-Ok-clause-only c name next formed is =
    let there = c.in_ok-seen.ensures.found.1.name in
    let labels = labels_of-spelled _ _ (IsDomain-read _ _ _ _ _ _ there) (range_spelled _ _ _ _ there) in
    let one = one_reading _ _ _ _ _ _ _ _ there is in
    (one_name c.in-Ok.name name (c.in-Ok.ensures.found ∙ labels ∙ one.0), one.1)

pub returns-in-Err-clause-fault : goal.returns-in-Err-clause-fault
returns-in-Err-clause-fault c =
    let there = c.in_ok-seen.ensures.found.1.name in
    let labels = labels_of-spelled _ _ (IsDomain-read _ _ _ _ _ _ there) (range_spelled _ _ _ _ there) in
    not_netbios _ _ _ there (rw labels at c.in-Err.ensures.fault)

pub returns-in-Err-clause-only : goal.returns-in-Err-clause-only
returns-in-Err-clause-only c name next formed is =
    let there = c.in_ok-seen.ensures.found.1.name in
    let labels = labels_of-spelled _ _ (IsDomain-read _ _ _ _ _ _ there) (range_spelled _ _ _ _ there) in
    no_netbios _ _ _ _ _ _ (not_netbios _ _ _ there (rw labels at c.in-Err.ensures.fault)) formed is
