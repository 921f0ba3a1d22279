use Rattle.std.proofs.Common.{◌∷◌, ◌∙◌, ap, sym}
use Rattle.nb_names.specs.Code.Kept.{labels_of}
use Rattle.nb_names.specs.Name.{no_label, labels_of_name}
use Rattle.nb_names.proofs.NameLemmas.{IsScope-rest, no_name_length, no_name_letter}
use Rattle.nb_names.proofs.SpellingLemmas.{IsDomain-rest, labels_of-spelled, spelled}
use Rattle.nb_names.proofs.lent_name.LentName.of_spelling.Goals as goal

pub returns-in_default-clause-fault : goal.returns-in_default-clause-fault
returns-in_default-clause-fault c = rw (c.in_default.ensures.split (labels_of c.args.spelled.now) c.requires.domain.each c.requires.exact) no_label

pub returns-then-first-ne-LETTERS-clause-fault : goal.returns-then-first-ne-LETTERS-clause-fault
returns-then-first-ne-LETTERS-clause-fault c =
    let begun = c.in-Some.ensures.split (labels_of c.args.spelled.now) c.requires.domain.each c.requires.exact in
    no_name_length _ _ _ begun.1 c.if-first-ne-LETTERS.true

pub new-requires-clause-spelled : goal.new-requires-clause-spelled
new-requires-clause-spelled c =
    let begun = c.in-Some.ensures.split (labels_of c.args.spelled.now) c.requires.domain.each c.requires.exact in
    spelled _ _ (IsDomain-rest _ _ _ begun.1 c.requires.domain) begun.2

pub new-requires-clause-scope : goal.new-requires-clause-scope
new-requires-clause-scope c =
    let begun = c.in-Some.ensures.split (labels_of c.args.spelled.now) c.requires.domain.each c.requires.exact in
    rw (labels_of-spelled begun.0 c.in-Some.rest.now (IsDomain-rest _ _ _ begun.1 c.requires.domain) begun.2)
    (IsScope-rest _ _ _ begun.1 c.if-first-ne-LETTERS.false c.requires.domain)

pub returns-in-Ok-clause-found : goal.returns-in-Ok-clause-found
returns-in-Ok-clause-found c =
    let begun = c.in-Some.ensures.split (labels_of c.args.spelled.now) c.requires.domain.each c.requires.exact in
    let behind = labels_of-spelled begun.0 c.in-Some.rest.now (IsDomain-rest _ _ _ begun.1 c.requires.domain) begun.2 in
    ap labels_of_name c.new.ensures.value ∙ (λ i. sym c.in-Ok.ensures.found i ∷ behind i) ∙ sym begun.1

pub returns-in-Err-clause-fault : goal.returns-in-Err-clause-fault
returns-in-Err-clause-fault c =
    let begun = c.in-Some.ensures.split (labels_of c.args.spelled.now) c.requires.domain.each c.requires.exact in
    no_name_letter _ _ _ _ begun.1 c.if-first-ne-LETTERS.false c.in-Err.ensures.non_letter
