use Rattle.std.proofs.Common.{◌≡◌, ◌∙◌}
use Rattle.nb_names.specs.Name.{no_label, NetbiosName, labels_of_name}
use Rattle.nb_names.proofs.NameLemmas.{IsScope-rest, no_name_length, no_name_letter, name_length, name_letters, one_name}
use Rattle.nb_names.proofs.name.Name.from_domain.Goals as goal

pub returns-in_default-clause-fault : goal.returns-in_default-clause-fault
returns-in_default-clause-fault c = rw c.in_default.ensures.split no_label

pub returns-then-first-ne-LETTERS-clause-fault : goal.returns-then-first-ne-LETTERS-clause-fault
returns-then-first-ne-LETTERS-clause-fault c = no_name_length _ _ _ c.in-Some.ensures.split.0 c.if-first-ne-LETTERS.true

pub returns-then-first-ne-LETTERS-clause-only : goal.returns-then-first-ne-LETTERS-clause-only
returns-then-first-ne-LETTERS-clause-only c name formed is =
    c.if-first-ne-LETTERS.true (name_length name _ _ formed (is ∙ c.in-Some.ensures.split.0))

pub of_domain-scope-requires : goal.of_domain-scope-requires
of_domain-scope-requires c =
    rw c.of_spelling.ensures (IsScope-rest _ _ _ c.in-Some.ensures.split.0 c.if-first-ne-LETTERS.false c.in-Some.ensures.domain)

pub returns-in-Err-clause-fault : goal.returns-in-Err-clause-fault
returns-in-Err-clause-fault c = no_name_letter _ _ _ _ c.in-Some.ensures.split.0 c.if-first-ne-LETTERS.false c.in-Err.ensures.non_letter

pub returns-in-Err-clause-only : goal.returns-in-Err-clause-only
returns-in-Err-clause-only c name formed is =
    name_letters name _ _ _ formed (is ∙ c.in-Some.ensures.split.0) c.in-Err.ensures.non_letter

pub returns-in-Ok-clause-only : goal.returns-in-Ok-clause-only
returns-in-Ok-clause-only c name formed is =
    let read : NetbiosName = record { bytes = c.in-Ok.bytes; scope = c.of_domain-scope.result } in
    let same : labels_of_name read ≡ labels_of_name name = cc (c.in-Ok.ensures.found, c.of_domain-scope.ensures, c.of_spelling.ensures, c.in-Some.ensures.split.0, is) in
    c.new.ensures.value ∙ one_name read name same
