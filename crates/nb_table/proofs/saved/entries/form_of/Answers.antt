use Rattle.nb_table.proofs.Common.{sym, ◌∙◌, First, Second, no_magic}
use Rattle.nb_table.proofs.SavedReading.FoundLemmas.{magic_there, magics_absent}
use Rattle.nb_table.proofs.saved.entries.form_of.Goals as goal

pub returns-then-starts_with-clause-found : goal.returns-then-starts_with-clause-found
returns-then-starts_with-clause-found c = magic_there Second c.args.input.now (sym c.starts_with.ensures.value ∙ c.if-starts_with.true)

pub returns-then-starts_with-2-clause-found : goal.returns-then-starts_with-2-clause-found
returns-then-starts_with-2-clause-found c = magic_there First c.args.input.now (sym c.starts_with-2.ensures.value ∙ c.if-starts_with-2.true)

pub returns-clause-fault : goal.returns-clause-fault
returns-clause-fault c =
    no_magic (magics_absent c.args.input.now (sym c.starts_with-2.ensures.value ∙ c.if-starts_with-2.false) (sym c.starts_with.ensures.value ∙ c.if-starts_with.false))
