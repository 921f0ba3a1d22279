use Rattle.nb_entries.proofs.Common.{◌∙◌}
use Rattle.nb_entries.proofs.KeptRuns.RunMapLemmas.{held_test, lacks_test}
use Rattle.nb_entries.proofs.cover.runs.Runs.hold.Goals as goal

pub returns-in-Some : goal.returns-in-Some
returns-in-Some c = c.eq.ensures ∙ held_test _ c.args.start c.args.bytes.now _ c.in-Some.ensures

pub returns-in-None : goal.returns-in-None
returns-in-None c = lacks_test _ c.args.start c.args.bytes.now c.in-None.ensures
