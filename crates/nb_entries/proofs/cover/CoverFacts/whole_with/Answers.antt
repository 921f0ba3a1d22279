use Rattle.nb_entries.proofs.Common.{IfOk-weaker, ap, ◌∙◌, marks_together, CoverFacts}
use Rattle.nb_entries.proofs.KeptRuns.RunReadLemmas.{whole_put}
use Rattle.nb_entries.proofs.cover.CoverFacts.whole_with.Goals as goal

pub returns-in-Some : goal.returns-in-Some
returns-in-Some c =
    let own : CoverFacts = record { bytes = c.self.inside.bytes; marks = c.self.inside.marks } in
    let fit = rw (← c.self.view_is) at c.requires in
    let whole = whole_put own c.args.piece.now _ _ c.in-Some.end c.together.result fit c.start-start.ensures c.bytes.ensures c.in-Some.is (c.together.ensures ∙ ap (marks_together c.self.inside.marks) c.of.ensures) in
    rw (← c.self.view_is) (IfOk-weaker c.bytes_with.result _ _ (λ made e. e ∙ whole) c.bytes_with.ensures)
