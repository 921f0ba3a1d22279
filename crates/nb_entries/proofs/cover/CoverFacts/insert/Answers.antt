use Rattle.nb_entries.proofs.Common.{ap, sym, subst, ◌∙◌, marks_together, CoverFacts, AreCoverFacts, piece_cover, piece_formed}
use Rattle.nb_entries.proofs.Covers.{together_formed}
use Rattle.nb_entries.proofs.KeptRuns.RunReadLemmas.{fit_agrees, put_is}
use Rattle.nb_entries.proofs.cover.CoverFacts.insert.Goals as goal

pub insert-requires : goal.insert-requires
insert-requires c =
    let own : CoverFacts = record { bytes = c.self.inside.bytes; marks = c.self.inside.marks } in
    let fit = rw (← c.self.view_is) at c.requires in
    fit_agrees own c.args.piece.now _ _ fit c.start-start.ensures c.bytes.ensures

pub returns-clause-ok : goal.returns-clause-ok
returns-clause-ok c =
    let own : CoverFacts = record { bytes = c.self.inside.bytes; marks = c.self.inside.marks } in
    let fit = rw (← c.self.view_is) at c.requires in
    rw (← c.self.view_is) (put_is own c.args.piece.now _ _ _ _ fit c.start-start.ensures c.bytes.ensures c.in_ok-insert.ensures.ok (c.together-self-inside.ensures ∙ ap (marks_together c.self.inside.marks) c.of.ensures))

pub invariant_of-self-2 : goal.invariant_of-self-2
invariant_of-self-2 c =
    let f = c.args.piece.now in
    subst AreCoverFacts (sym (returns-clause-ok c)) (together_formed _ (piece_cover f) c.requires (subst AreCoverFacts c.self.view_is c.self.invariant) (piece_formed f))
