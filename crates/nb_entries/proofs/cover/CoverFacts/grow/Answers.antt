use Rattle.nb_entries.proofs.Common.{◌∙◌, sym, None, not_from_Decides, piece_cover, together_held}
use Rattle.nb_entries.proofs.CoverChanges.{cover_grown}
use Rattle.nb_entries.proofs.cover.CoverFacts.grow.Goals as goal

pub returns-then-holds-clause-joined : goal.returns-then-holds-clause-joined
returns-then-holds-clause-joined c = sym (together_held c.args.self.now (piece_cover c.args.piece.now) (c.holds.ensures.0 c.if-holds.true))

pub returns-in-None-clause-change : goal.returns-in-None-clause-change
returns-in-None-clause-change c =
    let more = not_from_Decides c.holds.result c.holds.ensures c.if-holds.false in
    rw c.in_ok-insert.ensures.ok (cover_grown c.args.self.now (piece_cover c.args.piece.now) c.requires more None (sym c.in-None.is ∙ c.in_ok-whole.ensures))
