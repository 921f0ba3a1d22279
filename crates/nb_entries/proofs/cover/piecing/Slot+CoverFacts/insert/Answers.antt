use Rattle.nb_entries.proofs.Common.{◌∙◌, sym, fit_of, piece_cover}
use Rattle.nb_entries.proofs.cover.piecing.Slot+CoverFacts.insert.Goals as goal

pub grow-requires : goal.grow-requires
grow-requires c = fit_of c.in-Held.facts (piece_cover c.args.piece.now) (sym c.agrees_with.ensures ∙ c.if-not-agrees_with.false)
