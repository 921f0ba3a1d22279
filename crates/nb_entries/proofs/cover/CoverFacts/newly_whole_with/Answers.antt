use Rattle.nb_entries.proofs.Common.{IfOk-weaker, not_from_Decides, covers_together, piece_cover, Held}
use Rattle.nb_entries.specs.CoverChange.{data_of}
use Rattle.nb_entries.proofs.CoverChanges.{data_never, data_always}
use Rattle.nb_entries.proofs.cover.CoverFacts.newly_whole_with.Goals as goal

pub returns-then-is_whole : goal.returns-then-is_whole
returns-then-is_whole c = data_never c.args.self.now _ (c.is_whole.ensures.0 c.if-is_whole.true)

pub returns : goal.returns
returns c =
    let a = c.args.self.now in
    let whole = data_of (Held (covers_together a (piece_cover c.args.piece.now))) in
    IfOk-weaker c.whole_with.result _ _ (λ xs same. data_always a xs whole (not_from_Decides c.is_whole.result c.is_whole.ensures c.if-is_whole.false) same) c.whole_with.ensures
