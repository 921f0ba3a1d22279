use Rattle.nb_entries.proofs.Common.{ap, ap₂, sym, subst, ◌∙◌, AreCoverFacts, with_bytes, piece_formed}
use Rattle.std.specs.FinMap as maps
use Rattle.nb_entries.proofs.Covers.{put_alone}
use Rattle.nb_entries.proofs.KeptRuns.RunReadLemmas.{empty_agrees}
use Rattle.nb_entries.proofs.cover.CoverFacts.of.Goals as goal

pub insert-requires : goal.insert-requires
insert-requires c = empty_agrees _ _ _ c.new-bytes.ensures

pub returns : goal.returns
returns c =
    let bytes = c.in_ok-insert.ensures.ok
    ∙ ap (λ m. with_bytes m c.start.result c.bytes.result.now) c.new-bytes.ensures
    ∙ ap₂ (with_bytes maps.empty) c.start.ensures c.bytes.ensures
    ∙ put_alone c.args.piece.now.offset c.args.piece.now.bytes in
    let marks = c.of-marks.ensures in
    λ i. record { bytes = bytes i; marks = marks i }

pub invariant_of-result : goal.invariant_of-result
invariant_of-result c = subst AreCoverFacts (sym (returns c)) (piece_formed c.args.piece.now)
