use Rattle.std.proofs.Common.{◌∙◌, arith, ap, length}
use Rattle.nb_names.proofs.SkippedLemmas.{stretch_within, stretch_spelled}
use Rattle.nb_names.proofs.reading.NameReader.lent_at.Goals as goal

pub overflow_sub-seen : goal.overflow_sub-seen
overflow_sub-seen c = omega (arith, stretch_within _ _ _ _ _ c.requires.1)

pub slice_bounds-of_spelling-count : goal.slice_bounds-of_spelling-count
slice_bounds-of_spelling-count c = omega (arith, stretch_within _ _ _ _ _ c.requires.1)

pub slice_bounds-of_spelling-start : goal.slice_bounds-of_spelling-start
slice_bounds-of_spelling-start c = omega (arith, stretch_within _ _ _ _ _ c.requires.1, ap length c.packet-packet.ensures)

pub of_spelling-requires : goal.of_spelling-requires
of_spelling-requires c = rw c.packet-packet.ensures (stretch_spelled _ _ _ _ _ c.requires.1 c.if-seen.false).0

pub returns : goal.returns
returns c labels is = c.of_spelling.ensures ∙ (rw c.packet-packet.ensures (stretch_spelled _ _ _ _ _ is c.if-seen.false).1)
