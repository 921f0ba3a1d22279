use Rattle.std.proofs.Common.{◌-◌, ◌^◌}
use Rattle.nbt_look.specs.Listing.{so_far}
use Rattle.nbt_look.proofs.PrintingLemmas.{IsMerging}
use Rattle.nbt_look.proofs.printing.print_list.Given as goal

abbrev pub invariant-frames : goal.invariant-frames
invariant-frames g l =
    IsMerging l.fn.progress.lister.listing.asked l.fn.sources l.sources l.number (so_far l.progress)
    (g.W.Write.contents l.fn.writer.inner) (g.W.Write.contents l.writer.inner) l.fn.writer.counts l.writer.counts

abbrev pub decreases-frames : goal.decreases-frames
decreases-frames g l = 2 ^ 64 - l.number
