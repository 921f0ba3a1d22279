use Rattle.nbt_look.specs.Listing.{so_far}
use Rattle.nbt_look.proofs.PrintingLemmas.{asked_same, counts_printed, list_begun}
use Rattle.nbt_look.proofs.printing.print_files.Goals as goal

pub print_list-requires-clause-begins : goal.print_list-requires-clause-begins
print_list-requires-clause-begins g c = list_begun _ _ c.new-progress.ensures

pub returns : goal.returns
returns g c =
    counts_printed c.args.asked c.args.sources.now c.print_list.new.sources (g.W.Write.contents c.args.writer.now.inner)
    (g.W.Write.contents c.print_list.new.writer.inner) (g.W.Write.contents c.print_last.new.writer.inner) c.args.writer.now.counts
    c.print_list.new.writer.counts c.print_last.new.writer.counts (so_far c.print_list.new.progress) _
    (rw (asked_same _ _ c.new-progress.ensures) at c.in-Ok.ensures) (rw c.unfinished.ensures at c.end.ensures) c.print_last.result c.print_last.ensures
