use Rattle.std.proofs.Common.{get_or, sym, ◌∙◌}
use Rattle.std.proofs.lemmas.Option.{slice_get-get_or}
use Rattle.nbt_look.specs.Listing.{so_far}
use Rattle.nbt_look.proofs.PrintingLemmas.{begins, filled, next_printed, not_printed, prints_ended}
use Rattle.nbt_look.proofs.printing.print_list.Goals as goal

pub frames-init : goal.frames-init
frames-init g c = begins _ _ _ _ _ c.requires.begins c.requires.unread

pub returns-in_default : goal.returns-in_default
returns-in_default g c =
    prints_ended _ _ _ _ _ _ _ _ _
    (filled _ _ _ _ _ _ _ _ _ _ c.frames.invariant c.fill_all.auto.sources c.fill_all.ensures) c.in_default.ensures.first

pub frames-preserved : goal.frames-preserved
frames-preserved g c =
    next_printed _ _ _ _ _ _ _ _ _ _ _ _ _ (get_or c.fill_all.new.sources c.in-Some.at c.index-sources-at.result) _
    (filled _ _ _ _ _ _ _ _ _ _ c.frames.invariant c.fill_all.auto.sources c.fill_all.ensures) c.in-Some.ensures.first
    (slice_get-get_or c.fill_all.new.sources c.in-Some.at c.index-sources-at.result c.in-Some.ensures.within)
    (sym c.is_enough.ensures ∙ c.if-is_enough.false) c.in-Ok.ensures.given c.in-Ok.ensures.prints

pub returns-in-Err : goal.returns-in-Err
returns-in-Err g c =
    not_printed _ _ _ _ _ (so_far c.print.new.progress) (so_far c.print.new.progress) _ _ (g.W.Write.contents c.print.new.writer.inner) _ _
    c.print.new.writer.counts _ (get_or c.fill_all.new.sources c.in-Some.at c.index-sources-at.result) _ c.in-Err.fault
    (filled _ _ _ _ _ _ _ _ _ _ c.frames.invariant c.fill_all.auto.sources c.fill_all.ensures) c.in-Some.ensures.first
    (slice_get-get_or c.fill_all.new.sources c.in-Some.at c.index-sources-at.result c.in-Some.ensures.within)
    (sym c.is_enough.ensures ∙ c.if-is_enough.false) c.in-Err.ensures.given c.in-Err.ensures.prints
