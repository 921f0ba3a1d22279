use Rattle.nb_entries.proofs.Common.{agree_of, facts_fit_of}
use Rattle.nb_entries.proofs.entry.joining.EntryFactsFacts.together.Goals as goal

pub together-requires : goal.together-requires
together-requires c =
    let fit = facts_fit_of c.args.self.now c.args.other.now c.requires in
    let agree = rw (← c.self.view_is, ← c.other.view_is) at (agree_of c.args.self.now.cover c.args.other.now.cover fit.cover) in
    rw (c.deref.ensures, c.deref-2.ensures) agree
