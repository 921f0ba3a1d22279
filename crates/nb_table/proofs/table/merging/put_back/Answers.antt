use Rattle.nb_table.proofs.Common.{◌∙◌, sym, ap, put_back}
use Rattle.nb_table.proofs.Joins.{put_held, put_missing}
use Rattle.nb_table.proofs.table.merging.put_back.Goals as goal

pub returns-in-Some-get_mut : goal.returns-in-Some-get_mut
returns-in-Some-get_mut c =
    let w = c.in-Some.before in
    let lent = rw c.in-Some-get_mut.is at c.get_mut.follows.holds w in
    lent ∙ put_held c.args.entries.now c.args.key c.args.before c.in-Some-get_mut.entry.now w c.in-Some.is (sym c.in-Some-get_mut.ensures.value)

pub returns-in_default : goal.returns-in_default
returns-in_default c =
    c.get_mut.follows.holds-at-none
    ∙ put_missing c.args.entries.now c.args.key c.args.before c.in-Some.before c.in-Some.is (sym c.in_default.ensures.value)

pub returns-in-None : goal.returns-in-None
returns-in-None c = c.remove.ensures.removed ∙ ap (put_back c.args.entries.now c.args.key) (sym c.in-None.is)
