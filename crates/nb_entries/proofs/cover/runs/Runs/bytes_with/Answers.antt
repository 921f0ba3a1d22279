use Rattle.nb_entries.proofs.Common.{inl, inr, arith, sym, take, append_assoc}
use Rattle.nb_entries.proofs.KeptRuns.RunReadLemmas.{made_between}
use Rattle.nb_entries.proofs.KeptRuns.RunMapLemmas.{below_is, lacks_put}
use Rattle.nb_entries.proofs.cover.runs.Runs.bytes_with.Goals as goal

pub returns-in-None : goal.returns-in-None
returns-in-None c =
    let lacks = c.in-None.ensures in
    sym (lacks_put _ c.args.start c.args.end lacks.place c.args.bytes.now (omega arith) (inl (omega arith)) lacks.none)

pub returns-in-None-between : goal.returns-in-None-between
returns-in-None-between c =
    let lacks = c.in-None-between.ensures in
    sym (lacks_put _ c.args.start c.args.end lacks.place c.args.bytes.now (omega arith) (inr (omega arith)) lacks.none)

pub returns : goal.returns
returns c =
    let front = c.in-Some.front.now in
    let back = c.in-Some-between.back.now in
    rw (c.from_vec.ensures, c.in_ok-extend_from_slice-3.ensures.items, c.in_ok-extend_from_slice-2.ensures.items, c.in_ok-extend_from_slice.ensures.items, c.in_ok-made.ensures.items, append_assoc front (take c.min-count.result c.args.bytes.now) back)
    (sym (below_is _ c.args.end _ (made_between _ c.args.start c.args.bytes.now c.args.end c.min-first.result c.min-count.result front back c.min-first.ensures c.min-count.ensures c.in-Some.ensures c.in-Some-between.ensures)))
