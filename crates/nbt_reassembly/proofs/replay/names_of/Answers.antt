use Rattle.nbt_reassembly.proofs.Common.{err_from_is_err_and}
use Rattle.nbt_reassembly.proofs.ReplayingTurns.{no_names, names_more, name_refused}
use Rattle.nbt_reassembly.proofs.replay.names_of.Goals as goal

pub loop-word-init : goal.loop-word-init
loop-word-init c = no_names _ c.new-names.ensures

pub loop-word-preserved : goal.loop-word-preserved
loop-word-preserved c = names_more c.args.words.now c.loop-word.word-index _ _ _ c.loop-word-test.true c.loop-word.invariant c.in_ok-add_name.ensures.added

pub returns-in_err-add_name-clause-fault : goal.returns-in_err-add_name-clause-fault
returns-in_err-add_name-clause-fault c =
    let p = err_from_is_err_and c.from_residual.result c.from_residual.ensures.1 in
    rw (p.1, p.2) (name_refused c.args.words.now c.loop-word.word-index _ _ _ c.loop-word-test.true c.loop-word.invariant c.in_err-add_name.ensures.fault)
