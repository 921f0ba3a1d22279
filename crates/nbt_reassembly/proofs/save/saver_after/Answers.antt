use Rattle.nbt_reassembly.proofs.Common.{err_from_is_err_and}
use Rattle.nbt_reassembly.proofs.SavingTurns.{stops_saving, took_input}
use Rattle.nbt_reassembly.proofs.save.saver_after.Goals as goal

pub returns-clause-took : goal.returns-clause-took
returns-clause-took g c =
    took_input c.args.capacity c.args.most _ _ c.args.input.now.counts c.take_lines.new.reader.counts _ _ _ c.in_ok-take_lines.ensures.taken
    (cc (c.new-2.ensures, c.settings_with.ensures, c.new.ensures))

pub returns-in_err-take_lines-clause-stops : goal.returns-in_err-take_lines-clause-stops
returns-in_err-take_lines-clause-stops g c =
    let p = err_from_is_err_and c.from_residual.result c.from_residual.ensures.1 in
    rw (p.1, p.2) (stops_saving c.args.capacity c.args.most _ _ c.args.input.now.counts c.take_lines.new.reader.counts _ _ _ c.in_err-take_lines.ensures.taken
    (cc (c.new-2.ensures, c.settings_with.ensures, c.new.ensures)))
