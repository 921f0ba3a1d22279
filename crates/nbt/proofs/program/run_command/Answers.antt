use Rattle.nbt.proofs.Common.{Keeps-same}
use Rattle.nbt.proofs.EndedLemmas.{called, ended_so}
use Rattle.nbt_command.specs.Streams.{streams}
use Rattle.nbt.specs.Commands.{name, show, build, replay, save, merge, list, agree, other}
use Rattle.nbt.proofs.program.run_command.Goals as goal

pub returns-in_default-clause-ran : goal.returns-in_default-clause-ran
returns-in_default-clause-ran g c = other c.in_default.ensures.unknown (Keeps-same _) (Keeps-same _)

pub returns-in-Name-clause-ran : goal.returns-in-Name-clause-ran
returns-in-Name-clause-ran g c = ended_so _ (streams g.R.Read.remaining g.W.Write.contents c.args.input.now c.args.input.now c.args.output.now c.run_name.new.output) _ _ c.done.ensures
    (name _ _ (called _ _ _ _ c.in-Some.ensures.found c.in-Name.is) (record { spelling = c.run_name.ensures.spelling; name = c.run_name.ensures.name; why = c.run_name.ensures.why }))

pub returns-in-Show-clause-ran : goal.returns-in-Show-clause-ran
returns-in-Show-clause-ran g c = ended_so _ _ _ _ c.done-in-Show.ensures
    (show _ _ (called _ _ _ _ c.in-Some.ensures.found c.in-Show.is) c.run_show.ensures)

pub returns-in-Build-clause-ran : goal.returns-in-Build-clause-ran
returns-in-Build-clause-ran g c = ended_so _ (streams g.R.Read.remaining g.W.Write.contents c.args.input.now c.args.input.now c.args.output.now c.run_build.new.output) _ _ c.done-in-Build.ensures
    (build _ _ (called _ _ _ _ c.in-Some.ensures.found c.in-Build.is) (record { printed = c.run_build.ensures.printed; write = c.run_build.ensures.write; err = c.run_build.ensures.err; why = c.run_build.ensures.why }))

pub returns-in-Replay-clause-ran : goal.returns-in-Replay-clause-ran
returns-in-Replay-clause-ran g c = ended_so _ _ _ _ c.done-in-Replay.ensures
    (replay _ _ (called _ _ _ _ c.in-Some.ensures.found c.in-Replay.is) c.run_replay.ensures)

pub returns-in-Save-clause-ran : goal.returns-in-Save-clause-ran
returns-in-Save-clause-ran g c = ended_so _ _ _ _ c.saved.ensures.outcome
    (save _ _ (called _ _ _ _ c.in-Some.ensures.found c.in-Save.is) c.run_save.ensures)

pub returns-in-Merge-clause-ran : goal.returns-in-Merge-clause-ran
returns-in-Merge-clause-ran g c = ended_so _ _ _ _ c.done-in-Merge.ensures
    (merge _ _ (called _ _ _ _ c.in-Some.ensures.found c.in-Merge.is) c.run_merge.ensures)

pub returns-in-List-clause-ran : goal.returns-in-List-clause-ran
returns-in-List-clause-ran g c = ended_so _ _ _ _ c.done-in-List.ensures
    (list _ _ (called _ _ _ _ c.in-Some.ensures.found c.in-List.is) c.run_list.ensures)

pub returns-in-Agree-clause-ran : goal.returns-in-Agree-clause-ran
returns-in-Agree-clause-ran g c = agree _ _ (called _ _ _ _ c.in-Some.ensures.found c.in-Agree.is) c.run_agree.ensures
