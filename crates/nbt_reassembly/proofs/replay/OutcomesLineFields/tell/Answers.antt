use Rattle.nbt_reassembly.proofs.Common.{on_ok_weaker}
use Rattle.nbt_reassembly.proofs.OutcomeLemmas.{outcome_told}
use Rattle.nbt_reassembly.proofs.replay.OutcomesLineFields.tell.Goals as goal

pub returns : goal.returns
returns g c =
    let law = c.fields_are_members.ensures in record {
      told = on_ok_weaker c.tell_line.result
          (outcome_told g.S.Sink.after c.args.said.now c.args.self.now.member c.tell_line.new.member _ _ law.dropped law.passed law.results)
          c.tell_line.ensures.told;
    }
