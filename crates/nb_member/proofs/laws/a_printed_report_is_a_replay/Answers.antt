use Rattle.nb_member.proofs.ReplayLemmas.ReplayEnds.{replays}
use Rattle.nb_member.proofs.laws.a_printed_report_is_a_replay.Goals as goal

pub returns : goal.returns
returns c = replays c.a_report_is_of_events.ensures
