use Rattle.nb_member.proofs.ReplayLemmas.LineReports.{MembersKnown}
use Rattle.nb_member.proofs.ReplayLemmas.LinesInRow.{replayed}
use Rattle.nb_member.proofs.laws.a_report_is_of_events.Goals as goal

pub returns : goal.returns
returns c =
    let known : MembersKnown = record {
      says = c.a_member_does_what_is_said.ensures.says;
      does = c.a_member_does_what_is_said.ensures.does;
      clock = c.a_member_drops_what_the_clock_ends.ensures;
    } in
    replayed known
