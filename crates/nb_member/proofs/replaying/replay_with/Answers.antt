use Rattle.std.proofs.Common.{rules}
use Rattle.nb_member.proofs.ReplayLemmas.ReplayEnds.{bytes_keep, replays_bytes}
use Rattle.nb_member.proofs.replaying.replay_with.Goals as goal

pub returns-clause-replays : goal.returns-clause-replays
returns-clause-replays g c =
    replays_bytes c.a_printed_report_is_a_replay.ensures _ _ _ _ c.args.reader.now.counts c.print_lines.new.reader.counts _ _ _ _ _ c.print_lines.result (search rules) c.print_lines.ensures.printed

pub returns-clause-settings : goal.returns-clause-settings
returns-clause-settings g c =
    let kept = (bytes_keep _ _ _ _ c.args.reader.now.counts c.print_lines.new.reader.counts _ _ _ _ c.print_lines.result c.print_lines.ensures.printed).0 in search rules

pub returns-clause-names : goal.returns-clause-names
returns-clause-names g c =
    let kept = (bytes_keep _ _ _ _ c.args.reader.now.counts c.print_lines.new.reader.counts _ _ _ _ c.print_lines.result c.print_lines.ensures.printed).1 in search rules
