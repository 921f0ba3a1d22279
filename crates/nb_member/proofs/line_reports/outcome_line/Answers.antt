use Rattle.nb_member.proofs.Common.{◌≡◌, ◌++◌, ◌∷◌, [], string_bytes, rules}
use Rattle.std.specs.Fmt.{decimal}
use Rattle.nb_capture.specs.Capture.{space}
use Rattle.nb_member.proofs.ReplayLemmas.LineReports.{line_made}
use Rattle.nb_member.proofs.line_reports.outcome_line.Goals as goal

pub returns-clause-written : goal.returns-clause-written
returns-clause-written c =
    let begun : string_bytes c.push_str.new.self ≡ decimal c.args.number ++ space ∷ [] = search rules in
    line_made c.args.number begun c.in_ok-tell_line.ensures.told c.in_ok-push_str-2.ensures.bytes
