use Rattle.nbt_reassembly.proofs.Common.{true, false, refl, inl, inr, err_from_is_err_and, Keeps-same}
use Rattle.nbt_reassembly.proofs.ReplayingTurns.{not_cut, not_written, replays_events, unread_cut}
use Rattle.nbt_command.specs.Shared.LineLemmas.{shows_capture}
use Rattle.nbt_reassembly.proofs.replay.run_replay.Goals as goal

pub returns-in_err-member : goal.returns-in_err-member
returns-in_err-member g c =
    let p = err_from_is_err_and c.from_residual.result c.from_residual.ensures.1 in
    let why = c.in_err-member.ensures.fault in
    rw (p.1, p.2) (record {
      text = λ text. inr (why, Keeps-same _, Keeps-same _);
      events = λ text. inr (why, Keeps-same _, Keeps-same _);
      json = λ json. inr (why, Keeps-same _, Keeps-same _);
      cut = λ read. absurd (not_cut _ _ _ why read);
      why = λ write. absurd (not_written _ _ _ why write);
    })

pub returns-then-is_given : goal.returns-then-is_given
returns-then-is_given g c = record {
  text = λ text. absurd (cc (c.is_given.ensures false text, c.if-is_given.true));
  events = λ text. absurd (cc (c.is_given.ensures false text, c.if-is_given.true));
  json = λ json. inl (record {
    member = c.in_ok-member.member;
    begins = c.in_ok-member.ensures.made;
    tells = shows_capture _ _ _ _ _ c.options_of-options.result _ _ _ _ _ _ _ c.new-objects.ensures c.options_of-options.ensures c.print_lines.ensures.printed;
  });
  cut = unread_cut _ _ _ _ c.args.input.now.counts c.print_lines.new.input.counts _ c.print_lines.result c.options_of-options.ensures.limited c.print_lines.ensures.printed.1 c.print_lines.ensures.printed.2.0;
  why = c.print_lines.ensures.why;
}

pub returns : goal.returns
returns g c = record {
  text = λ text. inl (record {
    member = c.in_ok-member.member;
    begins = c.in_ok-member.ensures.made;
    tells = shows_capture _ _ _ _ _ c.options_of-options.result _ _ _ _ _ _ _ refl c.options_of-options.ensures c.print_lines-2.ensures.printed;
  });
  events = λ text. inl (replays_events c.a_printed_report_is_a_replay.ensures _ _ _ c.options_of-options.result _ c.in_ok-member.ensures.made c.options_of-options.ensures _
      c.print_lines-2.ensures.printed.1 _ c.print_lines-2.ensures.printed.2.1.1);
  json = λ json. absurd (cc (c.is_given.ensures true json, c.if-is_given.false));
  cut = unread_cut _ _ _ _ c.args.input.now.counts c.print_lines-2.new.input.counts _ c.print_lines-2.result c.options_of-options.ensures.limited c.print_lines-2.ensures.printed.1 c.print_lines-2.ensures.printed.2.0;
  why = c.print_lines-2.ensures.why;
}
