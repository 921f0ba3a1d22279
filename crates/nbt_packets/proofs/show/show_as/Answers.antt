use Rattle.nbt_packets.proofs.Common.{true, false, refl}
use Rattle.nbt_command.specs.Shared.LineLemmas.{shows_capture}
use Rattle.nbt_packets.proofs.show.show_as.Goals as goal

pub returns-then-is_given : goal.returns-then-is_given
returns-then-is_given g c =
    record {
      text = λ text. absurd (cc (c.is_given.ensures false text, c.if-is_given.true));
      json = λ json. shows_capture _ _ _ _ _ c.options_of-options.result _ _ _ _ _ _ _ c.new.ensures c.options_of-options.ensures c.print_lines.ensures.printed;
      why = c.print_lines.ensures.why;
    }

pub returns : goal.returns
returns g c =
    record {
      text = λ text. shows_capture _ _ _ _ _ c.options_of-options.result _ _ _ _ _ _ _ refl c.options_of-options.ensures c.print_lines-2.ensures.printed;
      json = λ json. absurd (cc (c.is_given.ensures true json, c.if-is_given.false));
      why = c.print_lines-2.ensures.why;
    }
