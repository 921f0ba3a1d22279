use Rattle.nbt_command.proofs.Common.{refl, err_from_is_err_and}
use Rattle.nbt_command.proofs.LineTurns.{ends_unread, ends_written}
use Rattle.nbt_command.proofs.printing_lines.print_lines.Goals as goal

pub returns-clause-printed : goal.returns-clause-printed
returns-clause-printed g c =
    let p = c.in_ok-print_lines.ensures.printed in
    (p.0, p.1, ((λ read. absurd (cc read)), (_, (_, p.2.1))))

pub returns-in_err-print_lines-clause-printed : goal.returns-in_err-print_lines-clause-printed
returns-in_err-print_lines-clause-printed g c =
    let made = err_from_is_err_and c.from_residual.result c.from_residual.ensures.1 in
    let p = c.in_err-print_lines.ensures.printed in
    rw (made.1, made.2) (p.0, p.1, ((λ read. ends_unread _ _ _ p.2.0 refl read), (_, (c.in_err-print_lines.field-0.0, refl, p.2.1))))

pub returns-in_err-print_lines-clause-why : goal.returns-in_err-print_lines-clause-why
returns-in_err-print_lines-clause-why g c =
    let made = err_from_is_err_and c.from_residual.result c.from_residual.ensures.1 in
    rw (made.1, made.2) (ends_written _ c.in_err-print_lines.field-0.0 c.args.output.now.counts c.print_lines.new.writer.counts c.in_err-print_lines.ensures.write refl)
