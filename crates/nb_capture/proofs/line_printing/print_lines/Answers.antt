use Rattle.std.proofs.Common.{rules}
use Rattle.nb_capture.proofs.LinePrintingLemmas.{shows_input, shows_write}
use Rattle.nb_capture.proofs.line_printing.print_lines.Goals as goal

pub returns-clause-printed : goal.returns-clause-printed
returns-clause-printed g c =
    shows_input _ _ _ _ _ _ c.args.reader.now.counts c.take_lines.new.reader.counts _ _ _ _ c.take_lines.result c.take_lines.ensures.taken (search rules) (search rules)

pub returns-clause-write : goal.returns-clause-write
returns-clause-write g c =
    let t = c.take_lines.ensures.taken in
    let shows = shows_write _ _ _ _ _ _ c.args.reader.now.counts c.take_lines.new.reader.counts _ _ c.take_lines.result t.2 in search rules
