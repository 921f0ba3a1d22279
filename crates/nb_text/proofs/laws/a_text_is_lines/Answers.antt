use Rattle.nb_text.proofs.ShownLines.{shown_lines}
use Rattle.nb_text.proofs.laws.a_text_is_lines.Goals as goal

pub returns : goal.returns
returns c payload port text bytes shown = shown_lines payload port text bytes shown
