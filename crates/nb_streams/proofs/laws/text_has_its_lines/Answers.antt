use Rattle.nb_streams.specs.LineFacts.{any_lines, same_lines}
use Rattle.nb_streams.proofs.LineLawLemmas.{joined}
use Rattle.nb_streams.proofs.laws.text_has_its_lines.Goals as goal

pub returns-clause-lines : goal.returns-clause-lines
returns-clause-lines c = any_lines

pub returns-clause-one : goal.returns-clause-one
returns-clause-one c = same_lines

pub returns-clause-joined : goal.returns-clause-joined
returns-clause-joined c = joined
