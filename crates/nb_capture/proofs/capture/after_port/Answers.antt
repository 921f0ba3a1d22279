use Rattle.nb_capture.proofs.Common.{codes, strip_prefix_is, Decides-eqb, names, datagrams, sessions}
use Rattle.nb_capture.proofs.capture.after_port.Goals as goal

pub returns-in-Some : goal.returns-in-Some
returns-in-Some c =
    (codes "137", names, rw c.in-Some.is at (strip_prefix_is Decides-eqb c.args.line.now (codes "137 ") _ c.strip_prefix.ensures.cases))

pub returns-in-Some-strip_prefix : goal.returns-in-Some-strip_prefix
returns-in-Some-strip_prefix c =
    (codes "138", datagrams, rw c.in-Some-strip_prefix.is at (strip_prefix_is Decides-eqb c.args.line.now (codes "138 ") _ c.strip_prefix-2.ensures.cases))

pub returns-in-Some-strip_prefix-2 : goal.returns-in-Some-strip_prefix-2
returns-in-Some-strip_prefix-2 c =
    (codes "139", sessions, rw c.in-Some-strip_prefix-2.is at (strip_prefix_is Decides-eqb c.args.line.now (codes "139 ") _ c.strip_prefix-3.ensures.cases))
