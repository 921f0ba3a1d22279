use Rattle.std.proofs.Common.{sym}
use Rattle.nb_service.specs.Parts.{length-parts}
use Rattle.nb_service.proofs.parts.Parts.len.Goals as goal

pub returns : goal.returns
returns g c = rw (← c.self.view_is, c.LENGTH.ensures) (sym (length-parts g.P.Part.LENGTH g.P.Part.read _ _))
