use Rattle.std.proofs.Common.{[]}
use Rattle.nb_service.specs.declared.limits.TheConstants.{HEADER_LENGTH}
use Rattle.nb_service.specs.Packet.{QuestionAt}
use Rattle.nb_text.specs.ServiceSaid.{IsAbout, about_first}
use Rattle.nb_service.proofs.RowWalks.{Walk}
use Rattle.nb_text.proofs.brief.services.first_of.Given as goal

abbrev pub invariant-loop : goal.invariant-loop
invariant-loop l =
    Walk (QuestionAt l.names) HEADER_LENGTH l.questions l.counter l.next (λ asked. IsAbout l.names (about_first asked []) l.first)
