-- The text of a payload: of the packet that it begins with, or of its fault (our choice).
use Rattle.std.specs.Prelude.{◌≡◌, ℕ, List, ◌++◌}
use Rattle.nb_service.specs.FaultTexts.{service_fault_text}
use Rattle.nb_datagram.specs.FaultTexts.{datagram_fault_text}
use Rattle.nb_text.specs.Lines.{refused_text}
use Rattle.nb_text.specs.Made.{Made, IsMade}
use Rattle.nb_text.specs.ServiceText.{service_text}
use Rattle.nb_text.specs.DatagramText.{datagram_text}
use Rattle.nb_text.specs.SessionText.{session_text}

-- the text of each thing that a payload may begin with
abbrev pub texts : Made (List ℕ)
texts = record {
  of_names = service_text;
  of_no_names = λ fault. refused_text (service_fault_text fault);
  of_datagram = datagram_text;
  of_no_datagram = λ fault. refused_text (datagram_fault_text fault);
  of_session = session_text;
}

-- Shown payload port text: this is the text of a payload that came to the port
abbrev pub Shown : List ℕ → ℕ → List ℕ → Type 0
Shown = IsMade texts

-- AddsShown payload port old new: after the old text the payload's text was added
pub record AddsShown (payload : List ℕ) (port : ℕ) (old new : List ℕ) : Type 0 where
  pub text : List ℕ
  pub shown : Shown payload port text
  pub added : new ≡ old ++ text
