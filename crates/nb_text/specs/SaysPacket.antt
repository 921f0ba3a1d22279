-- The phrase of a payload: of the packet that it begins with, or of its fault (our choice).
use Rattle.std.specs.Prelude.{◌≡◌, ℕ, String, string_bytes, List, ◌++◌, length, OnOk, Result}
use Rattle.nb_streams.specs.declared.bytes.NoMemory.{NoMemory}
use Rattle.nb_streams.specs.Growth.{OnlyAdds}
use Rattle.nb_text.specs.Made.{Made, IsMade}
use Rattle.nb_text.specs.Said.{datagram_refused_said, datagram_said, follow_said, parsed_said, phrase}
use Rattle.nb_text.specs.ServiceSaid.{service_refused_said, service_said}

-- phrases size: the phrase of each thing that a payload of this size may begin with
abbrev pub phrases : ℕ → Made (List ℕ)
phrases size = record {
  of_names = λ packet used. phrase (service_said packet ++ follow_said used size);
  of_no_names = λ fault. phrase (service_refused_said fault);
  of_datagram = λ packet used. phrase (datagram_said packet ++ follow_said used size);
  of_no_datagram = λ fault. phrase (datagram_refused_said fault);
  of_session = λ parsed. phrase (parsed_said parsed size);
}

-- IsSaid payload port text: this is the phrase of a payload that came to the port
abbrev pub IsSaid : List ℕ → ℕ → List ℕ → Type 0
IsSaid payload = IsMade (phrases (length payload)) payload

-- AddsSaid payload port old new: after the old text the payload's phrase was added
pub record AddsSaid (payload : List ℕ) (port : ℕ) (old new : List ℕ) : Type 0 where
  pub text : List ℕ
  pub said : IsSaid payload port text
  pub added : new ≡ old ++ text

-- AddsPhrase result payload port old new: where memory sufficed, the payload's phrase was added to a text; what stood in it is
-- its front anyway
abbrev pub AddsPhrase : {A Z : Type 0} → Result A NoMemory → List ℕ → ℕ → String Z → String Z → Type 0
AddsPhrase result payload port old new =
    OnOk result (AddsSaid payload port (string_bytes old) (string_bytes new)) × OnlyAdds (string_bytes old) (string_bytes new)
