-- The fields of a payload: of the packet that it begins with, or of its fault (our choice).
use Rattle.std.specs.Prelude.{◌≡◌, ℕ, List, fold}
use Rattle.nb_service.specs.declared.fault.ServiceFault.{ServiceFault}
use Rattle.nb_service.specs.FaultTexts.{service_fault_place, service_fault_text}
use Rattle.nb_datagram.specs.FaultTexts.{datagram_fault_place, datagram_fault_text}
use Rattle.nb_telling.specs.Telling.{Field}
use Rattle.nb_telling.specs.Tokens.{object_of}
use Rattle.nb_text.specs.Fields.{refused_fields}
use Rattle.nb_text.specs.Made.{Made, IsMade}
use Rattle.nb_text.specs.ServiceFields.{service_fields}
use Rattle.nb_text.specs.DatagramFields.{datagram_fields}
use Rattle.nb_text.specs.SessionFields.{session_fields}

-- the fields of a payload of port 137 that begins with no packet
abbrev pub no_service_fields : ServiceFault → List Field
no_service_fields fault = refused_fields (service_fault_text fault) (service_fault_place fault)

-- the fields of each thing that a payload may begin with
abbrev pub fields_made : Made (List Field)
fields_made = record {
  of_names = service_fields;
  of_no_names = no_service_fields;
  of_datagram = datagram_fields;
  of_no_datagram = λ fault. refused_fields (datagram_fault_text fault) (datagram_fault_place fault);
  of_session = session_fields;
}

-- Tells payload port fields: these are the fields of a payload that came to the port
abbrev pub Tells : List ℕ → ℕ → List Field → Type 0
Tells = IsMade fields_made

-- IsTold after payload port old new: what is seen after the payload's fields were told, where this was seen before
pub record IsTold {A : Type 0} (after : A → Field → A) (payload : List ℕ) (port : ℕ) (old new : A) : Type 0 where
  pub fields : List Field
  pub tells : Tells payload port fields
  pub seen : new ≡ fold after old fields

-- IsObject payload port bytes: the bytes are the JSON object whose members are the payload's fields
pub record IsObject (payload : List ℕ) (port : ℕ) (bytes : List ℕ) : Type 0 where
  pub fields : List Field
  pub tells : Tells payload port fields
  pub is : bytes ≡ object_of fields
