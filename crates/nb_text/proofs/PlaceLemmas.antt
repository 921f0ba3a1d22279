-- The places of faults are the numbers with which their texts end.
use Rattle.std.proofs.Common.{ℕ, List, ◌++◌, ◌∷◌, Some, refl, sym, append_assoc}
use Rattle.std.specs.Fmt.{decimal}
use Rattle.nb_names.specs.FaultTexts.{place_text}
use Rattle.nb_service.specs.declared.fault.ServiceFault.{ServiceFault}
use Rattle.nb_service.specs.declared.fault.ServiceFault.TheVariants as services
use Rattle.nb_service.specs.FaultTexts.{service_fault_place, service_fault_subject, service_fault_text, service_fault_words}
use Rattle.nb_datagram.specs.declared.fault.DatagramFault.{DatagramFault}
use Rattle.nb_datagram.specs.declared.fault.DatagramFault.TheVariants as datagrams
use Rattle.nb_datagram.specs.FaultTexts.{datagram_fault_place, datagram_fault_subject, datagram_fault_text, datagram_fault_words}
use Rattle.nb_session.specs.declared.fault.SessionFault.{SessionFault}
use Rattle.nb_session.specs.declared.fault.SessionFault.TheVariants as sessions
use Rattle.nb_session.specs.FaultTexts.{session_fault_place, session_fault_subject, session_fault_text, session_fault_words}
use Rattle.nb_text.specs.FaultEnds.{EndsIn, IsPlaceIn}

-- a text of a fault that has a place
placed : (subject words : List ℕ) (at : ℕ) → EndsIn (subject ++ (words ++ place_text (Some at))) at
placed subject words at = (subject ++ words, sym (append_assoc subject words (32 ∷ decimal at)))

pub service_place_ends : (fault : ServiceFault) → IsPlaceIn (service_fault_place fault) (service_fault_text fault)
service_place_ends services.NoMemory = refl
service_place_ends fault = placed (service_fault_subject fault) (service_fault_words fault) _

pub datagram_place_ends : (fault : DatagramFault) → IsPlaceIn (datagram_fault_place fault) (datagram_fault_text fault)
datagram_place_ends datagrams.UnknownType = refl
datagram_place_ends fault = placed (datagram_fault_subject fault) (datagram_fault_words fault) _

pub session_place_ends : (fault : SessionFault) → IsPlaceIn (session_fault_place fault) (session_fault_text fault)
session_place_ends sessions.UnknownType = refl
session_place_ends sessions.ReservedFlags = refl
session_place_ends sessions.BadLength = refl
session_place_ends fault = placed (session_fault_subject fault) (session_fault_words fault) _
