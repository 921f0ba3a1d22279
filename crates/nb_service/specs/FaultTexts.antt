-- The texts of faults (our choice): which name is wrong, where one is, what is wrong, and the place, where there is one.
use Rattle.std.specs.Prelude.{ℕ, List, [], ◌++◌, codes, Option, Some, None}
use Rattle.nb_names.specs.FaultTexts.{name_fault_place, name_fault_words, place_text}
use Rattle.nb_service.specs.declared.fault.PushFault.{PushFault}
use Rattle.nb_service.specs.declared.fault.PushFault.TheVariants as pushing
use Rattle.nb_service.specs.declared.fault.RecordFault.{RecordFault}
use Rattle.nb_service.specs.declared.fault.RecordFault.TheVariants as making
use Rattle.nb_service.specs.declared.fault.ServiceFault.{ServiceFault}
use Rattle.nb_service.specs.declared.fault.ServiceFault.TheVariants.{Truncated, Name, NameRdata, NoMemory}

-- which name is wrong in bytes that could not be decoded
abbrev pub service_fault_subject : ServiceFault → List ℕ
service_fault_subject (Truncated at) = []
service_fault_subject (Name fault) = codes "name: "
service_fault_subject (NameRdata at) = []
service_fault_subject NoMemory = []

-- what is wrong
abbrev pub service_fault_words : ServiceFault → List ℕ
service_fault_words (Truncated at) = codes "truncated"
service_fault_words (Name fault) = name_fault_words fault
service_fault_words (NameRdata at) = codes "name rdata"
service_fault_words NoMemory = codes "memory"

-- its place
abbrev pub service_fault_place : ServiceFault → Option ℕ
service_fault_place (Truncated at) = Some at
service_fault_place (Name fault) = Some (name_fault_place fault)
service_fault_place (NameRdata at) = Some at
service_fault_place NoMemory = None

-- what is reported of them
abbrev pub service_fault_text : ServiceFault → List ℕ
service_fault_text fault = service_fault_subject fault ++ (service_fault_words fault ++ place_text (service_fault_place fault))

-- what is reported of a record that could not be made
abbrev pub record_fault_text : RecordFault → List ℕ
record_fault_text making.KindIsNs = codes "the kind is NS"
record_fault_text making.TooLong = codes "too long"

-- what is reported of an item that could not be added to a packet
abbrev pub push_fault_text : PushFault → List ℕ
push_fault_text pushing.TooMany = codes "too many"
push_fault_text pushing.NoMemory = codes "memory"
