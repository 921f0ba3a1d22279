-- The texts of faults (our choice): which name is wrong, where one is, what is wrong, and the place, where there is one.
use Rattle.std.specs.Prelude.{ℕ, List, [], ◌++◌, codes, Option, Some, None}
use Rattle.nb_names.specs.FaultTexts.{name_fault_place, name_fault_words, place_text}
use Rattle.nb_session.specs.declared.fault.SessionFault.{SessionFault}
use Rattle.nb_session.specs.declared.fault.SessionFault.TheVariants.{UnknownType, ReservedFlags, BadLength, Name, TrailingBytes}

-- which name is wrong in bytes that are no session packet
abbrev pub session_fault_subject : SessionFault → List ℕ
session_fault_subject UnknownType = []
session_fault_subject ReservedFlags = []
session_fault_subject BadLength = []
session_fault_subject (Name fault) = codes "name: "
session_fault_subject (TrailingBytes at) = []

-- what is wrong
abbrev pub session_fault_words : SessionFault → List ℕ
session_fault_words UnknownType = codes "unknown type"
session_fault_words ReservedFlags = codes "reserved flags"
session_fault_words BadLength = codes "bad length"
session_fault_words (Name fault) = name_fault_words fault
session_fault_words (TrailingBytes at) = codes "trailing bytes"

-- its place
abbrev pub session_fault_place : SessionFault → Option ℕ
session_fault_place UnknownType = None
session_fault_place ReservedFlags = None
session_fault_place BadLength = None
session_fault_place (Name fault) = Some (name_fault_place fault)
session_fault_place (TrailingBytes at) = Some at

-- what is said of them
abbrev pub session_fault_text : SessionFault → List ℕ
session_fault_text fault = session_fault_subject fault ++ (session_fault_words fault ++ place_text (session_fault_place fault))
