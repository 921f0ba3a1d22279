-- The texts of faults (our choice): which name is wrong, where one is, what is wrong, and the place, where there is one.
use Rattle.std.specs.Prelude.{ℕ, List, [], ◌++◌, codes, Option, Some, None}
use Rattle.nb_names.specs.FaultTexts.{name_fault_place, name_fault_words, place_text}
use Rattle.nb_datagram.specs.declared.fault.DatagramFault.{DatagramFault}
use Rattle.nb_datagram.specs.declared.fault.DatagramFault.TheVariants.{Truncated, UnknownType, SourceName, DestinationName}
use Rattle.nb_datagram.specs.declared.fault.CutFault.{CutFault}
use Rattle.nb_datagram.specs.declared.fault.CutFault.TheVariants as cuts
use Rattle.std.specs.Fmt.{decimal}
use Rattle.nb_streams.specs.Addresses.{address_text}
use Rattle.nb_streams.specs.Hexadecimal.{word_text}
use Rattle.nb_datagram.specs.declared.key.Key.{Key}
use Rattle.nb_datagram.specs.declared.key.Kind.{Kind}
use Rattle.nb_datagram.specs.declared.key.Kind.TheVariants.{Unique, Group, Broadcast}

-- which name is wrong in bytes that could not be decoded
abbrev pub datagram_fault_subject : DatagramFault → List ℕ
datagram_fault_subject (Truncated at) = []
datagram_fault_subject UnknownType = []
datagram_fault_subject (SourceName fault) = codes "source name: "
datagram_fault_subject (DestinationName fault) = codes "destination name: "

-- what is wrong
abbrev pub datagram_fault_words : DatagramFault → List ℕ
datagram_fault_words (Truncated at) = codes "truncated"
datagram_fault_words UnknownType = codes "unknown type"
datagram_fault_words (SourceName fault) = name_fault_words fault
datagram_fault_words (DestinationName fault) = name_fault_words fault

-- its place
abbrev pub datagram_fault_place : DatagramFault → Option ℕ
datagram_fault_place (Truncated at) = Some at
datagram_fault_place UnknownType = None
datagram_fault_place (SourceName fault) = Some (name_fault_place fault)
datagram_fault_place (DestinationName fault) = Some (name_fault_place fault)

-- what is reported of them
abbrev pub datagram_fault_text : DatagramFault → List ℕ
datagram_fault_text fault = datagram_fault_subject fault ++ (datagram_fault_words fault ++ place_text (datagram_fault_place fault))

-- what is reported of a datagram that isn't cut
abbrev pub cut_fault_text : CutFault → List ℕ
cut_fault_text cuts.ZeroPiece = codes "zero piece"
cut_fault_text cuts.TooLong = codes "too long"
cut_fault_text cuts.NoMemory = codes "memory"

-- ---- the texts of keys and kinds (our choice)

-- a key: the address, the port in decimal, and the identifier as four hexadecimal digits
abbrev pub key_text : Key → List ℕ
key_text k = address_text k.ip ++ (codes ":" ++ (decimal k.port ++ (codes "/" ++ word_text k.id)))

-- the word for a kind
abbrev pub kind_text : Kind → List ℕ
kind_text Unique = codes "unique"
kind_text Group = codes "group"
kind_text Broadcast = codes "broadcast"
