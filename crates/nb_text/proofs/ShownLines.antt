-- Every text is lines of words.
use Rattle.std.proofs.Common.{◌≡◌, ℕ, ◌<◌, true, List, [], ◌∷◌, ◌++◌, refl, codes, length}
use Rattle.std.specs.Fmt.{decimal}
use Rattle.std.specs.List.{flat_map, list_all}
use Rattle.nb_streams.specs.Addresses.{address_text}
use Rattle.nb_streams.specs.Places.{AreBytes}
use Rattle.nb_names.specs.DomainName.{spelling}
use Rattle.nb_names.specs.FaultTexts.{name_fault_text}
use Rattle.nb_streams.specs.Hexadecimal.{data_text, digits_of}
use Rattle.nb_names.specs.Name.{NetbiosName, IsByteName, labels_of_name}
use Rattle.nb_names.specs.NameText.{written}
use Rattle.nb_names.specs.declared.fault.NameFault.{NameFault}
use Rattle.nb_names.specs.declared.fault.NameFault.TheVariants as name_faults
use Rattle.nb_service.specs.FaultTexts.{service_fault_text}
use Rattle.nb_service.specs.declared.fault.ServiceFault.{ServiceFault}
use Rattle.nb_service.specs.declared.fault.ServiceFault.TheVariants as service
use Rattle.nb_datagram.specs.FaultTexts.{datagram_fault_text, key_text, kind_text}
use Rattle.nb_datagram.specs.Packet.{Packet}
use Rattle.nb_datagram.specs.declared.fault.DatagramFault.{DatagramFault}
use Rattle.nb_datagram.specs.declared.fault.DatagramFault.TheVariants as datagrams
use Rattle.nb_datagram.specs.declared.key.Key.{Key}
use Rattle.nb_datagram.specs.declared.packet.Packet.TheVariants.{Direct, Error, Query}
use Rattle.nb_session.specs.FaultTexts.{session_fault_text}
use Rattle.nb_session.specs.Packet.{Packet as SessionPacket, IsFormed, body_of}
use Rattle.nb_session.specs.Parsing.{Parsed, Parses, header_lacks, header_fails, body_lacks, body_fails, whole}
use Rattle.nb_session.specs.declared.fault.SessionFault.{SessionFault}
use Rattle.nb_session.specs.declared.fault.SessionFault.TheVariants as session_faults
use Rattle.nb_session.specs.declared.packet.Packet.TheVariants as sessions
use Rattle.nb_session.specs.declared.parsing.Parsed.TheVariants.{Whole, More}
use Rattle.nb_text.specs.DatagramText.{flags_text, datagram_text}
use Rattle.nb_text.specs.Fields.{AreLines}
use Rattle.nb_text.specs.SessionText.{session_text}
use Rattle.nb_text.specs.Made as shown
use Rattle.nb_text.specs.Shown.{Shown}
use Rattle.nb_text.specs.Words.{query_word}
use Rattle.nb_text.proofs.DatagramTells.{IsBytePacket, kind_word, query_is_word, stands}
use Rattle.nb_text.proofs.FieldLemmas.{is_literal, literal, digits_seen, data_word, name_word, number_word, key_word, address_word}
use Rattle.nb_text.proofs.MidLemmas.{IsMid, mid_both, mid_word, mid_words, mid_field, number_field, used_line, mid_seen, line_of, refused_line, bytes-split, spelled_name}
use Rattle.nb_text.proofs.ServiceLines.{service_lines}
use Rattle.nb_text.proofs.SessionTells.{body_stands}

-- words, and then a number
placed : (words : List (List ℕ)) (at : ℕ) → list_all is_literal words ≡ true → IsMid (flat_map (λ word. 32 ∷ word) words ++ 32 ∷ decimal at)
placed words at h = mid_both (mid_words words h) (mid_word (decimal at) (number_word at))

name_mid : (fault : NameFault) → IsMid (32 ∷ name_fault_text fault)
name_mid (name_faults.Truncated at) = placed (codes "truncated" ∷ []) at refl
name_mid (name_faults.ReservedLabel at) = placed (codes "reserved" ∷ codes "label" ∷ []) at refl
name_mid (name_faults.PointerNotAllowed at) = placed (codes "pointer" ∷ codes "not" ∷ codes "allowed" ∷ []) at refl
name_mid (name_faults.BadPointer at) = placed (codes "bad" ∷ codes "pointer" ∷ []) at refl
name_mid (name_faults.TooLong at) = placed (codes "too" ∷ codes "long" ∷ []) at refl
name_mid (name_faults.NotNetbios place) = placed (codes "not" ∷ codes "netbios" ∷ []) place refl

-- words, and then a name's fault
named : (words : List (List ℕ)) (fault : NameFault) → list_all is_literal words ≡ true
    → IsMid (flat_map (λ word. 32 ∷ word) words ++ 32 ∷ name_fault_text fault)
named words fault h = mid_both (mid_words words h) (name_mid fault)

pub service_mid : (fault : ServiceFault) → IsMid (32 ∷ service_fault_text fault)
service_mid (service.Truncated at) = placed (codes "truncated" ∷ []) at refl
service_mid (service.Name fault) = named (codes "name:" ∷ []) fault refl
service_mid (service.NameRdata at) = placed (codes "name" ∷ codes "rdata" ∷ []) at refl
service_mid service.NoMemory = mid_words (codes "memory" ∷ []) refl

pub datagram_mid : (fault : DatagramFault) → IsMid (32 ∷ datagram_fault_text fault)
datagram_mid (datagrams.Truncated at) = placed (codes "truncated" ∷ []) at refl
datagram_mid datagrams.UnknownType = mid_words (codes "unknown" ∷ codes "type" ∷ []) refl
datagram_mid (datagrams.SourceName fault) = named (codes "source" ∷ codes "name:" ∷ []) fault refl
datagram_mid (datagrams.DestinationName fault) = named (codes "destination" ∷ codes "name:" ∷ []) fault refl

pub session_mid : (fault : SessionFault) → IsMid (32 ∷ session_fault_text fault)
session_mid session_faults.UnknownType = mid_words (codes "unknown" ∷ codes "type" ∷ []) refl
session_mid session_faults.ReservedFlags = mid_words (codes "reserved" ∷ codes "flags" ∷ []) refl
session_mid session_faults.BadLength = mid_words (codes "bad" ∷ codes "length" ∷ []) refl
session_mid (session_faults.Name fault) = named (codes "name:" ∷ []) fault refl
session_mid (session_faults.TrailingBytes at) = placed (codes "trailing" ∷ codes "bytes" ∷ []) at refl

-- the flags and the key of a header of bytes
header_mid : (flags : ℕ) (key : Key) → flags < 256 → IsMid (flags_text flags key)
header_mid flags key h =
    mid_both (mid_field (codes "flags=") (digits_of flags) refl (digits_seen flags h)) (mid_field (codes "key=") (key_text key) refl (key_word key).1)

-- a name, after what it is called
name_field : (cs : List ℕ) (name : NetbiosName) → is_literal cs ≡ true → IsByteName name → IsMid (32 ∷ (cs ++ written name))
name_field cs name h is = mid_field cs (written name) h (name_word name is).1

datagram_line : (packet : Packet) (used : ℕ) → IsBytePacket packet → AreLines (datagram_text packet used)
datagram_line (Direct f) used h =
    used_line (kind_text f.kind) used (kind_word f.kind)
    (mid_both (header_mid f.flags f.key h.header.0) (mid_both (number_field (codes "offset=") f.offset refl)
    (mid_both (name_field (codes "source=") f.source refl h.source) (mid_both (name_field (codes "destination=") f.destination refl h.destination)
    (mid_field (codes "data=") (data_text f.bytes) refl (data_word f.bytes h.bytes).1)))))
datagram_line (Error e) used h =
    used_line (codes "error") used (literal (codes "error") refl)
    (mid_both (header_mid e.flags e.key h.0.0) (mid_field (codes "code=") (digits_of e.code) refl (digits_seen e.code h.1)))
datagram_line (Query q) used h =
    used_line (query_word q.kind) used (query_is_word q.kind)
    (mid_both (header_mid q.flags q.key h.0.0) (name_field (codes "destination=") q.destination refl h.1))

session_line : (packet : SessionPacket) (used : ℕ) → IsFormed packet → AreBytes (body_of packet) → AreLines (session_text (Whole packet used))
session_line (sessions.Message bytes) used formed a =
    used_line (codes "message") used (literal (codes "message") refl)
    (mid_both (number_field (codes "length=") (length bytes) refl) (mid_field (codes "data=") (data_text bytes) refl (data_word bytes a).1))
session_line (sessions.Request called calling) used formed a =
    let names = bytes-split (spelling (labels_of_name called)) (spelling (labels_of_name calling)) a in
    used_line (codes "request") used (literal (codes "request") refl)
    (mid_both (name_field (codes "called=") called refl (spelled_name called formed.0 names.0))
    (name_field (codes "calling=") calling refl (spelled_name calling formed.1 names.1)))
session_line sessions.Positive used formed a = used_line (codes "positive") used (literal (codes "positive") refl) (mid_seen [] tt)
session_line (sessions.Negative code) used formed a =
    used_line (codes "negative") used (literal (codes "negative") refl)
    (mid_field (codes "code=") (digits_of code) refl (digits_seen code a.0))
session_line (sessions.Retarget address port) used formed a =
    used_line (codes "retarget") used (literal (codes "retarget") refl)
    (mid_both (mid_field (codes "address=") (address_text address) refl (address_word address).1) (number_field (codes "port=") port refl))
session_line sessions.Keepalive used formed a = used_line (codes "keepalive") used (literal (codes "keepalive") refl) (mid_seen [] tt)

more_line : (needed : ℕ) → AreLines (session_text (More needed))
more_line needed = line_of (codes "more") (literal (codes "more") refl) (mid_word (decimal needed) (number_word needed))

pub session_lines : (payload : List ℕ) (parsed : Parsed) → AreBytes payload → Parses payload parsed → AreLines (session_text parsed)
session_lines payload _ a (header_lacks short) = more_line _
session_lines payload _ a (header_fails header fault has fails) = refused_line (session_fault_text fault) (session_mid fault)
session_lines payload _ a (body_lacks header kind has good short) = more_line _
session_lines payload _ a (body_fails header fault has good enough fails) = refused_line (session_fault_text fault) (session_mid fault)
session_lines payload _ a (whole packet used within is) = session_line packet used is.formed (body_stands payload packet used a is)

pub shown_lines : (payload : List ℕ) (port : ℕ) (text : List ℕ) → AreBytes payload → Shown payload port text → AreLines text
shown_lines payload _ _ a (shown.names packet used is) = service_lines payload packet used a is
shown_lines payload _ _ a (shown.no_names fault fails) = refused_line (service_fault_text fault) (service_mid fault)
shown_lines payload _ _ a (shown.datagram packet used is) = datagram_line packet used (stands payload packet used a is)
shown_lines payload _ _ a (shown.no_datagram fault fails) = refused_line (datagram_fault_text fault) (datagram_mid fault)
shown_lines payload _ _ a (shown.session port parsed other another parses) = session_lines payload parsed a parses
