-- Packets that words name, from what the calls that make them answer.
use Rattle.nb_building.proofs.Common.{◌≡◌, ℕ, Bool, List, [], ◌∷◌, map, ap, ap₂, ◌∙◌, refl, Result, Ok, Err, ◌<◌, ◌+◌, ◌++◌, length, get_or, take, sym, append_assoc, IfOk, codes, DataText, NetbiosName, labels_of_name, IsText, ResourceData, ResourceRecord, record_of, ServicePacket, IsServiceBuilt, IsSessionBuilt, NamesDatagrams, NamesService, NamesSession, NumberText, WordText, response, HasRdata, response_packet, with_flag, of_service, of_session, GiveTooMuch, append-nil, take_more, IN, IsPacket, AreLinesOf, payload_line, payload_lines}
use Rattle.nb_service.specs.Requests.{packet_of}
use Rattle.nb_service.specs.Encoding as service
use Rattle.nb_session.specs.Packet as session

-- what is answered where a packet was made and encoded
packet_of_ok : {E : Type 0} (r : Result ServicePacket E) (q p : ServicePacket) (bytes : List ℕ) → IfOk r (λ made. made ≡ q) → r ≡ Ok p
    → bytes ≡ service.packet_bytes p → bytes ≡ service.packet_bytes q
packet_of_ok r q p bytes h is e = e ∙ ap service.packet_bytes (rw is at h)

pub service_built : {E F : Type 0} (broadcast : Bool) (what word : List ℕ) (words texts : List (List ℕ)) (r : Result ServicePacket E)
    (q : ServicePacket) (out : Result (List ℕ) F) → what ≡ word → words ≡ texts → NamesService broadcast word texts q
    → IfOk r (λ made. made ≡ q) → IfOk out (λ bytes. (p : ServicePacket) × (r ≡ Ok p) × (bytes ≡ service.packet_bytes p))
    → IfOk out (IsServiceBuilt broadcast what words)
service_built broadcast what word words texts r q (Ok bytes) is_what are named made (p, is, e) =
    record { packet = q; named = rw (is_what, are) named; exact = packet_of_ok r q p bytes made is e }
service_built broadcast what word words texts r q (Err fault) is_what are named made h = tt

-- a response, whose answer has some RDATA
pub response_built : {E F : Type 0} (broadcast : Bool) (words : List (List ℕ)) (id flags kind ttl : ℕ) (name : NetbiosName)
    (bytes a b c d e f : List ℕ) (r : Result ResourceRecord E) (out : Result (List ℕ) F)
    → words ≡ a ∷ b ∷ c ∷ d ∷ e ∷ f ∷ [] → WordText id a
    → ((word : ℕ) × WordText word b × (flags ≡ with_flag word broadcast)) → IsText name c → WordText kind d
    → NumberText 4294967295 ttl e → DataText bytes f
    → IfOk r (λ made. (rdata : ResourceData) × HasRdata kind bytes rdata × (made ≡ record_of (labels_of_name name) kind IN ttl rdata))
    → IfOk out (λ encoded. (made : ResourceRecord) × (r ≡ Ok made)
    × (encoded ≡ service.packet_bytes (packet_of id flags [] (made ∷ []) [] [])))
    → IfOk out (IsServiceBuilt broadcast (codes "response") words)
response_built broadcast words id flags kind ttl name bytes a b c d e f r (Ok encoded) are is_id is_flags is_name is_kind is_ttl is_data answer (made, is, exact) =
    let h = rw is at answer in
    record {
      packet = response_packet id (with_flag is_flags.0 broadcast) name kind ttl h.0;
      named = rw are (response id is_flags.0 kind ttl name bytes h.0 a b c d e f is_id is_flags.1 is_name is_kind is_ttl is_data h.1);
      exact = exact ∙ ap₂ (λ w x. service.packet_bytes (packet_of id w [] (x ∷ []) [] [])) is_flags.2 h.2;
    }
response_built broadcast words id flags kind ttl name bytes a b c d e f r (Err fault) are is_id is_flags is_name is_kind is_ttl is_data answer h = tt

pub session_built : {F : Type 0} (what word : List ℕ) (words texts : List (List ℕ)) (packet : session.Packet) (out : Result (List ℕ) F)
    → what ≡ word → words ≡ texts → NamesSession word texts packet → IfOk out (IsPacket packet) → IfOk out (IsSessionBuilt what words)
session_built what word words texts packet (Ok bytes) is_what are named h =
    record { packet = packet; named = rw (is_what, are) named; exact = h }
session_built what word words texts packet (Err fault) is_what are named h = tt

-- a packet without arguments
pub bare_built : {A F : Type 0} (f : A → List ℕ) (what word : List ℕ) (words : List A) (packet : session.Packet) (out : Result (List ℕ) F)
    → what ≡ word → NamesSession word [] packet → IfOk out (λ bytes. (words ≡ []) × IsPacket packet bytes)
    → IfOk out (IsSessionBuilt what (map f words))
bare_built f what word words packet (Ok bytes) is_what named (none, h) =
    record { packet = packet; named = rw (is_what, none) named; exact = h }
bare_built f what word words packet (Err fault) is_what named h = tt

-- the pieces of a datagram, which were cut
pub fragments_named : {F : Type 0} (P : Type 0) (what word : List ℕ) (words texts q : List (List ℕ)) (out : Result (List (List ℕ)) F)
    → what ≡ word → words ≡ texts → (P → NamesDatagrams word texts q) → IfOk out (λ payloads. P × (payloads ≡ q))
    → IfOk out (NamesDatagrams what words)
fragments_named P what word words texts q (Ok payloads) is_what are named (cut, is) = rw (is_what, are, is) (named cut)
fragments_named P what word words texts q (Err fault) is_what are named h = tt

pub datagrams_named : (what word : List ℕ) (words texts q payloads : List (List ℕ)) → what ≡ word → words ≡ texts → NamesDatagrams word texts q
    → payloads ≡ q → NamesDatagrams what words payloads
datagrams_named what word words texts q payloads is_what are named is = rw (is_what, are, is) named

-- words that give too much, one by one
pub too_much : (what word : List ℕ) (words texts : List (List ℕ)) → what ≡ word → words ≡ texts → GiveTooMuch word texts → GiveTooMuch what words
too_much what word words texts is_what are much = rw (is_what, are) much

-- ---- what printing the lines of payloads keeps from turn to turn

pub service_lines : (broadcast : Bool) (what : List ℕ) (words : List (List ℕ)) (payload bytes : List ℕ)
    → IsServiceBuilt broadcast what words payload → bytes ≡ payload_lines 137 (payload ∷ []) → AreLinesOf broadcast what words bytes
service_lines broadcast what words payload bytes built is =
    record { port = 137; payloads = payload ∷ []; named = of_service payload built; lines = is }

pub session_lines : (broadcast : Bool) (what : List ℕ) (words : List (List ℕ)) (payload bytes : List ℕ)
    → IsSessionBuilt what words payload → bytes ≡ payload_lines 139 (payload ∷ []) → AreLinesOf broadcast what words bytes
session_lines broadcast what words payload bytes built is =
    record { port = 139; payloads = payload ∷ []; named = of_session payload built; lines = is }

lines-append : (port : ℕ) (xs ys : List (List ℕ)) → payload_lines port (xs ++ ys) ≡ payload_lines port xs ++ payload_lines port ys
lines-append port [] ys = refl
lines-append port (x ∷ xs) ys =
    ap (λ l. payload_line port x ++ l) (lines-append port xs ys) ∙ sym (append_assoc (payload_line port x) (payload_lines port xs) (payload_lines port ys))

-- a turn that added a line
pub lines_more : (port : ℕ) (payloads : List (List ℕ)) (i : ℕ) (d payload old new : List ℕ) → i < length payloads
    → payload ≡ get_or payloads i d → old ≡ payload_lines port (take i payloads) → new ≡ old ++ payload_line port payload
    → new ≡ payload_lines port (take (i + 1) payloads)
lines_more port payloads i d payload old new lt is before grown =
    grown ∙ ap₂ (λ (a b : List ℕ). a ++ b) before (ap (payload_line port) is ∙ sym (append-nil (payload_line port (get_or payloads i d))))
    ∙ sym (lines-append port (take i payloads) (get_or payloads i d ∷ []))
    ∙ ap (payload_lines port) (sym (take_more payloads i d lt))
