-- Phrases: what was added to a text in pieces, and the phrases of packets, by what the packets' values say.
use Rattle.std.proofs.Common.{◌≡◌, ℕ, nat_lt, false, List, [], ◌∷◌, ◌++◌, refl, sym, ap, ◌∙◌, arith, ◌==◌, ◌-◌, ◌^◌, ◌<◌, Bool, true, length, codes, Some, Result, Ok, Err, ap₂, if◌then◌else◌}
use Rattle.std.specs.Prelude.{IsErrAnd, OnOk}
use Rattle.std.proofs.lemmas.Bool.Decides.{nat_tests}
use Rattle.std.proofs.lemmas.List.{append_assoc, append-nil}
use Rattle.std.proofs.lemmas.List.Sums.{fold-append}
use Rattle.nb_text.specs.Said.{follow_said, fragment_said, phrase, said_after, bytes_word, follow_word, kind_words, offset_said, parsed_said, session_said}
use Rattle.nb_text.specs.SaysPacket.{AddsSaid, IsSaid}
use Rattle.std.specs.Fmt.{decimal}
use Rattle.std.specs.Int.{w16, from_be_bytes, to_be_bytes}
use Rattle.std.proofs.lemmas.Nat.{from_be_bytes-to_be_bytes_2}
use Rattle.nb_streams.specs.Addresses.{address_text}
use Rattle.nb_names.specs.Name.{NetbiosName, IsName, labels_of_name}
use Rattle.nb_names.specs.NameText.{labels_written, written}
use Rattle.nb_datagram.specs.Fragment.{FragmentParts, has_more}
use Rattle.nb_service.specs.declared.record.Question.{Question}
use Rattle.nb_service.specs.declared.kinds.TheConstants.{NBSTAT}
use Rattle.nb_service.specs.Packet.{ServicePacket, records_of}
use Rattle.nb_service.specs.Requests.{query_packet, status_packet, registration_packet, refresh_packet, release_packet}
use Rattle.nb_session.specs.Packet.{Packet as SessionPacket}
use Rattle.nb_session.specs.declared.parsing.Parsed.TheVariants.{Whole}
use Rattle.nb_text.proofs.LabelLemmas.{name_written}
use Rattle.nb_text.specs.Forms.{form_of, is_type}
use Rattle.nb_text.specs.Sentences.{claimed, entry_for, holder, lasting, sent}
use Rattle.nb_text.specs.ServiceSaid.{about_first, ending_said, said_of, service_said, gist_of, type_of}
use Rattle.nb_text.specs.Words.{is_set}

-- a piece, and then others
pub phrase_more : (piece : List ℕ) (pieces : List (List ℕ)) → phrase (piece ∷ pieces) ≡ piece ++ phrase pieces
phrase_more piece [] = sym (append-nil piece)
phrase_more piece (next ∷ pieces) = refl

pub phrase_both : (xs ys : List (List ℕ)) → phrase (xs ++ ys) ≡ phrase xs ++ phrase ys
phrase_both [] ys = refl
phrase_both (x ∷ xs) ys =
    phrase_more x (xs ++ ys) ∙ ap (λ (t : List ℕ). x ++ t) (phrase_both xs ys) ∙ sym (append_assoc x (phrase xs) (phrase ys))
    ∙ ap (λ (t : List ℕ). t ++ phrase ys) (sym (phrase_more x xs))

-- pieces that were added to a text
pub said_phrase : (text : List ℕ) (pieces : List (List ℕ)) → said_after text pieces ≡ text ++ phrase pieces
said_phrase text [] = sym (append-nil text)
said_phrase text (piece ∷ pieces) =
    said_phrase (text ++ piece) pieces ∙ append_assoc text piece (phrase pieces) ∙ ap (λ (t : List ℕ). text ++ t) (sym (phrase_more piece pieces))

-- pieces, and then others
pub says_both : (old : List ℕ) (xs ys : List (List ℕ)) {mid new : List ℕ} → mid ≡ said_after old xs → new ≡ said_after mid ys → new ≡ said_after old (xs ++ ys)
says_both old xs ys first more = more ∙ ap (λ (t : List ℕ). said_after t ys) first ∙ sym (fold-append (λ t piece. t ++ piece) old xs ys)

-- nothing is said of a result that is an error
pub none_said : {A E : Type 0} (X : Type 0) (Q : E → Type 0) (r : Result A E) → IsErrAnd r Q → OnOk r X
none_said X Q (Ok x) h = absurd h
none_said X Q (Err e) h = tt

-- the phrase of a payload was added
pub adds : (payload : List ℕ) (port : ℕ) (pieces : List (List ℕ)) (old new : List ℕ) → IsSaid payload port (phrase pieces)
    → new ≡ said_after old pieces → AddsSaid payload port old new
adds payload port pieces old new is added = record { text = phrase pieces; said = is; added = added ∙ said_phrase old pieces }

-- ---- what follows

-- no bytes follow
pub none_follow : (pieces : List (List ℕ)) (n : ℕ) → phrase (pieces ++ follow_said n n) ≡ phrase pieces
none_follow pieces n =
    let low : nat_lt n n ≡ false = grind (arith, nat_tests) in
    ap (λ (ps : List (List ℕ)). phrase (pieces ++ ps)) (rw low refl) ∙ ap phrase (append-nil pieces)

-- ---- port 137

-- a phrase of a name, with an end or none
pub named : (lead ending : List ℕ) (name : NetbiosName) → IsName name
    → lead ++ (labels_written (labels_of_name name) ++ ending) ≡ lead ++ (written name ++ ending)
named lead ending name is = ap (λ (t : List ℕ). lead ++ (t ++ ending)) (name_written name is)

pub named_last : (lead : List ℕ) (name : NetbiosName) → IsName name → lead ++ labels_written (labels_of_name name) ≡ lead ++ written name
named_last lead name is = ap (λ (t : List ℕ). lead ++ t) (name_written name is)

-- what is said of a group, or of one node, where these are the flags
abbrev pub by_group : List ℕ → List ℕ → ℕ → List ℕ
by_group group one flags = if is_set flags (2 ^ 15) then group else one

-- a phrase of a name, its holder and an end
pub held : (lead group one ending : List ℕ) (name : NetbiosName) (flags : ℕ) → IsName name → flags < 2 ^ 16
    → lead ++ (labels_written (labels_of_name name) ++ (by_group group one (from_be_bytes w16 (to_be_bytes w16 flags)) ++ ending))
    ≡ lead ++ (written name ++ (by_group group one flags ++ ending))
held lead group one ending name flags is low =
    ap₂ (λ (t : List ℕ) (n : ℕ). lead ++ (t ++ (by_group group one n ++ ending))) (name_written name is) (from_be_bytes-to_be_bytes_2 flags low)

pub query_said : (id : ℕ) (name : NetbiosName) (broadcast : Bool) → IsName name
    → phrase (service_said (query_packet id name broadcast)) ≡ codes "asks for " ++ written name
query_said id name true is = named_last (codes "asks for ") name is
query_said id name false is = named_last (codes "asks for ") name is

pub status_said : (id : ℕ) (name : NetbiosName) (broadcast : Bool) → IsName name
    → phrase (service_said (status_packet id name broadcast)) ≡ codes "asks for the node status of " ++ written name
status_said id name true is = named_last (codes "asks for the node status of ") name is
status_said id name false is = named_last (codes "asks for the node status of ") name is

pub registration_said : (id ttl flags a b c d : ℕ) (name : NetbiosName) (broadcast : Bool) → IsName name → flags < 2 ^ 16
    → phrase (service_said (registration_packet id name broadcast ttl (entry_for flags a b c d))) ≡ codes "claims " ++ claimed name flags (a ∷ b ∷ c ∷ d ∷ []) ttl
registration_said id ttl flags a b c d name true is low = held (codes "claims ") _ _ (address_text (a ∷ b ∷ c ∷ d ∷ []) ++ lasting ttl) name flags is low
registration_said id ttl flags a b c d name false is low = held (codes "claims ") _ _ (address_text (a ∷ b ∷ c ∷ d ∷ []) ++ lasting ttl) name flags is low

pub refresh_said : (id ttl flags a b c d : ℕ) (name : NetbiosName) (broadcast : Bool) → IsName name → flags < 2 ^ 16
    → phrase (service_said (refresh_packet id name broadcast ttl (entry_for flags a b c d))) ≡ codes "refreshes " ++ claimed name flags (a ∷ b ∷ c ∷ d ∷ []) ttl
refresh_said id ttl flags a b c d name true is low = held (codes "refreshes ") _ _ (address_text (a ∷ b ∷ c ∷ d ∷ []) ++ lasting ttl) name flags is low
refresh_said id ttl flags a b c d name false is low = held (codes "refreshes ") _ _ (address_text (a ∷ b ∷ c ∷ d ∷ []) ++ lasting ttl) name flags is low

pub release_said : (id flags a b c d : ℕ) (name : NetbiosName) (broadcast : Bool) → IsName name → flags < 2 ^ 16
    → phrase (service_said (release_packet id name broadcast (entry_for flags a b c d)))
    ≡ codes "releases " ++ (written name ++ (holder flags ++ address_text (a ∷ b ∷ c ∷ d ∷ [])))
release_said id flags a b c d name true is low = held (codes "releases ") _ _ (address_text (a ∷ b ∷ c ∷ d ∷ [])) name flags is low
release_said id flags a b c d name false is low = held (codes "releases ") _ _ (address_text (a ∷ b ∷ c ∷ d ∷ [])) name flags is low

-- the phrase of a packet with a question
pub first_said : (packet : ServicePacket) (question : Question) (questions : List Question) → packet.questions ≡ question ∷ questions
    → (behind : List ℕ) × (phrase (service_said packet) ≡ (form_of packet.word (Some question.kind)).opening ++ (labels_written question.name ++ behind))
first_said packet question questions is =
    let asked = λ (qs : List Question). let about = about_first qs (records_of packet) in
    said_of packet.word about (gist_of (is_type (type_of about) NBSTAT) (records_of packet)) in
    let form = form_of packet.word (Some question.kind) in
    let rest = ending_said form.ending packet.word (gist_of (is_type (Some question.kind) NBSTAT) (records_of packet)) in (
      phrase rest,
      ap (λ (qs : List Question). phrase (asked qs)) is ∙ ap (λ (t : List ℕ). form.opening ++ t) (phrase_more (labels_written question.name) rest),
    )

-- ---- ports 138 and 139

-- a datagram, or a part of one, of which this is said besides
pub part_said : (datagram : FragmentParts) (behind : List (List ℕ)) → offset_said (has_more datagram.flags) datagram.offset ≡ behind
    → phrase (fragment_said datagram) ≡ sent datagram (phrase behind)
part_said datagram behind same =
    let front = λ (t : List ℕ). kind_words datagram.kind ++ (written datagram.source ++ (codes " to " ++ (written datagram.destination ++ (codes ", " ++ (decimal (length datagram.bytes) ++ t))))) in
    ap (λ (ps : List (List ℕ)). front (phrase (bytes_word (length datagram.bytes) ∷ ps))) same ∙ ap front (phrase_more (bytes_word (length datagram.bytes)) behind)

-- a part that others follow
pub front_place : (more : Bool) (offset : ℕ) → more ≡ true
    → offset_said more offset ≡ codes " at offset " ∷ decimal offset ∷ codes " of one that goes on" ∷ []
front_place more offset is = ap (λ (m : Bool). offset_said m offset) is

-- the last part of one
pub last_place : (more : Bool) (offset : ℕ) → more ≡ false → 0 < offset
    → offset_said more offset ≡ codes " at offset " ∷ decimal offset ∷ codes ", the last" ∷ []
last_place more offset last low =
    let some : (offset == 0) ≡ false = grind (arith, nat_tests, low) in
    ap (λ (m : Bool). offset_said m offset) last ∙ ap (λ (b : Bool). if b then [] else codes " at offset " ∷ decimal offset ∷ codes ", the last" ∷ []) some

-- a packet of a session, after which bytes follow
pub followed : (packet : SessionPacket) (used size : ℕ) → used < size
    → phrase (parsed_said (Whole packet used) size) ≡ phrase (session_said packet) ++ (codes ", " ++ (decimal (size - used) ++ follow_word (size - used)))
followed packet used size low =
    let some : nat_lt used size ≡ true = grind (arith, nat_tests, low) in
    phrase_both (session_said packet) (follow_said used size)
    ∙ ap (λ (b : Bool). phrase (session_said packet) ++ phrase (if b then codes ", " ∷ decimal (size - used) ∷ follow_word (size - used) ∷ [] else [])) some
