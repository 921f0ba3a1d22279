-- The words that name a packet are all taken by it, so that words of which one isn't name none.
use Rattle.nb_building.proofs.Common.{◌≡◌, ◌≢◌, ◌⊎◌, inl, inr, ℕ, zero, suc, Bool, List, [], ◌∷◌, length, map, get_or, Option, Some, None, Result, Ok, Err, refl, sym, ap, ◌∙◌, subst, codes, w16, from_be_bytes, to_be_bytes, IfErr, IsErrAnd, length-map, AllByRecursion, ◌==◌, ServicePacket, ResourceData, NetbiosName, IsText, HasRdata, Names, NamesDatagrams, NamesService, NamesSession, WordText, IsRefused, Unnamed, query, status, registration, refresh, release, response, request, message, positive, negative, retarget, keepalive, fragments, error, queries, of_service, of_session, of_datagrams, plain, domain, true, Refused, NameAt, NS, Kind, Unique, Group, Broadcast, QueryKind, kind_text, query_word, Explains, GiveTooMuch, IsTextRefused, miscounted, no_memory, no_packet, too_long, wrong_text, wrong_word, zero_piece, AreTaken, IsFirstWrong, kinds_in, kinds_of, BuildFault, Count, Word, TooLong, Memory}
use Rattle.std.proofs.lemmas.Nat.{from_be_bytes-to_be_bytes_2}
use Rattle.std.proofs.Common.{false}
use Rattle.std.specs.Cmp.Lexicographic.{bytes_decides, pointwise}
use Rattle.nb_names.specs.NameText.{IsFaultOf}
use Rattle.nb_session.specs.Packet as session
use Rattle.nb_datagram.specs.declared.packet.QueryKind.TheVariants as query_kind
use Rattle.nb_building.specs.declared.forms.WordKind.{WordKind}
use Rattle.nb_building.proofs.UnnamedLemmas.{one_hex}

-- ---- the words of each packet

-- HasTaken what words: there is a packet of this name, and it takes the words
abbrev pub HasTaken : List ℕ → List (List ℕ) → Type 0
HasTaken what words = (kinds : List WordKind) × (kinds_of what ≡ Some kinds) × AreTaken kinds [] words

pub one_word_text : (m n : ℕ) (text : List ℕ) → WordText m text → WordText n text → m ≡ n
one_word_text m n text is_m is_n =
    sym (from_be_bytes-to_be_bytes_2 m is_m.0) ∙ ap (from_be_bytes w16) (one_hex (to_be_bytes w16 m) (to_be_bytes w16 n) text is_m.1 is_n.1)
    ∙ from_be_bytes-to_be_bytes_2 n is_n.0

-- data of a record of type NS is a name's spelling
name_of_ns : (kind : ℕ) (bytes text : List ℕ) (rdata : ResourceData) → WordText kind text → HasRdata kind bytes rdata → WordText NS text
    → (labels : List (List ℕ)) × NameAt bytes Refused 0 labels (length bytes)
name_of_ns kind bytes text _ is (plain other short) ns = absurd (other (one_word_text kind NS text is ns))
name_of_ns kind bytes text _ is (domain labels of_ns at) ns = (labels, at)

service_taken : (broadcast : Bool) (what : List ℕ) (words : List (List ℕ)) (packet : ServicePacket) → NamesService broadcast what words packet
    → HasTaken what words
service_taken broadcast _ _ _ (query id name a b is_a is_b) = (_, refl, ((id, is_a), ((name, is_b), tt)))
service_taken broadcast _ _ _ (status id name a b is_a is_b) = (_, refl, ((id, is_a), ((name, is_b), tt)))
service_taken broadcast _ _ _ (registration id ttl name entry a b c d e is_a is_b is_c is_d) =
    (_, refl, ((id, is_a), ((name, is_b), ((ttl, is_c), ((_, is_d.0), ((_, is_d.1), tt))))))
service_taken broadcast _ _ _ (refresh id ttl name entry a b c d e is_a is_b is_c is_d) =
    (_, refl, ((id, is_a), ((name, is_b), ((ttl, is_c), ((_, is_d.0), ((_, is_d.1), tt))))))
service_taken broadcast _ _ _ (release id name entry a b d e is_a is_b is_d) =
    (_, refl, ((id, is_a), ((name, is_b), ((_, is_d.0), ((_, is_d.1), tt)))))
service_taken broadcast _ _ _ (response id word kind ttl name bytes rdata a b c d e f is_a is_b is_c is_d is_e is_f has) =
    (_, refl, ((id, is_a), ((word, is_b), ((name, is_c), ((kind, is_d), ((ttl, is_e), ((bytes, is_f, name_of_ns kind bytes d rdata is_d has), tt)))))))

session_taken : (what : List ℕ) (words : List (List ℕ)) (packet : session.Packet) → NamesSession what words packet → HasTaken what words
session_taken _ _ _ (request called calling a b is_a is_b) = (_, refl, ((called, is_a), ((calling, is_b), tt)))
session_taken _ _ _ (message bytes a is_a) = (_, refl, ((bytes, is_a), tt))
session_taken _ _ _ positive = (_, refl, tt)
session_taken _ _ _ (negative code a is_a) = (_, refl, ((code, is_a), tt))
session_taken _ _ _ (retarget port address a b is_a is_b) = (_, refl, ((address, is_a), ((port, is_b), tt)))
session_taken _ _ _ keepalive = (_, refl, tt)

pub kind_form : (kind : Kind) → kinds_of (kind_text kind) ≡ kinds_of (codes "unique")
kind_form Unique = refl
kind_form Group = refl
kind_form Broadcast = refl

pub query_form : (kind : QueryKind) → kinds_of (query_word kind) ≡ kinds_of (codes "find")
query_form query_kind.Request = refl
query_form query_kind.Positive = refl
query_form query_kind.Negative = refl

datagrams_taken : (what : List ℕ) (words payloads : List (List ℕ)) → NamesDatagrams what words payloads → HasTaken what words
datagrams_taken _ _ _ (fragments d most a b c e f is_a is_b is_c is_e is_f some short fit) =
    (_, kind_form d.kind, ((_, is_a), ((_, is_b), ((_, is_c), ((_, is_e), ((most, is_f), tt))))))
datagrams_taken _ _ _ (error key code a b is_a is_b) = (_, refl, ((key, is_a), ((code, is_b), tt)))
datagrams_taken _ _ _ (queries kind key name a b is_a is_b) = (_, query_form kind, ((key, is_a), ((name, is_b), tt)))

pub names_taken : (broadcast : Bool) (what : List ℕ) (words : List (List ℕ)) (port : ℕ) (payloads : List (List ℕ))
    → Names broadcast what words port payloads → HasTaken what words
names_taken broadcast what words _ _ (of_service bytes h) = service_taken broadcast what words h.packet h.named
names_taken broadcast what words _ _ (of_session bytes h) = session_taken what words h.packet h.named
names_taken broadcast what words _ _ (of_datagrams payloads h) = datagrams_taken what words payloads h

pub question_form : (what : List ℕ) → (what ≡ codes "query") ⊎ (what ≡ codes "status") → kinds_of what ≡ kinds_of (codes "query")
question_form what (inl is) = ap kinds_of is
question_form what (inr is) = ap kinds_of is

pub claim_form : (what : List ℕ) → (what ≡ codes "registration") ⊎ (what ≡ codes "refresh") → kinds_of what ≡ kinds_of (codes "refresh")
claim_form what (inl is) = ap kinds_of is
claim_form what (inr is) = ap kinds_of is

-- ---- words that are not all taken

wrong_untaken : (kinds : List WordKind) (before words : List (List ℕ)) (place : ℕ) → IsFirstWrong kinds before words place
    → ¬ AreTaken kinds before words
wrong_untaken [] before words place wrong taken = absurd wrong
wrong_untaken (kind ∷ kinds) before [] place wrong taken = absurd wrong
wrong_untaken (kind ∷ kinds) before (word ∷ words) zero wrong taken = wrong taken.0
wrong_untaken (kind ∷ kinds) before (word ∷ words) (suc place) wrong taken =
    wrong_untaken kinds (word ∷ before) words place wrong.1 taken.1

taken_counted : (kinds : List WordKind) (before words : List (List ℕ)) → AreTaken kinds before words → length words ≡ length kinds
taken_counted [] before [] taken = refl
taken_counted [] before (word ∷ words) taken = absurd taken
taken_counted (kind ∷ kinds) before [] taken = absurd taken
taken_counted (kind ∷ kinds) before (word ∷ words) taken = ap suc (taken_counted kinds (word ∷ before) words taken.1)

one_form : (form : Option (List WordKind)) (a b : List WordKind) → form ≡ Some a → form ≡ Some b → a ≡ b
one_form form a b is_a is_b = cc (sym is_a ∙ is_b)

untaken : (what : List ℕ) (words : List (List ℕ)) (kinds : List WordKind) (place : ℕ) → kinds_of what ≡ Some kinds
    → IsFirstWrong kinds [] words place → ¬ HasTaken what words
untaken what words kinds place form wrong taken =
    wrong_untaken kinds [] words place wrong (subst (λ k. AreTaken k [] words) (one_form (kinds_of what) taken.0 kinds taken.1 form) taken.2)

explained_unnamed : {A : Type 0} (Named : A → Type 0) (what : List ℕ) (words : List (List ℕ)) (fault : BuildFault)
    → ((value : A) → Named value → HasTaken what words) → Explains Named what words fault → Unnamed Named fault
explained_unnamed Named what words _ taken (no_packet none) other value named =
    let clash = sym none ∙ (taken value named).1 in absurd (cc clash)
explained_unnamed Named what words _ taken (miscounted kinds form apart) other value named =
    let h = taken value named in
    apart (taken_counted h.0 [] words h.2 ∙ ap length (one_form (kinds_of what) h.0 kinds h.1 form))
explained_unnamed Named what words _ taken (wrong_word kinds place form wrong) other value named =
    untaken what words kinds place form wrong (taken value named)
explained_unnamed Named what words _ taken (wrong_text kinds place fault form wrong told) other value named =
    untaken what words kinds place form wrong (taken value named)
explained_unnamed Named what words _ taken (too_long none much) other value named = none value named
explained_unnamed Named what words _ taken (zero_piece none) other value named = none value named
explained_unnamed Named what words _ taken no_memory other value named = absurd (other refl)

-- what words that are refused name, of all packets
pub named_by_none : {T : Type 0} (broadcast : Bool) (what : List ℕ) (words : List (List ℕ)) (r : Result T BuildFault)
    → IfErr r (Explains (λ (packets : ℕ × List (List ℕ)). Names broadcast what words packets.0 packets.1) what words)
    → IfErr r (Unnamed (λ (packets : ℕ × List (List ℕ)). Names broadcast what words packets.0 packets.1))
named_by_none broadcast what words (Ok x) why = tt
named_by_none broadcast what words (Err fault) why =
    explained_unnamed (λ (packets : ℕ × List (List ℕ)). Names broadcast what words packets.0 packets.1) what words fault
    (λ packets. names_taken broadcast what words packets.0 packets.1) why

-- words that are refused as too long give a packet too much
pub tells_much : {T A : Type 0} (Named : A → Type 0) (what : List ℕ) (words : List (List ℕ)) (r : Result T BuildFault) → IfErr r (Explains Named what words)
    → IfErr r (λ fault. fault ≡ TooLong → GiveTooMuch what words)
tells_much Named what words (Ok x) why = tt
tells_much Named what words (Err _) (too_long none much) = λ is. much
tells_much Named what words (Err _) others = λ is. absurd (cc is)

-- the same refusal, where nothing more is named
pub explained_wider : {T A B : Type 0} (Named : A → Type 0) (Wider : B → Type 0) (what : List ℕ) (words : List (List ℕ)) (r : Result T BuildFault)
    → (((value : A) → ¬ Named value) → (value : B) → ¬ Wider value) → IfErr r (Explains Named what words) → IfErr r (Explains Wider what words)
explained_wider Named Wider what words (Ok x) none why = tt
explained_wider Named Wider what words (Err fault) none why = of_fault fault why where
  of_fault : (fault : BuildFault) → Explains Named what words fault → Explains Wider what words fault
  of_fault _ (no_packet none) = no_packet none
  of_fault _ (miscounted kinds form apart) = miscounted kinds form apart
  of_fault _ (wrong_word kinds place form wrong) = wrong_word kinds place form wrong
  of_fault _ (wrong_text kinds place fault form wrong told) = wrong_text kinds place fault form wrong told
  of_fault _ (too_long unnamed much) = too_long (none unnamed) much
  of_fault _ (zero_piece unnamed) = zero_piece (none unnamed)
  of_fault _ no_memory = no_memory

-- ---- refusals that are passed on

pub explained_word : {B : Type 0} (Named : B → Type 0) (what : List ℕ) (words texts : List (List ℕ)) (kinds : List WordKind) (place : ℕ)
    → kinds_of what ≡ Some kinds → words ≡ texts → IsFirstWrong kinds [] texts place → Explains Named what words (Word place)
explained_word Named what words texts kinds place form are wrong = wrong_word kinds place form (subst (λ l. IsFirstWrong kinds [] l place) (sym are) wrong)

pub refused_at : {T A B : Type 0} (Named : B → Type 0) (P : A → Type 0) (what : List ℕ) (words texts : List (List ℕ)) (kinds : List WordKind)
    (place : ℕ) (fault : BuildFault) (r : Result T BuildFault) → kinds_of what ≡ Some kinds → words ≡ texts
    → IsErrAnd r (λ made. made ≡ fault) → IsRefused place P fault
    → (¬ ((value : A) × P value) → IsFirstWrong kinds [] texts place) → IfErr r (Explains Named what words)
refused_at Named P what words texts kinds place fault (Ok x) form are h refused wrong = tt
refused_at Named P what words texts kinds place fault (Err made) form are h (inl memory) wrong = rw (h ∙ memory) no_memory
refused_at Named P what words texts kinds place fault (Err made) form are h (inr none) wrong =
    rw (h ∙ none.0) (explained_word Named what words texts kinds place form are (wrong (λ x. none.1 x.0 x.1)))

pub text_refused_at : {T B : Type 0} (Named : B → Type 0) (what : List ℕ) (words texts : List (List ℕ)) (kinds : List WordKind)
    (place : ℕ) (fault : BuildFault) (r : Result T BuildFault) → kinds_of what ≡ Some kinds → words ≡ texts
    → IsErrAnd r (λ made. made ≡ fault) → IsTextRefused place (get_or texts place []) fault
    → (¬ ((name : NetbiosName) × IsText name (get_or texts place [])) → IsFirstWrong kinds [] texts place) → IfErr r (Explains Named what words)
text_refused_at Named what words texts kinds place fault (Ok x) form are h told wrong = tt
text_refused_at Named what words texts kinds place fault (Err made) form are h told wrong =
    rw (h ∙ told.is) (wrong_text kinds place told.of form
    (subst (λ l. IsFirstWrong kinds [] l place) (sym are) (wrong (λ x. told.none x.0 x.1)))
    (subst (λ l. IsFaultOf (get_or l place []) told.of) (sym are) told.told))

pub memory_passed_on : {T B : Type 0} (Named : B → Type 0) (what : List ℕ) (words : List (List ℕ)) (r : Result T BuildFault)
    → IsErrAnd r (λ made. made ≡ Memory) → IfErr r (Explains Named what words)
memory_passed_on Named what words (Ok x) h = tt
memory_passed_on Named what words (Err fault) h = rw h no_memory

pub only_memory : {T B : Type 0} (Named : B → Type 0) (what : List ℕ) (words : List (List ℕ)) (r : Result T BuildFault)
    → IfErr r (λ fault. fault ≡ Memory) → IfErr r (Explains Named what words)
only_memory Named what words (Ok x) h = tt
only_memory Named what words (Err fault) h = rw h no_memory

-- another number of words
pub other_count : {A B : Type 0} (Named : B → Type 0) (f : A → List ℕ) (what : List ℕ) (words : List A) (kinds : List WordKind)
    → kinds_of what ≡ Some kinds → ¬ (length words ≡ length kinds) → Explains Named what (map f words) Count
other_count Named f what words kinds form other = miscounted kinds form (λ is. other (sym (length-map words f) ∙ is))

-- ---- packets that aren't there

differ : (a b : List ℕ) → a ≢ b → pointwise ◌==◌ b a ≡ false
differ a b other = of_test (pointwise ◌==◌ b a) refl where
  of_test : (test : Bool) → pointwise ◌==◌ b a ≡ test → test ≡ false
  of_test true is = absurd (other (sym ((bytes_decides b a).0 is)))
  of_test false is = refl

pub no_form : (forms : List (List ℕ × List WordKind)) (what : List ℕ) → AllByRecursion (λ form. what ≢ form.0) forms → kinds_in forms what ≡ None
no_form [] what all = refl
no_form (form ∷ forms) what all = rw (differ what form.0 all.0) (no_form forms what all.1)
