-- What a packet of port 137 is about, and what its records tell.
use Rattle.std.proofs.Common.{◌≡◌, ◌⊎◌, inl, inr, ℕ, ◌+◌, ◌<◌, Bool, true, false, List, [], ◌∷◌, ◌++◌, length, refl, sym, ap, ap₂, subst, ◌∙◌, arith, Option, None, Some, min, take, map}
use Rattle.std.specs.Option.{is_some, option_or}
use Rattle.nb_service.specs.declared.record.Question.{Question}
use Rattle.nb_service.specs.declared.record.Fields.{Fields}
use Rattle.nb_service.specs.declared.limits.TheConstants.{HEADER_LENGTH}
use Rattle.nb_service.specs.declared.seen.Seen.{Seen}
use Rattle.nb_service.specs.Code.Steps.{RowOf}
use Rattle.nb_service.specs.Items.{SeesQuestion, SeesRecord}
use Rattle.nb_service.specs.Header.{PacketHeader}
use Rattle.nb_service.specs.Packet.{Row, more, QuestionAt, RecordAt, ServicePacket, IsPacket, header_of, records_of, RdataAt, bytes_there, domain_there}
use Rattle.std.proofs.lemmas.List.{length-append, append_assoc, append-nil, map-append}
use Rattle.nb_service.specs.Record.{ResourceRecord, ResourceData, of_bytes, of_domain}
use Rattle.nb_service.specs.declared.kinds.TheConstants.{NBSTAT, NS}
use Rattle.nb_text.specs.declared.brief.form.Ending.{Ending}
use Rattle.nb_text.specs.declared.brief.gist.Gist.{Gist}
use Rattle.nb_text.specs.Forms.{PhraseForm, form_of, is_type, says}
use Rattle.nb_text.specs.Said.{said_after}
use Rattle.nb_text.specs.ServiceSaid.{About, IsAbout, about_first, ending_said, name_said, said_of, gist_of, type_of, few, first, server_in}
use Rattle.nb_text.specs.Views.{flags_by, listed_by, units_by}
use Rattle.std.specs.List.{flat_map, slice_get}
use Rattle.std.proofs.lemmas.Grind.{flat_map-append}
use Rattle.nb_text.specs.declared.brief.gist.Few.{Few}
use Rattle.nb_text.specs.declared.brief.gist.Listed.{Listed}
use Rattle.nb_text.proofs.WalkLemmas.{take_one_more}

-- one question more
pub about_more : (bytes : List ℕ) (before : List Question) (question : Question) (head : Option Seen) (seen : Seen)
    → IsAbout bytes (about_first before []) head → SeesQuestion bytes question seen
    → IsAbout bytes (about_first (before ++ question ∷ []) []) (option_or head (Some seen))
about_more bytes [] question None seen held sees = (sees.name, subst (λ (f : Fields). f.kind ≡ question.kind) (sym sees.fields) refl)
about_more bytes [] question (Some other) seen held sees = absurd held
about_more bytes (q ∷ before) question None seen held sees = absurd held
about_more bytes (q ∷ before) question (Some other) seen held sees = held

-- the questions said it, or there is no record
pub about_stays : (bytes : List ℕ) (asked : List Question) (told : List ResourceRecord) (head : Option Seen) (some : Bool) (records : ℕ)
    → IsAbout bytes (about_first asked []) head → some ≡ is_some head → (some ≡ true) ⊎ ((some ≡ false) × (records ≡ 0)) → length told ≡ records
    → IsAbout bytes (about_first asked told) head
about_stays bytes (q ∷ asked) told head some records held is either counted = held
about_stays bytes [] told (Some seen) some records held is either counted = absurd held
about_stays bytes [] [] None some records held is either counted = held
about_stays bytes [] (entry ∷ told) None some records held is (inl asks) counted = absurd (cc)
about_stays bytes [] (entry ∷ told) None some records held is (inr none) counted = absurd (omega (arith, counted, none.1))

-- a record that was seen first
pub about_record : (bytes : List ℕ) (at : ℕ) (asked : List Question) (told : List ResourceRecord) (next : ℕ) (head : Option Seen) {seen : Seen}
    → IsAbout bytes (about_first asked []) head → is_some head ≡ false → 0 < length told → Row (RecordAt bytes) at told next
    → ((entry : ResourceRecord) (after : ℕ) → RecordAt bytes at entry after → SeesRecord bytes entry seen)
    → IsAbout bytes (about_first asked told) (Some seen)
about_record bytes at asked told next (Some other) held none low row sees = absurd (cc)
about_record bytes at (q ∷ asked) told next None held none low row sees = absurd held
about_record bytes at [] [] next None held none low row sees = absurd (omega (arith, low))
about_record bytes at [] (entry ∷ told) next None held none low (more between y ys h r) sees =
    let there = sees entry between h in (there.name, subst (λ (f : Fields). f.kind ≡ entry.kind) (sym there.fields) refl)

-- the first of some records
pub record_there : (bytes : List ℕ) (at : ℕ) (told : List ResourceRecord) (next : ℕ) → 0 < length told → Row (RecordAt bytes) at told next
    → (entry : ResourceRecord) × (after : ℕ) × RecordAt bytes at entry after
record_there bytes at [] next low row = absurd (omega (arith, low))
record_there bytes at (entry ∷ told) next low (more between y ys h r) = (entry, between, h)

-- ---- the rows of a packet

module _ (bytes : List ℕ) (packet : ServicePacket) (used : ℕ) (header : PacketHeader) (is : IsPacket bytes packet used) (of : header_of packet ≡ header) where
  pub question_row : (count : ℕ) → count ≡ header.questions → RowOf (QuestionAt bytes) HEADER_LENGTH count packet.questions is.after
  question_row count same = record { row = is.questions; counted = ap (λ (h : PacketHeader). h.questions) of ∙ sym same }

  pub record_row : (count : ℕ) → count ≡ header.answers + header.authorities + header.additional → RowOf (RecordAt bytes) is.after count (records_of packet) used
  record_row count same =
      let answers = ap (λ (h : PacketHeader). h.answers) of in
      let authorities = ap (λ (h : PacketHeader). h.authorities) of in
      let additional = ap (λ (h : PacketHeader). h.additional) of in
      record {
        row = is.records;
        counted = omega (
          arith,
          same,
          answers,
          authorities,
          additional,
          length-append packet.answers (packet.authorities ++ packet.additional),
          length-append packet.authorities packet.additional,
        );
      }

-- ---- the phrase of a packet, added in parts

pub parts_added : (word : ℕ) (about : Option About) (kind : Option ℕ) (status : Bool) (records : List ResourceRecord) (opening : List ℕ) (ending : Ending) (told : Gist)
    (old begun named new : List ℕ)
    → kind ≡ type_of about → status ≡ is_type kind NBSTAT → told ≡ gist_of status records → says opening ending ≡ form_of word kind
    → begun ≡ old ++ opening → named ≡ begun ++ name_said about → new ≡ said_after named (ending_said ending word told)
    → new ≡ said_after old (said_of word about (gist_of (is_type (type_of about) NBSTAT) records))
parts_added word about kind status records opening ending told old begun named new of asks is form_is head second last =
    last ∙ ap (λ (t : List ℕ). said_after t (ending_said ending word told)) (second ∙ ap (λ (t : List ℕ). t ++ name_said about) head)
    ∙ ap₂ (λ (f : PhraseForm) (t : Gist). said_after old (f.opening ∷ name_said about ∷ ending_said f.ending word t)) (form_is ∙ ap (form_of word) of)
    (is ∙ ap (λ (s : Bool). gist_of s records) (asks ∙ ap (λ (k : Option ℕ). is_type k NBSTAT) of))

-- ---- lists

pub first_both : {A : Type 0} (xs ys : List A) → first (xs ++ ys) ≡ option_or (first xs) (first ys)
first_both [] ys = refl
first_both (x ∷ xs) ys = refl

pub flat_more : {A B : Type 0} (f : A → List B) (xs : List A) (x : A) → flat_map f (xs ++ x ∷ []) ≡ flat_map f xs ++ f x
flat_more {A} {B} f xs x = flat_map-append f xs (x ∷ []) ∙ ap (λ (ys : List B). flat_map f xs ++ ys) (append-nil (f x))

pub first_more : {A B : Type 0} (f : A → List B) (xs : List A) (x : A) → first (flat_map f (xs ++ x ∷ [])) ≡ option_or (first (flat_map f xs)) (first (f x))
first_more f xs x = ap first (flat_more f xs x) ∙ first_both (flat_map f xs) (f x)

-- ---- what is listed

-- how many there are
pub count_more : (listed : List Listed) (x : Listed)
    → min (min (length listed) 18446744073709551615 + 1) 18446744073709551615 ≡ min (length (listed ++ x ∷ [])) 18446744073709551615
count_more listed x = omega (arith, length-append listed (x ∷ []))

-- one more of those that are listed in turn
pub listed_more : {A : Type 0} (listed : List Listed) (f : A → Listed) (xs : List A) (i : ℕ) (x : A) → slice_get xs i ≡ Some x
    → (listed ++ map f (take i xs)) ++ f x ∷ [] ≡ listed ++ map f (take (i + 1) xs)
listed_more listed f xs i x at =
    append_assoc listed (map f (take i xs)) (f x ∷ [])
    ∙ ap (λ (ys : List Listed). listed ++ ys) (sym (map-append f (take i xs) (x ∷ [])) ∙ ap (map f) (sym (take_one_more xs i x at)))

-- ---- records

-- what no record tells
pub told_none : (status : Bool) (listed : Few) → listed ≡ few []
    → record { ttl = None; flags = None; listed = listed; unit = None; server = None } ≡ gist_of status []
told_none status listed none = λ i. record { ttl = None; flags = None; listed = none i; unit = None; server = None }

-- what one record more tells, part by part
pub told_more : (status : Bool) (before : List ResourceRecord) (entry : ResourceRecord) (old new : Gist) → old ≡ gist_of status before
    → new.ttl ≡ option_or old.ttl (Some entry.ttl)
    → new.flags ≡ option_or old.flags (first (flags_by entry.kind entry.rdata))
    → ((listed : List Listed) → old.listed ≡ few listed → new.listed ≡ few (listed ++ listed_by status entry.kind entry.rdata))
    → new.unit ≡ option_or old.unit (first (units_by entry.kind entry.rdata))
    → new.server ≡ option_or old.server (first (server_in entry.rdata))
    → new ≡ gist_of status (before ++ entry ∷ [])
told_more status before entry old new is ttl flags listed unit server =
    let ttls : first (map (λ (e : ResourceRecord). e.ttl) (before ++ entry ∷ [])) ≡ option_or (first (map (λ (e : ResourceRecord). e.ttl) before)) (Some entry.ttl) =
    ap first (map-append (λ (e : ResourceRecord). e.ttl) before (entry ∷ [])) ∙ first_both (map (λ (e : ResourceRecord). e.ttl) before) (entry.ttl ∷ []) in
    let ttl_is = ttl ∙ ap (λ (t : Gist). option_or t.ttl (Some entry.ttl)) is ∙ sym ttls in
    let flags_is = flags ∙ ap (λ (t : Gist). option_or t.flags (first (flags_by entry.kind entry.rdata))) is
    ∙ sym (first_more (λ (e : ResourceRecord). flags_by e.kind e.rdata) before entry) in
    let listed_is = listed _ (ap (λ (t : Gist). t.listed) is) ∙ ap few (sym (flat_more (λ (e : ResourceRecord). listed_by status e.kind e.rdata) before entry)) in
    let unit_is = unit ∙ ap (λ (t : Gist). option_or t.unit (first (units_by entry.kind entry.rdata))) is
    ∙ sym (first_more (λ (e : ResourceRecord). units_by e.kind e.rdata) before entry) in
    let server_is = server ∙ ap (λ (t : Gist). option_or t.server (first (server_in entry.rdata))) is
    ∙ sym (first_more (λ (e : ResourceRecord). server_in e.rdata) before entry) in
    λ i. record { ttl = ttl_is i; flags = flags_is i; listed = listed_is i; unit = unit_is i; server = server_is i }

or_none : {A : Type 0} (o : Option A) → o ≡ option_or o None
or_none None = refl
or_none (Some x) = refl

pub server_first : {A : Type 0} (o : Option A) (x : A) → is_some o ≡ false → Some x ≡ option_or o (Some x)
server_first None x none = refl
server_first (Some y) x none = absurd (cc)

pub server_stays : {A : Type 0} (o : Option A) (x : A) → is_some o ≡ true → o ≡ option_or o (Some x)
server_stays None x some = absurd (cc)
server_stays (Some y) x some = refl

-- a record whose RDATA is bytes
pub told_bytes : (status : Bool) (before : List ResourceRecord) (entry : ResourceRecord) (old new : Gist) (kind : ℕ) (bytes : List ℕ) → old ≡ gist_of status before
    → kind ≡ entry.kind → of_bytes bytes ≡ entry.rdata → new.ttl ≡ option_or old.ttl (Some entry.ttl)
    → new.flags ≡ option_or old.flags (first (flags_by kind (of_bytes bytes)))
    → ((listed : List Listed) → old.listed ≡ few listed → new.listed ≡ few (listed ++ listed_by status kind (of_bytes bytes)))
    → new.unit ≡ option_or old.unit (first (units_by kind (of_bytes bytes))) → new.server ≡ old.server → new ≡ gist_of status (before ++ entry ∷ [])
told_bytes status before entry old new kind bytes is of same ttl flags listed unit server =
    told_more status before entry old new is ttl
    (flags ∙ ap₂ (λ (k : ℕ) (d : ResourceData). option_or old.flags (first (flags_by k d))) of same)
    (λ items held. listed items held ∙ ap₂ (λ (k : ℕ) (d : ResourceData). few (items ++ listed_by status k d)) of same)
    (unit ∙ ap₂ (λ (k : ℕ) (d : ResourceData). option_or old.unit (first (units_by k d))) of same)
    (server ∙ or_none old.server ∙ ap (λ (d : ResourceData). option_or old.server (first (server_in d))) same)

-- a record whose RDATA is a name
pub told_domain : (status : Bool) (before : List ResourceRecord) (entry : ResourceRecord) (old new : Gist) (labels : List (List ℕ)) → old ≡ gist_of status before
    → entry.kind ≡ NS → of_domain labels ≡ entry.rdata → new.ttl ≡ option_or old.ttl (Some entry.ttl) → new.flags ≡ old.flags → new.listed ≡ old.listed
    → new.unit ≡ old.unit → new.server ≡ option_or old.server (Some labels) → new ≡ gist_of status (before ++ entry ∷ [])
told_domain status before entry old new labels is of same ttl flags listed unit server =
    told_more status before entry old new is ttl
    (flags ∙ or_none old.flags ∙ ap₂ (λ (k : ℕ) (d : ResourceData). option_or old.flags (first (flags_by k d))) (sym of) same)
    (λ items held. listed ∙ held ∙ ap few (sym (append-nil items))
    ∙ ap₂ (λ (k : ℕ) (d : ResourceData). few (items ++ listed_by status k d)) (sym of) same)
    (unit ∙ or_none old.unit ∙ ap₂ (λ (k : ℕ) (d : ResourceData). option_or old.unit (first (units_by k d))) (sym of) same)
    (server ∙ ap (λ (d : ResourceData). option_or old.server (first (server_in d))) same)

-- RDATA that is a name is of kind NS
pub is_ns : (b : List ℕ) (at size kind : ℕ) (d : ResourceData) (labels : List (List ℕ)) → of_domain labels ≡ d → RdataAt b at size kind d → kind ≡ NS
is_ns b at size kind d labels e (bytes_there bytes other long there) = absurd (cc)
is_ns b at size kind d labels e (domain_there ls is h) = is
