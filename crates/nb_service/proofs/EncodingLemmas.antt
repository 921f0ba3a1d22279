-- The bytes of a packet are read as that packet, whatever follows them.
use Rattle.std.proofs.Common.{◌≡◌, ℕ, ◌+◌, ◌<◌, ◌≤◌, ◌^◌, Bool, true, false, if◌then◌else◌, List, [], ◌∷◌, ◌++◌, length, take, refl, ap, sym, subst, ◌∙◌, arith, length-append, get_or}
use Rattle.std.proofs.lemmas.Grind.{common_steps}
use Rattle.std.proofs.lemmas.List.{flat_map_more, take_more, take_at}
use Rattle.std.specs.Int.{w16, w32, to_be_bytes}
use Rattle.std.specs.List.{AllByRecursion, flat_map}
use Rattle.nb_names.specs.declared.reading.Pointers.TheVariants.{Followed}
use Rattle.nb_names.specs.DomainName.{spelling, domain_eq, IsDomain}
use Rattle.nb_streams.specs.Places.{StandsAt}
use Rattle.nb_names.specs.Labels.{pointer_bytes, NameAt, leads_to}
use Rattle.nb_service.specs.declared.limits.TheConstants.{HEADER_LENGTH}
use Rattle.nb_service.specs.declared.record.Question.{Question}
use Rattle.nb_service.specs.Header.{PacketHeader, HasHeader}
use Rattle.nb_service.specs.Record.{ResourceData, of_bytes, of_domain, ResourceRecord, IsRdataOf}
use Rattle.nb_service.specs.Packet.{QuestionAt, RdataAt, bytes_there, domain_there, RecordAt, Row, none, more, ServicePacket, header_of, records_of, IsPacket}
use Rattle.nb_service.specs.Encoding.{header_bytes, question_bytes, name_bytes, rdata_bytes, record_bytes, packet_bytes, IsQuestion, IsNamedData, IsRecord, IsWritable}
use Rattle.nb_streams.specs.PacketFacts.{stands_fits}
use Rattle.nb_names.specs.NameFacts.{domain_eq_decides}
use Rattle.nb_names.proofs.LabelsLemmas.{stands_before, stands_behind, spelled_stands}

-- ---- names

-- FirstAt b low questions: the first question's name stands after the header, below `low`
abbrev pub FirstAt : List ℕ → ℕ → List Question → Type 0
FirstAt b low [] = Unit {0}
FirstAt b low (q ∷ qs) = (HEADER_LENGTH < low) × NameAt b Followed HEADER_LENGTH q.name (HEADER_LENGTH + length (spelling q.name))

name_chosen : (b : List ℕ) (at : ℕ) (first ls : List (List ℕ)) (t : Bool) → HEADER_LENGTH < at → NameAt b Followed HEADER_LENGTH first (HEADER_LENGTH + length (spelling first)) →
    IsDomain ls → domain_eq first ls ≡ t → StandsAt b at (if t then pointer_bytes HEADER_LENGTH else spelling ls) →
    NameAt b Followed at ls (at + length (if t then pointer_bytes HEADER_LENGTH else spelling ls))
name_chosen b at first ls true low named e is h =
    leads_to HEADER_LENGTH (HEADER_LENGTH + length (spelling first)) refl (record { fits = omega arith; bytes = h }) low
    (subst (λ (ms : List (List ℕ)). NameAt b Followed HEADER_LENGTH ms (HEADER_LENGTH + length (spelling first))) ((domain_eq_decides first ls).0 is) named)
name_chosen b at first ls false low named e is h = spelled_stands b Followed at at ls e h

pub name_there : (b : List ℕ) (low at : ℕ) (qs : List Question) (ls : List (List ℕ)) → low ≤ at → FirstAt b low qs → IsDomain ls →
    StandsAt b at (name_bytes qs ls) → NameAt b Followed at ls (at + length (name_bytes qs ls))
name_there b low at [] ls le f d h = spelled_stands b Followed at at ls d h
name_there b low at (q ∷ qs) [] le f d h = spelled_stands b Followed at at [] d h
name_there b low at (q ∷ qs) (l ∷ ls) le f d h =
    name_chosen b at q.name (l ∷ ls) (domain_eq q.name (l ∷ ls)) (omega (arith, f.0, le)) f.1 d refl h

-- ---- questions and records

pub question_there : (b : List ℕ) (at : ℕ) (q : Question) → IsQuestion q → StandsAt b at (question_bytes q) → QuestionAt b at q (at + length (question_bytes q))
question_there b at q d h =
    let after : ℕ = at + length (spelling q.name) in
    let rest = stands_behind b at (spelling q.name) (to_be_bytes w16 q.kind ++ to_be_bytes w16 q.class) h in
    record {
      after = after;
      name = spelled_stands b Followed at at q.name d.name (stands_before b at (spelling q.name) (to_be_bytes w16 q.kind ++ to_be_bytes w16 q.class) h);
      kind = record { fits = d.kind; bytes = stands_before b after (to_be_bytes w16 q.kind) (to_be_bytes w16 q.class) rest };
      class = record { fits = d.class; bytes = stands_behind b after (to_be_bytes w16 q.kind) (to_be_bytes w16 q.class) rest };
      end = omega (arith, length-append (spelling q.name) (to_be_bytes w16 q.kind ++ to_be_bytes w16 q.class));
    }

data_there : (b : List ℕ) (at kind : ℕ) (d : ResourceData) → IsRdataOf kind d → IsNamedData d → StandsAt b at (rdata_bytes d) → RdataAt b at (length (rdata_bytes d)) kind d
data_there b at kind (of_bytes xs) i n h = bytes_there xs i.0 refl h
data_there b at kind (of_domain ls) i n h = domain_there ls i (spelled_stands b Followed at at ls n h)

data_fits : (kind : ℕ) (d : ResourceData) → IsRdataOf kind d → IsNamedData d → length (rdata_bytes d) < 2 ^ 16
data_fits kind (of_bytes xs) i n = omega (arith, i.1)
data_fits kind (of_domain ls) i n = omega (arith, n.short)

pub record_there : (b : List ℕ) (low : ℕ) (qs : List Question) → FirstAt b low qs → (at : ℕ) (r : ResourceRecord) → low ≤ at → IsRecord r →
    StandsAt b at (record_bytes qs r) → RecordAt b at r (at + length (record_bytes qs r))
record_there b low qs f at r le d h =
    let name : List ℕ = name_bytes qs r.name in
    let rdata : List ℕ = rdata_bytes r.rdata in
    let sized : List ℕ = to_be_bytes w16 (length rdata) ++ rdata in
    let timed : List ℕ = to_be_bytes w32 r.ttl ++ sized in
    let classed : List ℕ = to_be_bytes w16 r.class ++ timed in
    let kinded : List ℕ = to_be_bytes w16 r.kind ++ classed in
    let after : ℕ = at + length name in
    let s1 : StandsAt b after kinded = stands_behind b at name kinded h in
    let s2 : StandsAt b (after + 2) classed = stands_behind b after (to_be_bytes w16 r.kind) classed s1 in
    let s3 : StandsAt b (after + 4) timed = subst (λ (n : ℕ). StandsAt b n timed) (omega arith) (stands_behind b (after + 2) (to_be_bytes w16 r.class) timed s2) in
    let s4 : StandsAt b (after + 8) sized = subst (λ (n : ℕ). StandsAt b n sized) (omega arith) (stands_behind b (after + 4) (to_be_bytes w32 r.ttl) sized s3) in
    let s5 : StandsAt b (after + 10) rdata = subst (λ (n : ℕ). StandsAt b n rdata) (omega arith) (stands_behind b (after + 8) (to_be_bytes w16 (length rdata)) rdata s4) in
    record {
      after = after;
      size = length rdata;
      name = name_there b low at qs r.name le f d.name (stands_before b at name kinded h);
      kind = record { fits = d.kind; bytes = stands_before b after (to_be_bytes w16 r.kind) classed s1 };
      class = record { fits = d.class; bytes = stands_before b (after + 2) (to_be_bytes w16 r.class) timed s2 };
      ttl = record { fits = d.ttl; bytes = stands_before b (after + 4) (to_be_bytes w32 r.ttl) sized s3 };
      rdlength = record { fits = data_fits r.kind r.rdata d.rdata d.named; bytes = stands_before b (after + 8) (to_be_bytes w16 (length rdata)) rdata s4 };
      whole = omega (arith, stands_fits b (after + 8) sized s4 (omega arith));
      rdata = data_there b (after + 10) r.kind r.rdata d.rdata d.named s5;
      end = omega (arith, length-append name kinded);
    }

-- ---- rows

-- items whose bytes stand one after the other make a row
pub row_there : {A : Type 0} (S : ℕ → A → ℕ → Type 0) (f : A → List ℕ) (P : A → Type 0) (b : List ℕ) (low : ℕ) →
    ((at : ℕ) (x : A) → low ≤ at → P x → StandsAt b at (f x) → S at x (at + length (f x))) →
    (at : ℕ) (xs : List A) → low ≤ at → AllByRecursion P xs → StandsAt b at (flat_map f xs) → Row S at xs (at + length (flat_map f xs))
row_there {A} S f P b low each at [] le a h =
    let same : at ≡ at + 0 = omega arith in subst (λ (n : ℕ). Row S at [] n) same none
row_there {A} S f P b low each at (x ∷ xs) le a h =
    let next : ℕ = at + length (f x) in
    let long : next + length (flat_map f xs) ≡ at + length (f x ++ flat_map f xs) = omega (arith, length-append (f x) (flat_map f xs)) in
    subst (λ (n : ℕ). Row S at (x ∷ xs) n) long
    (more next x xs (each at x le a.0 (stands_before b at (f x) (flat_map f xs) h))
    (row_there S f P b low each next xs (omega (arith, le)) a.1 (stands_behind b at (f x) (flat_map f xs) h)))

-- ---- packets

header_there : (b : List ℕ) (h : PacketHeader) → h.id < 2 ^ 16 → h.word < 2 ^ 16 → h.questions < 2 ^ 16 → h.answers < 2 ^ 16 → h.authorities < 2 ^ 16 → h.additional < 2 ^ 16 →
    StandsAt b 0 (header_bytes h) → HasHeader b h
header_there b h id word questions answers authorities additional s =
    let r5 : List ℕ = to_be_bytes w16 h.authorities ++ to_be_bytes w16 h.additional in
    let r4 : List ℕ = to_be_bytes w16 h.answers ++ r5 in
    let r3 : List ℕ = to_be_bytes w16 h.questions ++ r4 in
    let r2 : List ℕ = to_be_bytes w16 h.word ++ r3 in
    let s1 = stands_behind b 0 (to_be_bytes w16 h.id) r2 s in
    let s2 = stands_behind b 2 (to_be_bytes w16 h.word) r3 s1 in
    let s3 = stands_behind b 4 (to_be_bytes w16 h.questions) r4 s2 in
    let s4 = stands_behind b 6 (to_be_bytes w16 h.answers) r5 s3 in
    record {
      id = record { fits = id; bytes = stands_before b 0 (to_be_bytes w16 h.id) r2 s };
      word = record { fits = word; bytes = stands_before b 2 (to_be_bytes w16 h.word) r3 s1 };
      questions = record { fits = questions; bytes = stands_before b 4 (to_be_bytes w16 h.questions) r4 s2 };
      answers = record { fits = answers; bytes = stands_before b 6 (to_be_bytes w16 h.answers) r5 s3 };
      authorities = record { fits = authorities; bytes = stands_before b 8 (to_be_bytes w16 h.authorities) (to_be_bytes w16 h.additional) s4 };
      additional = record { fits = additional; bytes = stands_behind b 8 (to_be_bytes w16 h.authorities) (to_be_bytes w16 h.additional) s4 };
    }

first_at : (b : List ℕ) (qs : List Question) → AllByRecursion IsQuestion qs → StandsAt b HEADER_LENGTH (flat_map question_bytes qs) →
    FirstAt b (HEADER_LENGTH + length (flat_map question_bytes qs)) qs
first_at b [] a h = tt
first_at b (q ∷ qs) a h =
    let rest : List ℕ = to_be_bytes w16 q.kind ++ to_be_bytes w16 q.class in
    let first = stands_before b HEADER_LENGTH (question_bytes q) (flat_map question_bytes qs) h in (
      omega (arith, length-append (question_bytes q) (flat_map question_bytes qs), length-append (spelling q.name) rest),
      spelled_stands b Followed HEADER_LENGTH HEADER_LENGTH q.name a.0.name (stands_before b HEADER_LENGTH (spelling q.name) rest first),
    )

pub packet_there : (p : ServicePacket) (rest : List ℕ) → IsWritable p → IsPacket (packet_bytes p ++ rest) p (length (packet_bytes p))
packet_there p rest d =
    let b : List ℕ = packet_bytes p ++ rest in
    let front : List ℕ = header_bytes (header_of p) in
    let qs : List ℕ = flat_map question_bytes p.questions in
    let rs : List ℕ = flat_map (record_bytes p.questions) (records_of p) in
    let after : ℕ = HEADER_LENGTH + length qs in
    let whole : StandsAt b 0 (packet_bytes p) = take_at (packet_bytes p) rest (length (packet_bytes p)) refl in
    let rest_there : StandsAt b HEADER_LENGTH (qs ++ rs) = stands_behind b 0 front (qs ++ rs) whole in
    let questions : StandsAt b HEADER_LENGTH qs = stands_before b HEADER_LENGTH qs rs rest_there in
    let records : StandsAt b after rs = stands_behind b HEADER_LENGTH qs rs rest_there in
    let first = first_at b p.questions d.questions questions in
    let long : after + length rs ≡ length (packet_bytes p) = omega (arith, length-append qs rs) in
    record {
      after = after;
      header = header_there b (header_of p) d.id d.word (omega (arith, d.counted.questions)) (omega (arith, d.counted.answers)) (omega (arith, d.counted.authorities)) (omega (arith, d.counted.additional))
          (stands_before b 0 front (qs ++ rs) whole);
      questions = row_there (QuestionAt b) question_bytes IsQuestion b 0 (λ at q le i h. question_there b at q i h) HEADER_LENGTH p.questions (omega arith) d.questions questions;
      records = subst (λ (n : ℕ). Row (RecordAt b) after (records_of p) n) long
          (row_there (RecordAt b) (record_bytes p.questions) IsRecord b after (λ at r le i h. record_there b after p.questions first at r le i h) after (records_of p) (omega arith) d.records records);
    }

pub all_append : {A : Type 0} (P : A → Type 0) (xs ys : List A) → AllByRecursion P xs → AllByRecursion P ys → AllByRecursion P (xs ++ ys)
all_append P [] ys a b = b
all_append P (x ∷ xs) ys a b = (a.0, all_append P xs ys a.1 b)

one_more : {A : Type 0} (xs : List A) (i : ℕ) (x : A) → i < length xs → x ≡ get_or xs i x → take (i + 1) xs ≡ take i xs ++ x ∷ []
one_more {A} xs i x within is = take_more xs i x within ∙ ap (λ (y : A). take i xs ++ y ∷ []) (sym is)

-- a turn that wrote the next item
pub turn_written : {A : Type 0} (f : A → List ℕ) (xs : List A) (i : ℕ) (x : A) (old mid new : List ℕ) → i < length xs → x ≡ get_or xs i x
    → mid ≡ old ++ flat_map f (take i xs) → new ≡ mid ++ f x → new ≡ old ++ flat_map f (take (i + 1) xs)
turn_written {A} f xs i x old mid new within is before added =
    added ∙ ap (λ (t : List ℕ). t ++ f x) before ∙ flat_map_more f old (take i xs) x
    ∙ ap (λ (ys : List A). old ++ flat_map f ys) (sym (one_more xs i x within is))

pub turn_formed : {A : Type 0} (P : A → Type 0) (xs : List A) (i : ℕ) (x : A) → i < length xs → x ≡ get_or xs i x
    → AllByRecursion P (take i xs) → P x → AllByRecursion P (take (i + 1) xs)
turn_formed P xs i x within is before holds =
    subst (AllByRecursion P) (sym (one_more xs i x within is)) (all_append P (take i xs) (x ∷ []) before (holds, tt))

-- what is written part after part is the packet's bytes
pub packet_written : (p : ServicePacket) (qs : List Question) (us bs cs : List ResourceRecord) (empty h q u b c : List ℕ) → empty ≡ [] → h ≡ empty ++ header_bytes (header_of p)
    → q ≡ h ++ flat_map question_bytes qs → u ≡ q ++ flat_map (record_bytes qs) us → b ≡ u ++ flat_map (record_bytes qs) bs → c ≡ b ++ flat_map (record_bytes qs) cs
    → qs ≡ p.questions → us ≡ p.answers → bs ≡ p.authorities → cs ≡ p.additional → c ≡ packet_bytes p
packet_written p qs us bs cs empty h q u b c e hs is su sb sc same_q same_u same_b same_c = grind (arith, common_steps)
