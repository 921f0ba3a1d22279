-- Where a question or a record stands, no other does, and it has no fault.
use Rattle.std.proofs.Common.{◌≡◌, ◌≢◌, ℕ, ◌+◌, ◌<◌, List, length, take, drop, Result, Ok, Err, IsOk, IsOkAnd, refl, ap, sym, subst, ◌∙◌, arith}
use Rattle.std.specs.Int.{w16, w32}
use Rattle.nb_names.specs.declared.reading.Pointers.TheVariants.{Followed}
use Rattle.nb_names.specs.Labels.{NameAt}
use Rattle.nb_streams.specs.Places.{NumberAt}
use Rattle.nb_names.specs.Skipped.{IsSkipped}
use Rattle.nb_service.specs.declared.fault.ServiceFault.{ServiceFault}
use Rattle.nb_service.specs.declared.fault.ServiceFault.TheVariants.{Name}
use Rattle.nb_service.specs.declared.kinds.TheConstants.{NS}
use Rattle.nb_service.specs.declared.record.Question.{Question}
use Rattle.nb_service.specs.Record.{ResourceData, of_bytes, of_domain, ResourceRecord, IsRdataOf}
use Rattle.nb_service.specs.Packet.{QuestionAt, RdataAt, bytes_there, domain_there, RecordAt}
use Rattle.nb_service.specs.ServiceFaults.{QuestionFails, question_name, question_cut, RdataBegins, DomainFails, domain_name, domain_end, RecordFails, record_name, record_cut, rdata_cut, rdata_fails}
use Rattle.nb_service.specs.declared.record.Fields.{Fields}
use Rattle.nb_service.specs.declared.seen.Seen.{Seen}
use Rattle.nb_service.specs.Items.{PacketItem, asked, told, fields_of, name_of, Reaches, IsExtent, SeesQuestion, SeesRecord, Sees}
use Rattle.nb_streams.specs.PacketFacts.{stands_same, one_number_16, one_number_32, within_16}
use Rattle.nb_names.proofs.LabelsLemmas.{one_reading}
use Rattle.nb_names.proofs.FaultLemmas.{no_name, one_fault as one_name_fault}
use Rattle.nb_service.proofs.SectionLemmas.{Single}

-- ---- questions

pub one_question : (packet : List ℕ) (at : ℕ) (q r : Question) (m n : ℕ) → QuestionAt packet at q m → QuestionAt packet at r n → (q ≡ r) × (m ≡ n)
one_question packet at q r m n a b =
    let same = one_reading packet Followed at at q.name r.name a.after b.after a.name b.name in
    let kind : q.kind ≡ r.kind = one_number_16 packet a.after q.kind r.kind a.kind (subst (λ (x : ℕ). NumberAt packet x w16 r.kind) (sym same.1) b.kind) in
    let class : q.class ≡ r.class = one_number_16 packet (a.after + 2) q.class r.class a.class (subst (λ (x : ℕ). NumberAt packet (x + 2) w16 r.class) (sym same.1) b.class) in
    (λ i. record { name = same.0 i; kind = kind i; class = class i }, a.end ∙ ap (λ (x : ℕ). x + 4) same.1 ∙ sym b.end)

pub question_no_fault : (packet : List ℕ) (at : ℕ) (q : Question) (n : ℕ) (f : ServiceFault) → QuestionAt packet at q n → QuestionFails packet at f → ⊥
question_no_fault packet at q n f a (question_name g h) = no_name packet Followed at g h q.name a.after a.name
question_no_fault packet at q n f a (question_cut ls after h low) =
    omega (arith, one_reading packet Followed at at q.name ls a.after after a.name h, within_16 packet (a.after + 2) q.class a.class)

pub one_question_fault : (packet : List ℕ) (at : ℕ) (f g : ServiceFault) → QuestionFails packet at f → QuestionFails packet at g → f ≡ g
one_question_fault packet at f g (question_name x h) (question_name y i) = ap Name (one_name_fault packet Followed at x y h i)
one_question_fault packet at f g (question_name x h) (question_cut ls after i low) = absurd (no_name packet Followed at x h ls after i)
one_question_fault packet at f g (question_cut ls after h low) (question_name y i) = absurd (no_name packet Followed at y i ls after h)
one_question_fault packet at f g (question_cut ls after h low) (question_cut ms next i few) = refl

pub single_question : (packet : List ℕ) → Single (QuestionAt packet) (QuestionFails packet)
single_question packet =
    record { one = one_question packet; apart = question_no_fault packet; one_fault = one_question_fault packet }

-- ---- records

pub one_data : (packet : List ℕ) (at size kind : ℕ) (d e : ResourceData) → RdataAt packet at size kind d → RdataAt packet at size kind e → d ≡ e
one_data packet at size kind d e (bytes_there xs unlike long there) (bytes_there ys differs short stands) = ap of_bytes (stands_same packet at xs ys there stands (long ∙ sym short))
one_data packet at size kind d e (bytes_there xs unlike long there) (domain_there ls is h) = absurd (unlike is)
one_data packet at size kind d e (domain_there ls is h) (bytes_there xs unlike long there) = absurd (unlike is)
one_data packet at size kind d e (domain_there ls is h) (domain_there ms are i) = ap of_domain (one_reading packet Followed at at ls ms (at + size) (at + size) h i).0

pub one_record : (packet : List ℕ) (at : ℕ) (q r : ResourceRecord) (m n : ℕ) → RecordAt packet at q m → RecordAt packet at r n → (q ≡ r) × (m ≡ n)
one_record packet at q r m n a b =
    let same = one_reading packet Followed at at q.name r.name a.after b.after a.name b.name in
    let kind : q.kind ≡ r.kind = one_number_16 packet a.after q.kind r.kind a.kind (subst (λ (x : ℕ). NumberAt packet x w16 r.kind) (sym same.1) b.kind) in
    let class : q.class ≡ r.class = one_number_16 packet (a.after + 2) q.class r.class a.class (subst (λ (x : ℕ). NumberAt packet (x + 2) w16 r.class) (sym same.1) b.class) in
    let ttl : q.ttl ≡ r.ttl = one_number_32 packet (a.after + 4) q.ttl r.ttl a.ttl (subst (λ (x : ℕ). NumberAt packet (x + 4) w32 r.ttl) (sym same.1) b.ttl) in
    let size : a.size ≡ b.size = one_number_16 packet (a.after + 8) a.size b.size a.rdlength (subst (λ (x : ℕ). NumberAt packet (x + 8) w16 b.size) (sym same.1) b.rdlength) in
    let moved : RdataAt packet (a.after + 10) b.size r.kind r.rdata = subst (λ (x : ℕ). RdataAt packet (x + 10) b.size r.kind r.rdata) (sym same.1) b.rdata in
    let sized : RdataAt packet (a.after + 10) a.size r.kind r.rdata = subst (λ (x : ℕ). RdataAt packet (a.after + 10) x r.kind r.rdata) (sym size) moved in
    let other : RdataAt packet (a.after + 10) a.size q.kind r.rdata = subst (λ (x : ℕ). RdataAt packet (a.after + 10) a.size x r.rdata) (sym kind) sized in
    let rdata : q.rdata ≡ r.rdata = one_data packet (a.after + 10) a.size q.kind q.rdata r.rdata a.rdata other in
    (λ i. record { name = same.0 i; kind = kind i; class = class i; ttl = ttl i; rdata = rdata i }, omega (arith, a.end, b.end, same.1, size))

-- where a record's RDATA begins, and how long it is
pub record_begins : (packet : List ℕ) (at : ℕ) (r : ResourceRecord) (n kind size begin : ℕ) → (a : RecordAt packet at r n) → RdataBegins packet at kind size begin →
    (a.after + 10 ≡ begin) × (r.kind ≡ kind) × (a.size ≡ size)
record_begins packet at r n kind size begin a d =
    let same = one_reading packet Followed at at r.name d.labels a.after d.after a.name d.name in (
      omega (arith, same.1, d.begin),
      one_number_16 packet a.after r.kind kind a.kind (subst (λ (x : ℕ). NumberAt packet x w16 kind) (sym same.1) d.kind_there),
      one_number_16 packet (a.after + 8) a.size size a.rdlength (subst (λ (x : ℕ). NumberAt packet (x + 8) w16 size) (sym same.1) d.size_there),
    )

pub domain_no_fault : (packet : List ℕ) (at size kind : ℕ) (d : ResourceData) (f : ServiceFault) → RdataAt packet at size kind d → kind ≡ NS → DomainFails packet at size f → ⊥
domain_no_fault packet at size kind d f (bytes_there xs unlike long there) is h = unlike is
domain_no_fault packet at size kind d f (domain_there ls are h) is (domain_name g i) = no_name packet Followed at g i ls (at + size) h
domain_no_fault packet at size kind d f (domain_there ls are h) is (domain_end ms n i other) = other (sym (one_reading packet Followed at at ls ms (at + size) n h i).1)

pub record_no_fault : (packet : List ℕ) (at : ℕ) (r : ResourceRecord) (n : ℕ) (f : ServiceFault) → RecordAt packet at r n → RecordFails packet at f → ⊥
record_no_fault packet at r n f a (record_name g h) = no_name packet Followed at g h r.name a.after a.name
record_no_fault packet at r n f a (record_cut ls after h low) =
    omega (arith, one_reading packet Followed at at r.name ls a.after after a.name h, within_16 packet (a.after + 8) a.size a.rdlength)
record_no_fault packet at r n f a (rdata_cut kind size begin d low) =
    omega (arith, record_begins packet at r n kind size begin a d, a.whole)
record_no_fault packet at r n f a (rdata_fails size begin d fits h) =
    let same = record_begins packet at r n NS size begin a d in
    let moved : RdataAt packet begin a.size r.kind r.rdata = subst (λ (x : ℕ). RdataAt packet x a.size r.kind r.rdata) same.0 a.rdata in
    let sized : RdataAt packet begin size r.kind r.rdata = subst (λ (x : ℕ). RdataAt packet begin x r.kind r.rdata) same.2 moved in
    domain_no_fault packet begin size r.kind r.rdata f sized same.1 h

pub one_domain_fault : (packet : List ℕ) (at size : ℕ) (f g : ServiceFault) → DomainFails packet at size f → DomainFails packet at size g → f ≡ g
one_domain_fault packet at size f g (domain_name x h) (domain_name y i) = ap Name (one_name_fault packet Followed at x y h i)
one_domain_fault packet at size f g (domain_name x h) (domain_end ls n i other) = absurd (no_name packet Followed at x h ls n i)
one_domain_fault packet at size f g (domain_end ls n h other) (domain_name y i) = absurd (no_name packet Followed at y i ls n h)
one_domain_fault packet at size f g (domain_end ls n h other) (domain_end ms m i others) = refl

pub one_begin : (packet : List ℕ) (at kind size begin kind' size' begin' : ℕ) → RdataBegins packet at kind size begin → RdataBegins packet at kind' size' begin' → (size ≡ size') × (begin ≡ begin')
one_begin packet at kind size begin kind' size' begin' d e =
    let same = one_reading packet Followed at at d.labels e.labels d.after e.after d.name e.name in (
      one_number_16 packet (d.after + 8) size size' d.size_there (subst (λ (x : ℕ). NumberAt packet (x + 8) w16 size') (sym same.1) e.size_there),
      omega (arith, same.1, d.begin, e.begin),
    )

begin_uncut : (packet : List ℕ) (at kind size begin after : ℕ) (ls : List (List ℕ)) → RdataBegins packet at kind size begin → NameAt packet Followed at ls after → length packet < after + 10 → ⊥
begin_uncut packet at kind size begin after ls d h low =
    omega (arith, one_reading packet Followed at at d.labels ls d.after after d.name h, within_16 packet (d.after + 8) size d.size_there)

pub one_record_fault : (packet : List ℕ) (at : ℕ) (f g : ServiceFault) → RecordFails packet at f → RecordFails packet at g → f ≡ g
one_record_fault packet at f g (record_name x h) (record_name y i) = ap Name (one_name_fault packet Followed at x y h i)
one_record_fault packet at f g (record_name x h) (record_cut ls b i low) = absurd (no_name packet Followed at x h ls b i)
one_record_fault packet at f g (record_name x h) (rdata_cut k s b d low) = absurd (no_name packet Followed at x h d.labels d.after d.name)
one_record_fault packet at f g (record_name x h) (rdata_fails s b d fits i) = absurd (no_name packet Followed at x h d.labels d.after d.name)
one_record_fault packet at f g (record_cut ls b h low) (record_name y i) = absurd (no_name packet Followed at y i ls b h)
one_record_fault packet at f g (record_cut ls b h low) (record_cut ms c i few) = refl
one_record_fault packet at f g (record_cut ls b h low) (rdata_cut k s c d few) = refl
one_record_fault packet at f g (record_cut ls b h low) (rdata_fails s c d fits i) = absurd (begin_uncut packet at NS s c b ls d h low)
one_record_fault packet at f g (rdata_cut k s b d low) (record_name y i) = absurd (no_name packet Followed at y i d.labels d.after d.name)
one_record_fault packet at f g (rdata_cut k s b d low) (record_cut ls c i few) = refl
one_record_fault packet at f g (rdata_cut k s b d low) (rdata_cut l t c e few) = refl
one_record_fault packet at f g (rdata_cut k s b d low) (rdata_fails t c e fits i) =
    absurd (omega (arith, one_begin packet at k s b NS t c d e))
one_record_fault packet at f g (rdata_fails s b d fits h) (record_name y i) = absurd (no_name packet Followed at y i d.labels d.after d.name)
one_record_fault packet at f g (rdata_fails s b d fits h) (record_cut ls c i few) = absurd (begin_uncut packet at NS s b c ls d i few)
one_record_fault packet at f g (rdata_fails s b d fits h) (rdata_cut l t c e few) =
    absurd (omega (arith, one_begin packet at NS s b l t c d e))
one_record_fault packet at f g (rdata_fails s b d fits h) (rdata_fails t c e room i) =
    let same = one_begin packet at NS s b NS t c d e in
    let moved : DomainFails packet b t g = subst (λ (x : ℕ). DomainFails packet x t g) (sym same.1) i in
    one_domain_fault packet b s f g h (subst (λ (x : ℕ). DomainFails packet b x g) (sym same.0) moved)

pub single_record : (packet : List ℕ) → Single (RecordAt packet) (RecordFails packet)
single_record packet =
    record { one = one_record packet; apart = record_no_fault packet; one_fault = one_record_fault packet }

-- ---- what is seen of an item

-- RDATA of bytes, and of a name
pub data_bytes : (b : List ℕ) (at size kind : ℕ) (d : ResourceData) → kind ≢ NS → RdataAt b at size kind d → of_bytes (take size (drop at b)) ≡ d
data_bytes b at size kind d other (bytes_there bytes differs long there) = ap of_bytes (subst (λ (n : ℕ). take n (drop at b) ≡ bytes) long there)
data_bytes b at size kind d other (domain_there ls is h) = absurd (other is)

pub data_domain : (b : List ℕ) (at size kind : ℕ) (d : ResourceData) → kind ≡ NS → RdataAt b at size kind d →
    (ls : List (List ℕ)) × (d ≡ of_domain ls) × NameAt b Followed at ls (at + size)
data_domain b at size kind d is (bytes_there bytes differs long there) = absurd (differs is)
data_domain b at size kind d is (domain_there ls same h) = (ls, refl, h)

pub data_fits : (b : List ℕ) (at size kind : ℕ) (d : ResourceData) → size < 65536 → RdataAt b at size kind d → IsRdataOf kind d
data_fits b at size kind d low (bytes_there bytes differs long there) = (differs, omega (arith, low, long))
data_fits b at size kind d low (domain_there ls is h) = is

module _ (b : List ℕ) (e : ResourceRecord) (s : Seen) (sees : SeesRecord b e s) where
  pub seen_kind : s.fields.kind ≡ e.kind
  seen_kind = ap (λ (f : Fields). f.kind) sees.fields

  pub seen_end : s.fields.extent.next ≡ s.fields.extent.rdata + sees.stands.size
  seen_end = omega (arith, sees.stands.end, sees.begins)

  pub seen_rdata : RdataAt b s.fields.extent.rdata sees.stands.size s.fields.kind e.rdata
  seen_rdata = rw (sees.begins, seen_kind) sees.stands.rdata

  pub seen_reaches : Reaches b s.at e s.fields.extent
  seen_reaches = (
    sees.stands.size,
    record {
      labels = e.name;
      after = sees.stands.after;
      name = sees.stands.name;
      kind_there = sees.stands.kind;
      size_there = sees.stands.rdlength;
      begin = sees.begins;
    },
    seen_end,
  )

pub seen_extent : (b : List ℕ) (x : PacketItem) (s : Seen) → Sees b x s → IsExtent b s.at x s.fields.extent
seen_extent b (asked q) s sees = sees.reaches
seen_extent b (told u e) s sees = seen_reaches b e s sees

pub seen_name : (b : List ℕ) (x : PacketItem) (s : Seen) → Sees b x s → IsSkipped b Followed s.at (name_of x) s.name
seen_name b (asked q) s sees = sees.name
seen_name b (told u e) s sees = sees.name

pub seen_fields : (b : List ℕ) (x : PacketItem) (s : Seen) → Sees b x s → s.fields ≡ fields_of x s.fields.extent
seen_fields b (asked q) s sees = sees.fields
seen_fields b (told u e) s sees = sees.fields

pub same_question : (b : List ℕ) (q r : Question) (s : Seen) → q ≡ r → SeesQuestion b q s → SeesQuestion b r s
same_question b q r s e h = subst (λ (x : Question). SeesQuestion b x s) e h

pub same_record : (b : List ℕ) (q r : ResourceRecord) (s : Seen) → q ≡ r → SeesRecord b q s → SeesRecord b r s
same_record b q r s e h = subst (λ (x : ResourceRecord). SeesRecord b x s) e h

-- ---- what is read where it stands

pub read_is_ok : {T E : Type 0} (r : Result T E) (P : T → Type 0) → IsOkAnd r P → IsOk r
read_is_ok (Ok x) P h = refl
read_is_ok (Err e) P h = absurd h

pub read_is : {T E : Type 0} (r : Result T E) (P : T → Type 0) (x : T) → r ≡ Ok x → IsOkAnd r P → P x
read_is {T} {E} r P x e h = subst (λ (q : Result T E). IsOkAnd q P) e h
