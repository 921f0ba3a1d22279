-- Items of a packet by their numbers, and lists of them.
use Rattle.std.proofs.Common.{◌≡◌, ◌<◌, ◌≤◌, inl, inr, ℕ, ◌+◌, List, [], ◌∷◌, ◌++◌, length, map, take, drop, zero, suc, refl, ap, sym, subst, ◌∙◌, arith, length-append, length-drop}
use Rattle.std.proofs.lemmas.Bool.{cases_lt}
use Rattle.std.proofs.lemmas.List.{length-map, length-take-le}
use Rattle.nb_service.specs.declared.record.Extent.{Extent}
use Rattle.nb_service.specs.declared.fault.ServiceFault.{ServiceFault}
use Rattle.nb_service.specs.declared.limits.TheConstants.{HEADER_LENGTH}
use Rattle.nb_service.specs.declared.record.Question.{Question}
use Rattle.nb_service.specs.declared.packet.Section.{Section}
use Rattle.nb_service.specs.declared.packet.Section.TheVariants.{Answer, Authority, Additional}
use Rattle.nb_service.specs.Header.{PacketHeader, HasHeader}
use Rattle.nb_service.specs.Items.{PacketItem, asked, told, IsRecordOf, ItemAt, question_there, record_there, ItemFails, question_fails, record_fails, IsExtent, ItemsAt, no_item, one_more, HasItems, items_of}
use Rattle.nb_service.specs.Record.{ResourceRecord}
use Rattle.nb_service.specs.Code.Steps.{RowOf}
use Rattle.nb_service.specs.Packet.{QuestionAt, RecordAt, Row, none, more, ServicePacket, header_of, IsPacket}
use Rattle.nb_service.specs.ServiceFaults.{item_count, PacketFails, cut_header, in_questions, in_records}
use Rattle.nb_service.proofs.ItemLemmas.{one_question, question_no_fault, one_question_fault, one_record, record_no_fault, one_record_fault, one_begin}
use Rattle.nb_service.proofs.PacketLemmas.{one_header, header_within}
use Rattle.nb_service.proofs.SectionLemmas.{sections}

-- ---- sections by number

pub record_late : (h : PacketHeader) (k : ℕ) (s : Section) → IsRecordOf h k s → h.questions ≤ k
record_late h k Answer is = is.0
record_late h k Authority is = omega (arith, is.0)
record_late h k Additional is = omega (arith, is.0)

pub record_counted : (h : PacketHeader) (k : ℕ) (s : Section) → IsRecordOf h k s → k < item_count h
record_counted h k Answer is = omega (arith, is.1)
record_counted h k Authority is = omega (arith, is.1)
record_counted h k Additional is = omega (arith, is.1)

pub one_section : (h : PacketHeader) (k : ℕ) (s u : Section) → IsRecordOf h k s → IsRecordOf h k u → s ≡ u
one_section h k Answer Answer is are = refl
one_section h k Answer Authority is are = absurd (omega (arith, is.1, are.0))
one_section h k Answer Additional is are = absurd (omega (arith, is.1, are.0))
one_section h k Authority Answer is are = absurd (omega (arith, is.0, are.1))
one_section h k Authority Authority is are = refl
one_section h k Authority Additional is are = absurd (omega (arith, is.1, are.0))
one_section h k Additional Answer is are = absurd (omega (arith, is.0, are.1))
one_section h k Additional Authority is are = absurd (omega (arith, is.0, are.1))
one_section h k Additional Additional is are = refl

some_section : (h : PacketHeader) (k : ℕ) → h.questions ≤ k → k < item_count h → (s : Section) × IsRecordOf h k s
some_section h k late few = elim (cases_lt k (h.questions + h.answers)) [
  | inl low ↦ (Answer, (late, low))
  | inr past ↦ elim (cases_lt k (h.questions + h.answers + h.authorities)) [
    | inl low ↦ (Authority, (past, low))
    | inr beyond ↦ (Additional, (beyond, omega (arith, few)))
  ]
]

-- ---- one item

pub one_item : (b : List ℕ) (h : PacketHeader) (k at : ℕ) (x y : PacketItem) (m n : ℕ) → ItemAt b h k at x m → ItemAt b h k at y n → (x ≡ y) × (m ≡ n)
one_item b h k at x y m n (question_there q a low s) (question_there r c few t) =
    let same = one_question b at q r a c s t in (ap asked same.0, same.1)
one_item b h k at x y m n (question_there q a low s) (record_there u e c is t) = absurd (omega (arith, record_late h k u is, low))
one_item b h k at x y m n (record_there u e a is s) (question_there q c low t) = absurd (omega (arith, record_late h k u is, low))
one_item b h k at x y m n (record_there u e a is s) (record_there v d c are t) =
    let same = one_record b at e d a c s t in (cc (one_section h k u v is are, same.0), same.1)

pub item_no_fault : (b : List ℕ) (h : PacketHeader) (k at : ℕ) (x : PacketItem) (n : ℕ) (f : ServiceFault) → ItemAt b h k at x n → ItemFails b h k at f → ⊥
item_no_fault b h k at x n f (question_there q a low s) (question_fails few t) = question_no_fault b at q a f s t
item_no_fault b h k at x n f (question_there q a low s) (record_fails late few t) = omega (arith, low, late)
item_no_fault b h k at x n f (record_there u e a is s) (question_fails few t) = omega (arith, record_late h k u is, few)
item_no_fault b h k at x n f (record_there u e a is s) (record_fails late few t) = record_no_fault b at e a f s t

pub one_item_fault : (b : List ℕ) (h : PacketHeader) (k at : ℕ) (f g : ServiceFault) → ItemFails b h k at f → ItemFails b h k at g → f ≡ g
one_item_fault b h k at f g (question_fails low s) (question_fails few t) = one_question_fault b at f g s t
one_item_fault b h k at f g (question_fails low s) (record_fails late few t) = absurd (omega (arith, low, late))
one_item_fault b h k at f g (record_fails late few s) (question_fails low t) = absurd (omega (arith, low, late))
one_item_fault b h k at f g (record_fails late few s) (record_fails after less t) = one_record_fault b at f g s t

pub item_counted : (b : List ℕ) (h : PacketHeader) (k at : ℕ) (x : PacketItem) (n : ℕ) → ItemAt b h k at x n → k < item_count h
item_counted b h k at x n (question_there q a low s) = omega (arith, low)
item_counted b h k at x n (record_there u e a is s) = record_counted h k u is

-- an item reaches so far in one way
pub one_extent : (b : List ℕ) (at : ℕ) (x : PacketItem) (e d : Extent) → IsExtent b at x e → IsExtent b at x d → e.next ≡ d.next → e ≡ d
one_extent b at (asked q) e d i j same = λ k. record { rdata = (i ∙ same ∙ sym j) k; next = same k }
one_extent b at (told s r) e d i j same =
    let one = one_begin b at r.kind i.0 e.rdata r.kind j.0 d.rdata i.1 j.1 in λ k. record { rdata = one.1 k; next = same k }

-- ---- one list of items

-- no item of this number stands at this offset
abbrev NoItem : List ℕ → PacketHeader → ℕ → ℕ → Type 0
NoItem b h k at = (x : PacketItem) (n : ℕ) → ¬ ItemAt b h k at x n

no_item_moved : (b : List ℕ) (h : PacketHeader) (j k at : ℕ) → j ≡ k → NoItem b h j at → NoItem b h k at
no_item_moved b h j k at e void = subst (λ (q : ℕ). NoItem b h q at) e void

one_list : (b : List ℕ) (h : PacketHeader) (k at m n : ℕ) (xs ys : List PacketItem) → ItemsAt b h k at xs m → ItemsAt b h k at ys n →
    NoItem b h (k + length xs) m → NoItem b h (k + length ys) n → (xs ≡ ys) × (m ≡ n)
one_list b h k at m n [] [] no_item no_item void idle = (refl, refl)
one_list b h k at m n [] (y ∷ ys) no_item (one_more c z zs i r) void idle = absurd (no_item_moved b h (k + 0) k at (omega arith) void z c i)
one_list b h k at m n (x ∷ xs) [] (one_more c z zs i r) no_item void idle = absurd (no_item_moved b h (k + 0) k at (omega arith) idle z c i)
one_list b h k at m n (x ∷ xs) (y ∷ ys) (one_more c u us i r) (one_more d v vs j t) void idle =
    let same = one_item b h k at u v c d i j in
    let rest = one_list b h (k + 1) c m n us vs r (subst (λ (z : ℕ). ItemsAt b h (k + 1) z vs n) (sym same.1) t)
    (no_item_moved b h (k + length (u ∷ us)) (k + 1 + length us) m (omega arith) void)
    (no_item_moved b h (k + length (v ∷ vs)) (k + 1 + length vs) n (omega arith) idle) in
    (cc (same.0, rest.0), rest.1)

pub one_items : (b : List ℕ) (h g : PacketHeader) (xs ys : List PacketItem) (m n : ℕ) → HasItems b h xs m → HasItems b g ys n → (h ≡ g) × (xs ≡ ys) × (m ≡ n)
one_items b h g xs ys m n x y =
    let same : h ≡ g = one_header b h g x.header_there y.header_there in
    let moved : HasItems b h ys n = subst (λ (k : PacketHeader). HasItems b k ys n) (sym same) y in
    let lists = one_list b h 0 HEADER_LENGTH m n xs ys x.items_there moved.items_there
    (no_item_moved b h (length xs) (0 + length xs) m (omega arith) x.no_further)
    (no_item_moved b h (length ys) (0 + length ys) n (omega arith) moved.no_further) in
    (same, lists.0, lists.1)

-- ---- the items of a packet

pub items-append : (b : List ℕ) (h : PacketHeader) (k at m n : ℕ) (xs ys : List PacketItem) → ItemsAt b h k at xs m → ItemsAt b h (k + length xs) m ys n → ItemsAt b h k at (xs ++ ys) n
items-append b h k at m n [] ys no_item s = subst (λ (q : ℕ). ItemsAt b h q at ys n) (omega arith) s
items-append b h k at m n (x ∷ xs) ys (one_more c y zs i r) s =
    one_more c y (zs ++ ys) i (items-append b h (k + 1) c m n zs ys r (subst (λ (q : ℕ). ItemsAt b h q m ys n) (omega arith) s))

asked_row : (b : List ℕ) (h : PacketHeader) (k at n : ℕ) (qs : List Question) → Row (QuestionAt b) at qs n → k + length qs ≤ h.questions → ItemsAt b h k at (map asked qs) n
asked_row b h k at n [] none low = no_item
asked_row b h k at n (q ∷ qs) (more c r rs i t) low =
    one_more c (asked r) (map asked rs) (question_there r c (omega (arith, low)) i) (asked_row b h (k + 1) c n rs t (omega (arith, low)))

told_row : (b : List ℕ) (h : PacketHeader) (s : Section) (k at n : ℕ) (rs : List ResourceRecord) → Row (RecordAt b) at rs n →
    ((j : ℕ) → k ≤ j → j < k + length rs → IsRecordOf h j s) → ItemsAt b h k at (map (told s) rs) n
told_row b h s k at n [] none each = no_item
told_row b h s k at n (e ∷ es) (more c d ds i t) each =
    one_more c (told s d) (map (told s) ds) (record_there s d c (each k (omega arith) (omega arith)) i)
    (told_row b h s (k + 1) c n ds t (λ j high low. each j (omega (arith, high)) (omega (arith, low))))

length-items_of : (p : ServicePacket) → length (items_of p) ≡ item_count (header_of p)
length-items_of p =
    omega (
      arith,
      length-append (map asked p.questions) (map (told Answer) p.answers ++ (map (told Authority) p.authorities ++ map (told Additional) p.additional)),
      length-append (map (told Answer) p.answers) (map (told Authority) p.authorities ++ map (told Additional) p.additional),
      length-append (map (told Authority) p.authorities) (map (told Additional) p.additional),
      length-map p.questions asked,
      length-map p.answers (told Answer),
      length-map p.authorities (told Authority),
      length-map p.additional (told Additional),
    )

items_stand : (b : List ℕ) (p : ServicePacket) (used : ℕ) → IsPacket b p used → ItemsAt b (header_of p) 0 HEADER_LENGTH (items_of p) used
items_stand b p used x =
    let s = sections b p used x in
    let h = header_of p in
    let qs : List PacketItem = map asked p.questions in
    let us : List PacketItem = map (told Answer) p.answers in
    let vs : List PacketItem = map (told Authority) p.authorities in
    let ws : List PacketItem = map (told Additional) p.additional in
    let a : length qs ≡ h.questions = length-map p.questions asked in
    let c : length us ≡ h.answers = length-map p.answers (told Answer) in
    let d : length vs ≡ h.authorities = length-map p.authorities (told Authority) in
    items-append b h 0 HEADER_LENGTH s.answers used qs (us ++ (vs ++ ws)) (asked_row b h 0 HEADER_LENGTH s.answers p.questions s.first (omega arith))
    (items-append b h (0 + length qs) s.answers s.authorities used us (vs ++ ws)
    (told_row b h Answer (0 + length qs) s.answers s.authorities p.answers s.second (λ j high low. (omega (arith, high, a), omega (arith, low, a))))
    (items-append b h (0 + length qs + length us) s.authorities s.additional used vs ws
    (told_row b h Authority (0 + length qs + length us) s.authorities s.additional p.authorities s.third (λ j high low. (omega (arith, high, a, c), omega (arith, low, a, c))))
    (told_row b h Additional (0 + length qs + length us + length vs) s.additional used p.additional s.last (λ j high low. (omega (arith, high, a, c, d), omega (arith, low, a, c, d))))))

pub packet_items : (b : List ℕ) (p : ServicePacket) (used : ℕ) → IsPacket b p used → HasItems b (header_of p) (items_of p) used
packet_items b p used x = record {
  header_there = x.header;
  items_there = items_stand b p used x;
  no_further = λ item after there. omega (arith, item_counted b (header_of p) (length (items_of p)) used item after there, length-items_of p);
}

-- ---- the items before a fault

numbered : (b : List ℕ) (h : PacketHeader) (k at n : ℕ) (rs : List ResourceRecord) → Row (RecordAt b) at rs n → h.questions ≤ k → k + length rs ≤ item_count h →
    (xs : List PacketItem) × (length xs ≡ length rs) × ItemsAt b h k at xs n
numbered b h k at n [] none late few = ([], refl, no_item)
numbered b h k at n (e ∷ es) (more c d ds i t) late few =
    let s = some_section h k late (omega (arith, few)) in
    let rest = numbered b h (k + 1) c n ds t (omega (arith, late)) (omega (arith, few)) in
    (told s.0 d ∷ rest.0, omega (arith, rest.1), one_more c (told s.0 d) rest.0 (record_there s.0 d c s.1 i) rest.2)

-- the items that stand, with the fault of the next
abbrev pub ItemsBefore : List ℕ → PacketHeader → ServiceFault → Type 0
ItemsBefore b h f = (xs : List PacketItem) × (n : ℕ) × HasItems b h xs n × ItemFails b h (length xs) n f

stopped : (b : List ℕ) (h : PacketHeader) (xs : List PacketItem) (n : ℕ) (f : ServiceFault) → HasHeader b h → ItemsAt b h 0 HEADER_LENGTH xs n → ItemFails b h (length xs) n f → ItemsBefore b h f
stopped b h xs n f there items fails = (
  xs,
  n,
  record { header_there = there; items_there = items; no_further = λ item after stands. item_no_fault b h (length xs) n item after f stands fails },
  fails,
)

pub items_before : (b : List ℕ) (h : PacketHeader) (f : ServiceFault) → HasHeader b h → PacketFails b f → ItemsBefore b h f
items_before b h f there (cut_header low) = absurd (omega (arith, header_within b h there, low))
items_before b h f there (in_questions g y r) =
    let few : g.questions ≡ h.questions = ap (λ (z : PacketHeader). z.questions) (one_header b g h y there) in
    let xs : List PacketItem = map asked r.items in
    let long : length xs ≡ length r.items = length-map r.items asked in
    stopped b h xs r.here f there (asked_row b h 0 HEADER_LENGTH r.here r.items r.before (omega (arith, r.fewer, few)))
    (question_fails (omega (arith, r.fewer, few, long)) r.fails)
items_before b h f there (in_records g qs m y before count r) =
    let same : g ≡ h = one_header b g h y there in
    let few : g.questions ≡ h.questions = ap (λ (z : PacketHeader). z.questions) same in
    let all : item_count g ≡ item_count h = ap item_count same in
    let xs : List PacketItem = map asked qs in
    let long : length xs ≡ length qs = length-map qs asked in
    let rest = numbered b h (0 + length xs) m r.here r.items r.before (omega (arith, long, count, few)) (omega (arith, long, count, few, all, r.fewer)) in
    let whole : length (xs ++ rest.0) ≡ length xs + length rest.0 = length-append xs rest.0 in
    stopped b h (xs ++ rest.0) r.here f there
    (items-append b h 0 HEADER_LENGTH m r.here xs rest.0 (asked_row b h 0 HEADER_LENGTH m qs before (omega (arith, count, few))) rest.2)
    (record_fails (omega (arith, whole, long, count, few)) (omega (arith, whole, long, count, few, all, rest.1, r.fewer)) r.fails)

-- ---- a fault after items

-- the first of some items, and the others
pub items_split : (b : List ℕ) (h : PacketHeader) (k at n m : ℕ) (xs : List PacketItem) → ItemsAt b h k at xs n → m ≤ length xs →
    (mid : ℕ) × ItemsAt b h k at (take m xs) mid × ItemsAt b h (k + m) mid (drop m xs) n
items_split b h k at n zero xs r low = (at, no_item, subst (λ (q : ℕ). ItemsAt b h q at xs n) (omega arith) r)
items_split b h k at n (suc m) [] no_item low = absurd (omega (arith, low))
items_split b h k at n (suc m) (x ∷ xs) (one_more c y ys i r) low =
    let rest = items_split b h (k + 1) c n m ys r (omega (arith, low)) in
    (rest.0, one_more c y (take m ys) i rest.1, subst (λ (q : ℕ). ItemsAt b h q rest.0 (drop m ys) n) (omega arith) rest.2)

pub asked_all : (b : List ℕ) (h : PacketHeader) (k at n : ℕ) (xs : List PacketItem) → ItemsAt b h k at xs n → k + length xs ≤ h.questions →
    (qs : List Question) × (map asked qs ≡ xs) × RowOf (QuestionAt b) at (length xs) qs n
asked_all b h k at n [] no_item low = ([], refl, record { row = none; counted = refl })
asked_all b h k at n (x ∷ xs) (one_more c y ys (question_there q d few i) r) low =
    let rest = asked_all b h (k + 1) c n ys r (omega (arith, low)) in
    (q ∷ rest.0, ap (λ (z : List PacketItem). asked q ∷ z) rest.1, record { row = more c q rest.0 i rest.2.row; counted = omega (arith, rest.2.counted) })
asked_all b h k at n (x ∷ xs) (one_more c y ys (record_there s e d is i) r) low = absurd (omega (arith, record_late h k s is, low))

records_row : (b : List ℕ) (h : PacketHeader) (k at n : ℕ) (xs : List PacketItem) → ItemsAt b h k at xs n → h.questions ≤ k →
    (rs : List ResourceRecord) × (length rs ≡ length xs) × Row (RecordAt b) at rs n
records_row b h k at n [] no_item late = ([], refl, none)
records_row b h k at n (x ∷ xs) (one_more c y ys (record_there s e d is i) r) late =
    let rest = records_row b h (k + 1) c n ys r (omega (arith, late)) in (e ∷ rest.0, omega (arith, rest.1), more c e rest.0 i rest.2)
records_row b h k at n (x ∷ xs) (one_more c y ys (question_there q d few i) r) late = absurd (omega (arith, few, late))

pub refused_after : (b : List ℕ) (h : PacketHeader) (xs : List PacketItem) (n : ℕ) (f : ServiceFault) → HasHeader b h → ItemsAt b h 0 HEADER_LENGTH xs n → ItemFails b h (length xs) n f → PacketFails b f
refused_after b h xs n f there items (question_fails low fails) =
    let qs = asked_all b h 0 HEADER_LENGTH n xs items (omega (arith, low)) in
    in_questions h there (record { items = qs.0; here = n; before = qs.2.row; fewer = omega (arith, qs.2.counted, low); fails = fails })
refused_after b h xs n f there items (record_fails late low fails) =
    let split = items_split b h 0 HEADER_LENGTH n h.questions xs items late in
    let long : length (take h.questions xs) ≡ h.questions = length-take-le h.questions xs late in
    let qs = asked_all b h 0 HEADER_LENGTH split.0 (take h.questions xs) split.1 (omega (arith, long)) in
    let rs = records_row b h (0 + h.questions) split.0 n (drop h.questions xs) split.2 (omega arith) in
    in_records h qs.0 split.0 there qs.2.row (omega (arith, qs.2.counted, long))
    (record { items = rs.0; here = n; before = rs.2; fewer = omega (arith, rs.1, length-drop h.questions xs, low, late); fails = fails })

pub ruleset item_laws = (one_item, item_counted, one_extent)

pub ruleset fault_items = (items_before, refused_after)
