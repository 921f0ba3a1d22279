-- How far the items of bytes stand, section by section.
use Rattle.std.proofs.Common.{◌≡◌, ℕ, ◌+◌, ◌-◌, ◌<◌, ◌≤◌, min, List, [], ◌∷◌, ◌++◌, length, map, take, drop, Option, Some, None, refl, subst, arith, length-drop}
use Rattle.std.proofs.lemmas.List.{take-append-drop, length-take-le}
use Rattle.nb_service.specs.declared.fault.ServiceFault.{ServiceFault}
use Rattle.nb_service.specs.declared.limits.TheConstants.{HEADER_LENGTH}
use Rattle.nb_service.specs.declared.packet.Section.{Section}
use Rattle.nb_service.specs.declared.packet.Section.TheVariants.{Answer, Authority, Additional}
use Rattle.nb_service.specs.declared.seeing.Walked.{Walked}
use Rattle.nb_service.specs.Code.Steps.{RowOf}
use Rattle.nb_service.specs.Header.{PacketHeader, HasHeader}
use Rattle.nb_service.specs.Items.{PacketItem, told, IsRecordOf, ItemAt, question_there, record_there, ItemFails, question_fails, record_fails, ItemsAt, no_item, one_more, items_of, Walks, EndsWith, walked_of}
use Rattle.nb_service.specs.Packet.{QuestionAt, RecordAt, none, more, ServicePacket, header_of}
use Rattle.nb_service.specs.Record.{ResourceRecord}
use Rattle.nb_service.specs.ServiceFaults.{item_count}
use Rattle.nb_service.proofs.NumberedLemmas.{record_late, one_section, items-append, items_split, asked_all, refused_after}
use Rattle.nb_service.proofs.SectionLemmas.{row-append}

module _ (b : List ℕ) (h : PacketHeader) where
  -- one item more
  pub items_more : (at m n : ℕ) (xs : List PacketItem) (x : PacketItem) → ItemsAt b h 0 at xs m → ItemAt b h (length xs) m x n → ItemsAt b h 0 at (xs ++ x ∷ []) n
  items_more at m n xs x r i = items-append b h 0 at m n xs (x ∷ []) r (subst (λ (q : ℕ). ItemsAt b h q m (x ∷ []) n) (omega arith) (one_more n x [] i no_item))

  pub fails_counted : (k at : ℕ) (f : ServiceFault) → ItemFails b h k at f → k < item_count h
  fails_counted k at f (question_fails low fails) = omega (arith, low)
  fails_counted k at f (record_fails late low fails) = low

  -- ---- the items of a section

  told_all : (s : Section) (k at n : ℕ) (xs : List PacketItem) → ItemsAt b h k at xs n → ((j : ℕ) → k ≤ j → j < k + length xs → IsRecordOf h j s) →
      (rs : List ResourceRecord) × (map (told s) rs ≡ xs) × RowOf (RecordAt b) at (length xs) rs n
  told_all s k at n [] no_item each = ([], refl, record { row = none; counted = refl })
  told_all s k at n (x ∷ xs) (one_more c y ys (record_there u e d is i) r) each =
      let rest = told_all s (k + 1) c n ys r (λ j high low. each j (omega (arith, high)) (omega (arith, low))) in
      let same = one_section h k s u (each k (omega arith) (omega arith)) is in
      (e ∷ rest.0, cc (same, rest.1), record { row = more c e rest.0 i rest.2.row; counted = omega (arith, rest.2.counted) })
  told_all s k at n (x ∷ xs) (one_more c y ys (question_there q d few i) r) each =
      absurd (omega (arith, record_late h k s (each k (omega arith) (omega arith)), few))

  -- ---- all items

  -- the items in their sections, as many in each as is answered
  pub record Parted (xs : List PacketItem) (n : ℕ) (w : Walked) : Type 0 where
    pub part : ServicePacket
    pub id : part.id ≡ h.id
    pub word : part.word ≡ h.word
    pub all : items_of part ≡ xs
    pub from_answers : ℕ
    pub from_authorities : ℕ
    pub from_additional : ℕ
    pub questions : RowOf (QuestionAt b) HEADER_LENGTH w.questions part.questions from_answers
    pub answers : RowOf (RecordAt b) from_answers w.answers part.answers from_authorities
    pub authorities : RowOf (RecordAt b) from_authorities w.authorities part.authorities from_additional
    pub additional : RowOf (RecordAt b) from_additional w.additional part.additional n

  counts : (xs : List PacketItem) (n : ℕ) (f : Option ServiceFault) (q a u d : ℕ) → ItemsAt b h 0 HEADER_LENGTH xs n → length xs ≤ item_count h →
      q ≡ min (length xs) h.questions → a ≡ min (length xs - q) h.answers → u ≡ min (length xs - q - a) h.authorities → d ≡ length xs - q - a - u →
      Parted xs n (record { questions = q; answers = a; authorities = u; additional = d; next = n; fault = f })
  counts xs n f q a u d items few eq ea eu ed =
      let behind : List PacketItem = drop q xs in
      let rest : List PacketItem = drop a behind in
      let long : length behind ≡ length xs - q = length-drop q xs in
      let less : length rest ≡ length xs - q - a = omega (arith, length-drop a behind, long) in
      let last : length (drop u rest) ≡ d = omega (arith, length-drop u rest, less, ed) in
      let one = items_split b h 0 HEADER_LENGTH n q xs items (omega (arith, eq)) in
      let two = items_split b h (0 + q) one.0 n a behind one.2 (omega (arith, ea, long)) in
      let three = items_split b h (0 + q + a) two.0 n u rest two.2 (omega (arith, eu, less)) in
      let size_q : length (take q xs) ≡ q = length-take-le q xs (omega (arith, eq)) in
      let size_a : length (take a behind) ≡ a = length-take-le a behind (omega (arith, ea, long)) in
      let size_u : length (take u rest) ≡ u = length-take-le u rest (omega (arith, eu, less)) in
      let qs = asked_all b h 0 HEADER_LENGTH one.0 (take q xs) one.1 (omega (arith, size_q, eq)) in
      let rs = told_all Answer (0 + q) one.0 two.0 (take a behind) two.1 (λ j high low. (omega (arith, high, low, size_a, eq, ea), omega (arith, high, low, size_a, eq, ea))) in
      let us = told_all Authority (0 + q + a) two.0 three.0 (take u rest) three.1 (λ j high low. (omega (arith, high, low, size_u, eq, ea, eu), omega (arith, high, low, size_u, eq, ea, eu))) in
      let ds = told_all Additional (0 + q + a + u) three.0 n (drop u rest) three.2 (λ j high low. (omega (arith, high, low, last, eq, ea, eu, ed), omega (arith, high, low, last, eq, ea, eu, ed, few))) in
      record {
        part = record { id = h.id; word = h.word; questions = qs.0; answers = rs.0; authorities = us.0; additional = ds.0 };
        id = refl;
        word = refl;
        all = rw (qs.1, rs.1, us.1, ds.1, take-append-drop u rest, take-append-drop a behind, take-append-drop q xs) refl;
        from_answers = one.0;
        from_authorities = two.0;
        from_additional = three.0;
        questions = subst (λ (k : ℕ). RowOf (QuestionAt b) HEADER_LENGTH k qs.0 one.0) size_q qs.2;
        answers = subst (λ (k : ℕ). RowOf (RecordAt b) one.0 k rs.0 two.0) size_a rs.2;
        authorities = subst (λ (k : ℕ). RowOf (RecordAt b) two.0 k us.0 three.0) size_u us.2;
        additional = subst (λ (k : ℕ). RowOf (RecordAt b) three.0 k ds.0 n) last ds.2;
      }

  pub parted : (xs : List PacketItem) (n : ℕ) (f : Option ServiceFault) → ItemsAt b h 0 HEADER_LENGTH xs n → length xs ≤ item_count h →
      Parted xs n (walked_of h (length xs) n f)
  parted xs n f items few = counts xs n f _ _ _ _ items few refl refl refl refl

  -- what the walk answers
  walks : (xs : List PacketItem) (n : ℕ) (f : Option ServiceFault) → HasHeader b h → ItemsAt b h 0 HEADER_LENGTH xs n → (p : Parted xs n (walked_of h (length xs) n f)) →
      ((x : PacketItem) (after : ℕ) → ¬ ItemAt b h (length xs) n x after) → EndsWith b h p.part n f → Walks b h (walked_of h (length xs) n f)
  walks xs n f there items p none_more end = record {
    part = p.part;
    from_answers = p.from_answers;
    from_authorities = p.from_authorities;
    from_additional = p.from_additional;
    questions = p.questions;
    answers = p.answers;
    authorities = p.authorities;
    additional = p.additional;
    items = record { header_there = there; items_there = rw p.all items; no_further = rw p.all none_more };
    end = end;
  }

  pub walked_whole : (xs : List PacketItem) (n k : ℕ) → length xs ≡ k → HasHeader b h → ItemsAt b h 0 HEADER_LENGTH xs n → k ≤ item_count h → item_count h ≤ k →
      ((x : PacketItem) (after : ℕ) → ItemAt b h (length xs) n x after → length xs < item_count h) → Walks b h (walked_of h k n None)
  walked_whole xs n k size there items few all counted =
      let p = parted xs n None items (omega (arith, size, few)) in
      let same : header_of p.part ≡ h = λ i. record {
        id = p.id i;
        word = p.word i;
        questions = (let c : length p.part.questions ≡ h.questions = omega (arith, p.questions.counted, size, all) in c) i;
        answers = (let c : length p.part.answers ≡ h.answers = omega (arith, p.answers.counted, size, all) in c) i;
        authorities = (let c : length p.part.authorities ≡ h.authorities = omega (arith, p.authorities.counted, size, all) in c) i;
        additional = (let c : length p.part.additional ≡ h.additional = omega (arith, p.additional.counted, size, all, few) in c) i;
      } in
      subst (λ (j : ℕ). Walks b h (walked_of h j n None)) size
      (walks xs n None there items p (λ x after i. omega (arith, counted x after i, size, all)) (
        record {
          after = p.from_answers;
          header = rw same there;
          questions = p.questions.row;
          records = row-append (RecordAt b) _ _ _ p.part.answers (p.part.authorities ++ p.part.additional) p.answers.row
              (row-append (RecordAt b) _ _ _ p.part.authorities p.part.additional p.authorities.row p.additional.row);
        },
        same,
      ))

  pub walked_cut : (xs : List PacketItem) (n k : ℕ) (f : ServiceFault) → length xs ≡ k → HasHeader b h → ItemsAt b h 0 HEADER_LENGTH xs n → ItemFails b h k n f →
      ((x : PacketItem) (after : ℕ) → ¬ ItemAt b h k n x after) → Walks b h (walked_of h k n (Some f))
  walked_cut xs n k f size there items fails none_more =
      let here : ItemFails b h (length xs) n f = rw size fails in
      let p = parted xs n (Some f) items (omega (arith, fails_counted k n f fails, size)) in
      subst (λ (j : ℕ). Walks b h (walked_of h j n (Some f))) size
      (walks xs n (Some f) there items p (rw size none_more) (refused_after b h xs n f there items here))
