-- Rows of questions and records, what stands, and the sections of a packet.
use Rattle.std.proofs.Common.{◌≡◌, ℕ, ◌<◌, List, [], ◌∷◌, ◌++◌, length, refl, sym, subst, arith, ◌+◌}
use Rattle.nb_service.specs.declared.fault.ServiceFault.{ServiceFault}
use Rattle.nb_service.specs.Packet.{Row, none, more, RdataAt, bytes_there, domain_there, RecordAt, ServicePacket, IsPacket, HasSections}
use Rattle.nb_service.specs.ServiceFaults.{RowFails}
use Rattle.nb_names.specs.Labels.{NameAt}
use Rattle.nb_names.specs.declared.reading.Pointers.TheVariants.{Followed}
use Rattle.nb_service.specs.Record.{ResourceData, of_domain, ResourceRecord}

-- ---- rows joined

pub row-append : {A : Type 0} (S : ℕ → A → ℕ → Type 0) (at m n : ℕ) (xs ys : List A) → Row S at xs m → Row S m ys n → Row S at (xs ++ ys) n
row-append S at m n [] ys none s = s
row-append S at m n (x ∷ xs) ys (more b y zs h r) s = more b y (zs ++ ys) h (row-append S b m n zs ys r s)

-- ---- a row is one

-- what stands at an offset is one, fails in one way, and not both
pub record Single {A : Type 0} (S : ℕ → A → ℕ → Type 0) (F : ℕ → ServiceFault → Type 0) : Type 0 where
  pub one : (at : ℕ) (x y : A) (m n : ℕ) → S at x m → S at y n → (x ≡ y) × (m ≡ n)
  pub apart : (at : ℕ) (x : A) (n : ℕ) (f : ServiceFault) → S at x n → F at f → ⊥
  pub one_fault : (at : ℕ) (f g : ServiceFault) → F at f → F at g → f ≡ g

pub one_row : {A : Type 0} (S : ℕ → A → ℕ → Type 0) (F : ℕ → ServiceFault → Type 0) → Single S F → (at m n : ℕ) (xs ys : List A) → Row S at xs m → Row S at ys n → length xs ≡ length ys → (xs ≡ ys) × (m ≡ n)
one_row S F s at m n [] [] none none e = (refl, refl)
one_row S F s at m n [] (y ∷ ys) none (more b k ks h r) e = absurd (omega arith)
one_row S F s at m n (x ∷ xs) [] (more b k ks h r) none e = absurd (omega arith)
one_row S F s at m n (x ∷ xs) (y ∷ ys) (more b k ks h r) (more c l ls i t) e =
    let same = s.one at k l b c h i in
    let rest = one_row S F s b m n ks ls r (subst (λ (z : ℕ). Row S z ls n) (sym same.1) t) (omega arith) in
    (cc (same.0, rest.0), rest.1)

pub row_no_fault : {A : Type 0} (S : ℕ → A → ℕ → Type 0) (F : ℕ → ServiceFault → Type 0) → Single S F → (at m n : ℕ) (xs ys : List A) (f : ServiceFault) → Row S at xs m → Row S at ys n → length ys < length xs → F n f → ⊥
row_no_fault S F s at m n [] ys f none q low h = omega arith
row_no_fault S F s at m n (x ∷ xs) [] f (more b k ks i r) none low h = s.apart at k b f i h
row_no_fault S F s at m n (x ∷ xs) (y ∷ ys) f (more b k ks i r) (more c l ls j t) low h =
    let same = s.one at k l b c i j in
    row_no_fault S F s b m n ks ls f r (subst (λ (z : ℕ). Row S z ls n) (sym same.1) t) (omega arith) h

pub no_row : {A : Type 0} (S : ℕ → A → ℕ → Type 0) (F : ℕ → ServiceFault → Type 0) → Single S F → (at m : ℕ) (xs : List A) (f : ServiceFault) → Row S at xs m → RowFails S F at (length xs) f → ⊥
no_row S F s at m xs f r h = row_no_fault S F s at m h.here xs h.items f r h.before h.fewer h.fails

pub one_fault_after : {A : Type 0} (S : ℕ → A → ℕ → Type 0) (F : ℕ → ServiceFault → Type 0) → Single S F → (at m n : ℕ) (xs ys : List A) (f g : ServiceFault) → Row S at xs m → Row S at ys n → F m f → F n g → f ≡ g
one_fault_after S F s at m n [] [] f g none none h i = s.one_fault at f g h i
one_fault_after S F s at m n [] (y ∷ ys) f g none (more b k ks j r) h i = absurd (s.apart at k b f j h)
one_fault_after S F s at m n (x ∷ xs) [] f g (more b k ks j r) none h i = absurd (s.apart at k b g j i)
one_fault_after S F s at m n (x ∷ xs) (y ∷ ys) f g (more b k ks j r) (more c l ls o t) h i =
    let same = s.one at k l b c j o in
    one_fault_after S F s b m n ks ls f g r (subst (λ (z : ℕ). Row S z ls n) (sym same.1) t) h i

pub one_row_fault : {A : Type 0} (S : ℕ → A → ℕ → Type 0) (F : ℕ → ServiceFault → Type 0) → Single S F → (at m n : ℕ) (f g : ServiceFault) → RowFails S F at m f → RowFails S F at n g → f ≡ g
one_row_fault S F s at m n f g a b = one_fault_after S F s at a.here b.here a.items b.items f g a.before b.before a.fails b.fails

-- a row of two lists is two rows
pub row_split : {A : Type 0} (S : ℕ → A → ℕ → Type 0) (at n : ℕ) (xs ys : List A) → Row S at (xs ++ ys) n → (m : ℕ) × Row S at xs m × Row S m ys n
row_split S at n [] ys r = (at, none, r)
row_split S at n (x ∷ xs) ys (more b z zs h r) =
    let rest = row_split S b n xs ys r in (rest.0, more b x xs h rest.1, rest.2)

pub sections : (bytes : List ℕ) (packet : ServicePacket) (used : ℕ) → IsPacket bytes packet used → HasSections bytes packet used
sections bytes p used x =
    let first = row_split (RecordAt bytes) x.after used p.answers (p.authorities ++ p.additional) x.records in
    let second = row_split (RecordAt bytes) first.0 used p.authorities p.additional first.2 in
    record {
      answers = x.after;
      authorities = first.0;
      additional = second.0;
      first = x.questions;
      second = first.1;
      third = second.1;
      last = second.2;
    }

domain_of : (bytes : List ℕ) (at size kind : ℕ) (d : ResourceData) (labels : List (List ℕ)) → RdataAt bytes at size kind d → d ≡ of_domain labels →
    (kind ≡ 2) × NameAt bytes Followed at labels (at + size)
domain_of bytes at size kind d labels (bytes_there xs unlike long there) e = absurd (cc)
domain_of bytes at size kind d labels (domain_there ls is h) e =
    let same : ls ≡ labels = cc in (is, subst (λ (ms : List (List ℕ)). NameAt bytes Followed at ms (at + size)) same h)

pub named_rdata : (bytes : List ℕ) (at next : ℕ) (entry : ResourceRecord) (labels : List (List ℕ)) → RecordAt bytes at entry next → entry.rdata ≡ of_domain labels →
    (entry.kind ≡ 2) × ((after : ℕ) × NameAt bytes Followed at entry.name after × NameAt bytes Followed (after + 10) labels next)
named_rdata bytes at next entry labels r e =
    let there = domain_of bytes (r.after + 10) r.size entry.kind entry.rdata labels r.rdata e in (
      there.0,
      (r.after, r.name, subst (λ (n : ℕ). NameAt bytes Followed (r.after + 10) labels n) (sym r.end) there.1),
    )
