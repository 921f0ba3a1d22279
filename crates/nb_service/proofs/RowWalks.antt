-- Rows whose items are read one after the other: what holds of those that were read.
use Rattle.std.proofs.Common.{◌≡◌, ℕ, ◌+◌, ◌<◌, List, [], ◌∷◌, ◌++◌, length, take, drop, zero, suc, refl, ap, sym, subst, ◌∙◌, arith}
use Rattle.std.proofs.Math.Seq.{take-length, drop-length}
use Rattle.nb_service.specs.Code.Steps.{RowOf, HasRow}
use Rattle.nb_service.specs.Packet.{Row, none, more}

-- Walk Stands at count i here Holds: of the row of so many items that stands at the offset, the items from the i-th on stand at
-- `here`, and this holds of those before
abbrev pub Walk : {A : Type 0} → (ℕ → A → ℕ → Type 0) → ℕ → ℕ → ℕ → ℕ → (List A → Type 0) → Type 0
Walk {A} Stands at count i here Holds =
    (items : List A) (end : ℕ) → RowOf Stands at count items end → Row Stands here (drop i items) end × Holds (take i items)

-- Next S i here items end: the i-th item stands here, and the items after it where it ends
record Next {A : Type 0} (S : ℕ → A → ℕ → Type 0) (i here : ℕ) (items : List A) (end : ℕ) : Type 0 where
  pub item : A
  pub after : ℕ
  pub taken : take (suc i) items ≡ take i items ++ item ∷ []
  pub stands : S here item after
  pub rest : Row S after (drop (suc i) items) end

next_item : {A : Type 0} (S : ℕ → A → ℕ → Type 0) (i here : ℕ) (items : List A) (end : ℕ) → i < length items → Row S here (drop i items) end → Next S i here items end
next_item S i here [] end low r = absurd (omega arith)
next_item S zero here (x ∷ xs) end low (more b y ys h r) = record { item = x; after = b; taken = refl; stands = h; rest = r }
next_item {A} S (suc i) here (x ∷ xs) end low r =
    let next = next_item S i here xs end (omega arith) r in
    record { item = next.item; after = next.after; taken = ap (λ (ys : List A). x ∷ ys) next.taken; stands = next.stands; rest = next.rest }

module _ {A : Type 0} (Stands : ℕ → A → ℕ → Type 0) where
  row_over : (here end : ℕ) → Row Stands here [] end → here ≡ end
  row_over here end none = refl

  pub walk_begun : (at count : ℕ) (Holds : List A → Type 0) → Holds [] → Walk Stands at count 0 at Holds
  walk_begun at count Holds held items end row = (row.row, held)

  -- the next item of a walk
  pub walk_item : (at count i here : ℕ) (Holds : List A → Type 0) → (end : ℕ) × HasRow Stands at count end → i < count
      → Walk Stands at count i here Holds → (x : A) × (after : ℕ) × Stands here x after
  walk_item at count i here Holds some low walk =
      let row = some.1.1 in
      let next = next_item Stands i here some.1.0 some.0 (omega (arith, low, row.counted)) (walk some.1.0 some.0 row).0 in
      (next.item, next.after, next.stands)

  -- a turn that read the item, and found where it ends
  pub walk_step : (at count i here next : ℕ) (Holds Then : List A → Type 0) → i < count → Walk Stands at count i here Holds
      → ((before : List A) (y : A) (n : ℕ) → Stands here y n → Holds before → (next ≡ n) × Then (before ++ y ∷ []))
      → Walk Stands at count (i + 1) next Then
  walk_step at count i here next Holds Then low walk turn items end row =
      let far = walk items end row in
      let item = next_item Stands i here items end (omega (arith, low, row.counted)) far.0 in
      let turned = turn (take i items) item.item item.after item.stands far.1 in
      let rest : Row Stands next (drop (suc i) items) end = subst (λ (n : ℕ). Row Stands n (drop (suc i) items) end) (sym turned.0) item.rest in
      let more_by_one : suc i ≡ i + 1 = omega arith in
      subst (λ (n : ℕ). Row Stands next (drop n items) end × Then (take n items)) more_by_one (rest, subst Then (sym item.taken) turned.1)

  -- the end of a walk
  pub walk_ended : (at count i here : ℕ) (Holds : List A → Type 0) → i ≡ count → Walk Stands at count i here Holds
      → (items : List A) (end : ℕ) → RowOf Stands at count items end → (here ≡ end) × Holds items
  walk_ended at count i here Holds whole walk items end row =
      let last = walk items end row in
      let long : i ≡ length items = whole ∙ sym row.counted in
      let all : take i items ≡ items = rw long (take-length items) in
      let none_left : drop i items ≡ [] = rw long (drop-length items) in
      (row_over here end (subst (λ (xs : List A). Row Stands here xs end) none_left last.0), subst Holds all last.1)
