-- What the code's steps answer while a packet is checked, listed and decoded.
use Rattle.std.specs.Prelude.{◌≡◌, ℕ, List, length}
use Rattle.nb_service.specs.Packet.{Row}

-- RowOf Stands at count items next: a row of as many items as the count
pub record RowOf {A : Type 0} (Stands : ℕ → A → ℕ → Type 0) (at count : ℕ) (items : List A) (next : ℕ) : Type 0 where
  pub row : Row Stands at items next
  pub counted : length items ≡ count

-- HasRow Stands at count next: some row of as many items as the count
abbrev pub HasRow : {A : Type 0} → (ℕ → A → ℕ → Type 0) → ℕ → ℕ → ℕ → Type 0
HasRow {A} Stands at count next = (items : List A) × RowOf Stands at count items next
