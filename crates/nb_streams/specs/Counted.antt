-- A reader or a writer whose calls are counted, and what one call tells.
use Rattle.std.specs.Prelude.{◌≡◌, ℕ, ◌+◌, ◌-◌, ◌≤◌, List, length, take, Option, refl, zero, suc}
use Rattle.std.specs.Coded.{Coded, code_by, coded×, coded_ℕ}
use Rattle.std.specs.Io.KnownBytes.{Appends, Consumes, Keeps, IsAtEnd}
use Rattle.nb_streams.specs.declared.counted.Told.{Told}
use Rattle.nb_streams.specs.declared.counted.Told.TheVariants.{Bytes, Interrupted, Failed}

-- how many calls were made, and how many of them moved no byte, were interrupted, or failed
pub record Counts : Type 0 where
  pub calls : ℕ
  pub empty : ℕ
  pub interrupted : ℕ
  pub failed : ℕ

-- what is read or written, and the counts
pub record CountedOf (T : Type 0) : Type 0 where
  pub inner : T
  pub counts : Counts

-- the counts before the first call
abbrev pub no_calls : Counts
no_calls = record { calls = 0; empty = 0; interrupted = 0; failed = 0 }

-- the counts with one more call, by what it answered
abbrev pub with_call : Counts → Told → Counts
with_call c (Bytes zero) = record c { calls = c.calls + 1; empty = c.empty + 1 }
with_call c (Bytes (suc n)) = record c { calls = c.calls + 1 }
with_call c Interrupted = record c { calls = c.calls + 1; interrupted = c.interrupted + 1 }
with_call c Failed = record c { calls = c.calls + 1; failed = c.failed + 1 }

-- between old new: the counts of the calls made between two moments
abbrev pub between : Counts → Counts → Counts
between old new = record {
  calls = new.calls - old.calls;
  empty = new.empty - old.empty;
  interrupted = new.interrupted - old.interrupted;
  failed = new.failed - old.failed;
}

-- TellsRead old new told buf: a read answered this, and left the buffer so; the bytes that the reader has
-- to give, where it tells them, were the old ones and are the new ones
abbrev pub TellsRead : Option (List ℕ) → Option (List ℕ) → Told → List ℕ → Type 0
TellsRead old new (Bytes n) buf = (n ≤ length buf) × Consumes old new (take n buf) × (n ≡ 0 → IsAtEnd new)
TellsRead old new Interrupted buf = Keeps old new
TellsRead old new Failed buf = Keeps old new

-- TellsWrite old new told bytes: a write of these bytes answered this; the bytes that the writer holds,
-- where it tells them, were the old ones and are the new ones
abbrev pub TellsWrite : Option (List ℕ) → Option (List ℕ) → Told → List ℕ → Type 0
TellsWrite old new (Bytes n) bytes = (n ≤ length bytes) × Appends old new (take n bytes)
TellsWrite old new Interrupted bytes = Keeps old new
TellsWrite old new Failed bytes = Keeps old new

-- counts as the tuple of the four numbers
abbrev pub counts_code : Coded Counts
counts_code =
    code_by (ℕ × (ℕ × (ℕ × ℕ))) (coded× coded_ℕ (coded× coded_ℕ (coded× coded_ℕ coded_ℕ)))
    (λ c. (c.calls, (c.empty, (c.interrupted, c.failed)))) (λ p. record { calls = p.0; empty = p.1.0; interrupted = p.1.1.0; failed = p.1.1.1 }) (λ _. refl)

-- a value of a counted stream as the pair of its parts
abbrev pub counted_code : {T : Type 0} → Coded T → Coded (CountedOf T)
counted_code {T} code = code_by (T × Counts) (coded× code counts_code) (λ c. (c.inner, c.counts)) (λ p. record { inner = p.0; counts = p.1 }) (λ _. refl)
