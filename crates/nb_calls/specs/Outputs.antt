-- What a call does to what its caller lends it (our choice): the front of a buffer, how many bytes it has or wants, and
-- the place of a fault.
use Rattle.std.specs.Prelude.{◌≡◌, ◌≢◌, ◌⊎◌, ℕ, Bool, nat_le, List, ◌++◌, length, drop, Result, Ok, Err, if◌then◌else◌}
use Rattle.nb_calls.specs.Common.{Refusal, Memory, Fault, FaultAt, DONE, NO_ROOM, NO_MEMORY}
use Rattle.nb_streams.specs.declared.bytes.NoMemory.{NoMemory}

-- whether the bytes fit into a buffer
abbrev pub fits : List ℕ → List ℕ → Bool
fits bytes buffer = nat_le (length bytes) (length buffer)

-- put_into bytes buffer: the buffer with the bytes at its front, where they fit, else as it is
abbrev pub put_into : List ℕ → List ℕ → List ℕ
put_into bytes buffer = if fits bytes buffer then bytes ++ drop (length bytes) buffer else buffer

-- put_status bytes buffer: whether they fit, as a status
abbrev pub put_status : List ℕ → List ℕ → ℕ
put_status bytes buffer = if fits bytes buffer then DONE else NO_ROOM

-- the status of a refusal
abbrev pub refused_status : Refusal → ℕ
refused_status Memory = NO_MEMORY
refused_status (Fault status) = status
refused_status (FaultAt status place) = status

-- at_refused refusal at: the place of a fault, where it has one, else what stood there
abbrev pub at_refused : Refusal → ℕ → ℕ
at_refused Memory at = at
at_refused (Fault status) at = at
at_refused (FaultAt status place) at = place

-- the answer of a call that only memory can refuse
abbrev pub of_memory : Result (List ℕ) NoMemory → Result (List ℕ) Refusal
of_memory (Ok bytes) = Ok bytes
of_memory (Err fault) = Err Memory

-- what a caller lends for bytes: a buffer, how many bytes it has or wants, and the place of a fault
pub record Lent : Type 0 where
  pub buffer : List ℕ
  pub used : ℕ
  pub place : ℕ

-- lent buffer used place: these
abbrev pub lent : List ℕ → ℕ → ℕ → Lent
lent buffer used place = record { buffer = buffer; used = used; place = place }

-- what is answered beside a status: numbers, and bytes
pub record Reported (A : Type 0) : Type 0 where
  pub numbers : A
  pub bytes : List ℕ

-- what a caller lends for these: numbers that are filled in, a buffer, and how many bytes it has or wants
pub record LentWith (A : Type 0) : Type 0 where
  pub numbers : A
  pub buffer : List ℕ
  pub used : ℕ

-- lent_with numbers buffer used: these
abbrev pub lent_with : {A : Type 0} → A → List ℕ → ℕ → LentWith A
lent_with numbers buffer used = record { numbers = numbers; buffer = buffer; used = used }

-- Answers answer old new status: a call with this answer leaves what was lent so, and has this status
abbrev pub Answers : Result (List ℕ) Refusal → Lent → Lent → ℕ → Type 0
Answers (Ok bytes) old new status =
    (new.buffer ≡ put_into bytes old.buffer) × (new.used ≡ length bytes) × (new.place ≡ old.place)
    × (status ≡ put_status bytes old.buffer)
Answers (Err refusal) old new status =
    (new.buffer ≡ old.buffer) × (new.used ≡ old.used) × (new.place ≡ at_refused refusal old.place)
    × (status ≡ refused_status refusal)

-- OrMemory expected answer: what is expected is answered; where that is a value, memory may run out
abbrev pub OrMemory : {A : Type 0} → Result A Refusal → Result A Refusal → Type 0
OrMemory (Ok value) answer = (answer ≡ Ok value) ⊎ (answer ≡ Err Memory)
OrMemory (Err refusal) answer = answer ≡ Err refusal

-- Writes Says old new status: something that is said is answered, and what was lent is left so
abbrev pub Writes : (Result (List ℕ) Refusal → Type 0) → Lent → Lent → ℕ → Type 0
Writes Says old new status = (answer : Result (List ℕ) Refusal) × Says answer × Answers answer old new status

-- Filled answer old new at at' status: a call with this answer leaves what it fills in and the place so, and has this
-- status
abbrev pub Filled : {A : Type 0} → Result A Refusal → A → A → ℕ → ℕ → ℕ → Type 0
Filled (Ok value) old new at at' status = (new ≡ value) × (at' ≡ at) × (status ≡ DONE)
Filled (Err refusal) old new at at' status =
    (new ≡ old) × (at' ≡ at_refused refusal at) × (status ≡ refused_status refusal)

-- Fills Says old new at at' status: something that is said is answered, and what was lent is left so
abbrev pub Fills : {A : Type 0} → (Result A Refusal → Type 0) → A → A → ℕ → ℕ → ℕ → Type 0
Fills {A} Says old new at at' status = (answer : Result A Refusal) × Says answer × Filled answer old new at at' status

-- FilledIn Says old new answer: what is said is filled in, or is this refusal, of which all is as it was
abbrev pub FilledIn : {A : Type 0} → (Result A Refusal → Type 0) → A → A → Result Unit Refusal → Type 0
FilledIn Says old new (Ok _) = Says (Ok new)
FilledIn Says old new (Err refusal) = Says (Err refusal) × (new ≡ old)

-- Ends answer at at' status: a call that has filled in what it reads, or has this refusal, leaves the place so, and has
-- this status
abbrev pub Ends : Result Unit Refusal → ℕ → ℕ → ℕ → Type 0
Ends (Ok _) at at' status = (at' ≡ at) × (status ≡ DONE)
Ends (Err refusal) at at' status = (at' ≡ at_refused refusal at) × (status ≡ refused_status refusal)

-- HasOne Says: at most one answer is said
abbrev pub HasOne : {A : Type 0} → (Result A Refusal → Type 0) → Type 0
HasOne {A} Says = (answer other : Result A Refusal) → Says answer → Says other → answer ≡ other

-- HasOneElse Says: at most one answer is said, but for that memory ran out
abbrev pub HasOneElse : {A : Type 0} → (Result A Refusal → Type 0) → Type 0
HasOneElse {A} Says =
    (answer other : Result A Refusal) → Says answer → Says other → answer ≢ Err Memory → other ≢ Err Memory → answer ≡ other
