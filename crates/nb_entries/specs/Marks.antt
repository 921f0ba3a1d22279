-- Marks: what fragments say of a datagram's data besides its bytes (our choice): its end, and the greatest promise. Each is
-- a value by itself, found whatever the order and the repeats of the fragments.
-- The end is how many bytes the data has; a promise is a place at which or after which it has a byte.
use Rattle.std.specs.Prelude.{◌≡◌, ◌==◌, ◌&&◌, ◌++◌, ◌<◌, ◌≤◌, ◌^◌, ℕ, Bool, true, List, [], ◌∷◌, Option, Some, None, nat_lt, nat_le, cond, max, refl}
use Rattle.std.specs.Int.{w16, to_be_bytes}
use Rattle.std.specs.Option.{option_eq}
use Rattle.std.specs.Coded.{Coded, code_by, coded×, coded_ℕ, coded_option}
use Rattle.nb_datagram.specs.Fragment.{Core, Covers, reach}
use Rattle.nb_entries.specs.Piece.{PieceParts, piece_reach, piece_of}
use Rattle.nb_entries.specs.declared.saved.SavedForm.{SavedForm}
use Rattle.nb_entries.specs.declared.saved.SavedForm.TheVariants.{First, Second}
pub use Rattle.nb_entries.specs.declared.cover.marks.Marks.{Marks}
use Rattle.nb_entries.specs.Maps.{first_of, joined_at}

-- ---- promises of fragments (our choice): M set in a fragment says that its datagram goes on, so a byte follows at
-- the fragment's reach or after it

-- f promises a byte at the place r or after it: M is set, and r is the place after its last byte
abbrev pub Promises : Core → ℕ → Type 0
Promises f r = (f.more ≡ true) × (reach f ≡ r)

-- what f promises, if it does
abbrev pub promise_of_one : Core → Option ℕ
promise_of_one f = cond f.more (Some (reach f)) None

-- the greater of two promises, or the one that there is
abbrev pub greater : Option ℕ → Option ℕ → Option ℕ
greater = joined_at max

-- GoesOnFrom f r: M is set, and r is where the places of f are over: it covers each place from its offset up to r, and
-- none at r or after it. A law says that this is what it promises
pub record GoesOnFrom (f : Core) (r : ℕ) : Type 0 where
  pub more : f.more ≡ true
  pub from : f.offset ≤ r
  pub covered : (i : ℕ) → f.offset ≤ i → i < r → (x : ℕ) × Covers f i x
  pub over : (i x : ℕ) → Covers f i x → i < r

-- ---- marks

-- those of no fragment
abbrev pub no_marks : Marks
no_marks = record { end = None; promise = None }

-- what one piece says: its reach is the end, where no more follow, and else its promise
abbrev pub piece_marks : PieceParts → Marks
piece_marks p = record { end = cond p.more None (Some (piece_reach p)); promise = cond p.more (Some (piece_reach p)) None }

-- what one fragment says: where it ends, if it does, and what it promises, if it does
abbrev pub marks_of : Core → Marks
marks_of f = piece_marks (piece_of f)

-- what two that don't contradict each other say together: the end that there is, and the greater promise
abbrev pub marks_together : Marks → Marks → Marks
marks_together a b = record { end = first_of a.end b.end; promise = greater a.promise b.promise }

-- the two don't contradict each other: there are not two different ends
abbrev pub MarksFit : Marks → Marks → Type 0
MarksFit a b = (m n : ℕ) → a.end ≡ Some m → b.end ≡ Some n → m ≡ n

-- the value, if there is one, is this one
abbrev pub same_where : Option ℕ → ℕ → Bool
same_where None y = true
same_where (Some x) y = x == y

-- there are not two different ends, as a test
abbrev pub ends_agree : Option ℕ → Option ℕ → Bool
ends_agree None b = true
ends_agree (Some x) b = same_where b x

-- the two don't contradict each other, as a test
abbrev pub marks_agree : Marks → Marks → Bool
marks_agree a b = ends_agree a.end b.end

-- MarksBelow n m: what is marked lies below the place n: the promise
abbrev pub MarksBelow : ℕ → Marks → Type 0
MarksBelow n m = (r : ℕ) → m.promise ≡ Some r → r < n

-- the promise, if there is one, lies below n, as a test
abbrev pub is_before : Option ℕ → ℕ → Bool
is_before None n = true
is_before (Some r) n = nat_lt r n

-- what is marked lies below n, as a test
abbrev pub marks_lie_below : ℕ → Marks → Bool
marks_lie_below n m = is_before m.promise n

-- ---- marks up to a place

-- MarksUpTo n m: they end and promise at most at the place n
pub record MarksUpTo (n : ℕ) (m : Marks) : Type 0 where
  pub ends : (k : ℕ) → m.end ≡ Some k → k ≤ n
  pub promises : (r : ℕ) → m.promise ≡ Some r → r ≤ n

-- the end or the promise, if there is one, is at most n, as a test
abbrev pub ends_by : ℕ → Option ℕ → Bool
ends_by n None = true
ends_by n (Some end) = nat_le end n

-- MarksUpTo n m, as a test
abbrev pub marks_up_to : ℕ → Marks → Bool
marks_up_to n m = ends_by n m.end && ends_by n m.promise

-- ---- marks as a value of a type whose code is known, and when two are the same

-- marks as the tuple of them
abbrev pub marks_code : Coded Marks
marks_code =
    code_by (Option ℕ × Option ℕ) (coded× (coded_option coded_ℕ) (coded_option coded_ℕ))
    (λ m. (m.end, m.promise)) (λ p. record { end = p.0; promise = p.1 }) (λ _. refl)

-- the two have the same end or none, and the same promise or none
abbrev pub same_marks : Marks → Marks → Bool
same_marks a b = option_eq ◌==◌ a.end b.end && option_eq ◌==◌ a.promise b.promise

-- ---- the bytes of saved marks

-- an end or a promise, or that there is none
abbrev pub end_bytes : Option ℕ → List ℕ
end_bytes None = 0 ∷ []
end_bytes (Some n) = 1 ∷ to_be_bytes w16 n

-- the promise, in the form that has it
abbrev pub promise_bytes : SavedForm → Option ℕ → List ℕ
promise_bytes First p = []
promise_bytes Second p = end_bytes p

-- the end and the promise
abbrev pub marks_bytes : SavedForm → Marks → List ℕ
marks_bytes form m = end_bytes m.end ++ promise_bytes form m.promise

-- in which an end and a promise have two bytes each
pub record FitMarks (m : Marks) : Type 0 where
  pub end : (n : ℕ) → m.end ≡ Some n → n < 2 ^ 16
  pub promise : (r : ℕ) → m.promise ≡ Some r → r < 2 ^ 16
