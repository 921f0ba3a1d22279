-- What is made of a payload is all that is answered of it; and what a call on a station does.
use Rattle.nb_calls.proofs.Common.{◌≡◌, ℕ, List, Result, Ok, Err, IfOk, sym, ap, ◌∙◌, [], ◌∷◌, ◌++◌, length, slice_index_or, refl, arith, subst, NoMemory, Memory, Answers, HasOneElse, Lent, Writes, of_memory, IsObject, Tells, MemberValue, OnStation}
use Rattle.nb_telling.specs.Telling.{Field}
use Rattle.nb_telling.specs.Tokens.{object_of}
use Rattle.nb_calls.specs.Showing.{Made}
use denote.RawPtr.{Ptr, InBlock}
use Rattle.nb_calls.specs.declared.handle.NbtStation.{NbtStation}
use Rattle.nb_calls.specs.Handles.{IsHere, IsNone}

-- a payload has one list of fields for the port
abbrev OneList : List ℕ → ℕ → Type 0
OneList payload port = (fields others : List Field) → Tells payload port fields → Tells payload port others → fields ≡ others

pub one_object : (payload : List ℕ) (port : ℕ) → OneList payload port → (a b : List ℕ) → IsObject payload port a → IsObject payload port b → a ≡ b
one_object payload port one a b h k = h.is ∙ ap object_of (one h.fields k.fields h.tells k.tells) ∙ sym k.is

module _ (Is : List ℕ → Type 0) where
  -- where one value is, one is answered
  pub one_made : ((a b : List ℕ) → Is a → Is b → a ≡ b) → HasOneElse (Made Is)
  one_made one (Ok a) (Ok b) p q h k = ap Ok (one a b p q)
  one_made one (Ok a) (Err b) p q h k = absurd (k (ap Err q))
  one_made one (Err a) b p q h k = absurd (h (ap Err p))

  -- what is made is answered, or that memory ran out
  pub makes : (told : Result (List ℕ) NoMemory) (old new : Lent) (status : ℕ) → IfOk told Is → Answers (of_memory told) old new status
      → Writes (Made Is) old new status
  makes (Ok value) old new status is h = (Ok value, is, h)
  makes (Err fault) old new status is h = (Err Memory, refl, h)

-- ---- bytes that a call on a station writes

-- four bytes, one by one
pub four : (xs rest : List ℕ) → length xs ≡ 4
    → slice_index_or xs 0 0 ∷ slice_index_or xs 1 0 ∷ slice_index_or xs 2 0 ∷ slice_index_or xs 3 0 ∷ rest ≡ xs ++ rest
four [] rest h = absurd (omega (arith, h))
four (a ∷ []) rest h = absurd (omega (arith, h))
four (a ∷ b ∷ []) rest h = absurd (omega (arith, h))
four (a ∷ b ∷ c ∷ []) rest h = absurd (omega (arith, h))
four (a ∷ b ∷ c ∷ d ∷ []) rest h = refl
four (a ∷ b ∷ c ∷ d ∷ e ∷ xs) rest h = absurd (omega (arith, h))

-- ---- what a call does to a station's member it does to the station, and of none it does nothing

not_both : {A : Type 0} (p : Ptr) → IsHere p → IsNone p → A
not_both p here none = absurd (subst InBlock none here)

module _ {old new : NbtStation} {Done : MemberValue → MemberValue → Type 0} {Idle : Type 0} where
  pub station_done : {before after : MemberValue} → IsHere old.at → before ≡ old.value.member → IsHere new.at
      → after ≡ new.value.member → Done before after → OnStation old new Done Idle
  station_done {before} {after} is b stays a done = record {
    here = λ h. (stays, subst (λ (m : MemberValue). Done m new.value.member) b (subst (λ (m : MemberValue). Done before m) a done));
    none = λ n. not_both old.at is n;
  }
