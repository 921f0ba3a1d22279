-- What is said and answered is done, and where one thing is said, one is answered.
use Rattle.nb_calls.proofs.Common.{◌≡◌, ◌≢◌, ◌∙◌, ℕ, List, Result, Ok, Err, IfOk, inl, inr, refl, ap, subst, sym, NoMemory, Refusal, Memory, Answers, HasOneElse, Lent, Ends, Filled, FilledIn, Fills, OrMemory, Writes, of_memory}

pub writes : (Says : Result (List ℕ) Refusal → Type 0) (answer : Result (List ℕ) Refusal) (old new : Lent) (status : ℕ)
    → Says answer → Answers answer old new status → Writes Says old new status
writes Says answer old new status said h = (answer, said, h)

pub fills : {A : Type 0} (Says : Result A Refusal → Type 0) (answer : Result A Refusal) (old new : A) (at at' status : ℕ)
    → Says answer → Filled answer old new at at' status → Fills Says old new at at' status
fills Says answer old new at at' status said h = (answer, said, h)

-- what is filled in already, or refused
pub finishes : {A : Type 0} (Says : Result A Refusal → Type 0) (answer : Result Unit Refusal) (old new : A) (at at' status : ℕ)
    → FilledIn Says old new answer → Ends answer at at' status → Fills Says old new at at' status
finishes Says (Ok done) old new at at' status j h = (Ok new, j, (refl, h.0, h.1))
finishes Says (Err refusal) old new at at' status j h = (Err refusal, j.0, (j.1, h.0, h.1))

-- bytes that are made, or that memory ran out
pub made : (bytes : List ℕ) (told : Result (List ℕ) NoMemory) → IfOk told (λ (found : List ℕ). found ≡ bytes)
    → OrMemory (Ok bytes) (of_memory told)
made bytes (Ok found) is = inl (ap Ok is)
made bytes (Err fault) is = inr refl

pub writes_made : (bytes : List ℕ) (told : Result (List ℕ) NoMemory) (old new : Lent) (status : ℕ)
    → IfOk told (λ (found : List ℕ). found ≡ bytes) → Answers (of_memory told) old new status → Writes (OrMemory (Ok bytes)) old new status
writes_made bytes told old new status is h = (of_memory told, made bytes told is, h)

pub ruleset answered = (writes, fills, finishes, writes_made)

-- ---- one answer

-- of what is expected one answer is given, but for that memory ran out
pub one_expected : {A : Type 0} (expected answer other : Result A Refusal) → OrMemory expected answer → OrMemory expected other
    → answer ≢ Err Memory → other ≢ Err Memory → answer ≡ other
one_expected (Ok value) answer other (inl e) (inl d) h k = e ∙ sym d
one_expected (Ok value) answer other (inl e) (inr d) h k = absurd (k d)
one_expected (Ok value) answer other (inr e) d h k = absurd (h e)
one_expected (Err refusal) answer other e d h k = e ∙ sym d

module _ {A X : Type 0} (Is : X → Type 0) (one : (x y : X) → Is x → Is y → x ≡ y) where
  -- where one thing is, one is answered of it
  pub one_of : (answer_of : X → Result A Refusal) (answer other : Result A Refusal)
      → (x : X) × Is x × (answer ≡ answer_of x) → (x : X) × Is x × (other ≡ answer_of x) → answer ≡ other
  one_of answer_of answer other (x, p, e) (y, q, d) = e ∙ ap answer_of (one x y p q) ∙ sym d

  pub one_else : (answer_of : X → Result A Refusal) → HasOneElse (λ (answer : Result A Refusal). (x : X) × Is x × OrMemory (answer_of x) answer)
  one_else answer_of answer other (x, p, e) (y, q, d) h k =
      one_expected (answer_of x) answer other e (subst (λ (z : X). OrMemory (answer_of z) other) (sym (one x y p q)) d) h k
