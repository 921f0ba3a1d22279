-- A text is read as one name, or has one fault.
use Rattle.nb_calls.proofs.Common.{◌≡◌, ℕ, List, length, Result, Ok, Err, IfOk, IfErr, ap, subst, arith, NameFault, TextFault, NetbiosName, IsText, IsFaultOf, Refusal, FaultAt, NAME_TRAILING_BYTES, NO_ROLE, name_refusal, HasOneElse, OrMemory}
use Rattle.nb_calls.proofs.AnswerLemmas.{one_expected}
use Rattle.nb_calls.specs.Names.{IsRead, IsWhole, whole, no_name, bytes_trail}

-- a text has one name or one fault
pub record TextLaws (text : List ℕ) : Type 0 where
  pub one : (a b : NetbiosName) → IsText a text → IsText b text → a ≡ b
  pub one_fault : (a b : TextFault) → IsFaultOf text a → IsFaultOf text b → a ≡ b
  pub apart : (name : NetbiosName) (fault : TextFault) → IsText name text → ¬ IsFaultOf text fault

pub one_read : (text : List ℕ) → TextLaws text → (a b : Result NetbiosName TextFault) → IsRead text a → IsRead text b → a ≡ b
one_read text laws (Ok a) (Ok b) h k = ap (λ (n : NetbiosName). Ok n) (laws.one a b h k)
one_read text laws (Ok a) (Err b) h k = absurd (laws.apart a b h k)
one_read text laws (Err a) (Ok b) h k = absurd (laws.apart b a k h)
one_read text laws (Err a) (Err b) h k = ap (λ (f : TextFault). Err f) (laws.one_fault a b h k)

-- what is read
pub read_of : (text : List ℕ) (read : Result NetbiosName TextFault) → IfOk read (λ (name : NetbiosName). IsText name text)
    → IfErr read (IsFaultOf text) → IsRead text read
read_of text (Ok name) found fault = found
read_of text (Err fault) found fails = fails

-- bytes are one name or have one fault, where one name stands in them or they have one
module _ {A : Type 0} (stands : A → ℕ → Type 0) (fails : NameFault → Type 0) (bytes : List ℕ)
    (one : (a b : A) (m n : ℕ) → stands a m → stands b n → (a ≡ b) × (m ≡ n)) (one_fault : (f g : NameFault) → fails f → fails g → f ≡ g)
    (apart : (f : NameFault) (a : A) (n : ℕ) → fails f → ¬ stands a n) where
  pub one_whole : (a b : Result A Refusal) → IsWhole stands fails bytes a → IsWhole stands fails bytes b → a ≡ b
  one_whole _ _ (whole a p) (whole b q) = ap Ok (one a b (length bytes) (length bytes) p q).0
  one_whole _ _ (whole a p) (no_name f q) = absurd (apart f a (length bytes) q p)
  one_whole _ _ (whole a p) (bytes_trail b n q less) = absurd (omega (arith, less, (one a b (length bytes) n p q).1))
  one_whole _ _ (no_name f p) (whole b q) = absurd (apart f b (length bytes) p q)
  one_whole _ _ (no_name f p) (no_name g q) = ap (λ (x : NameFault). Err (name_refusal NO_ROLE x)) (one_fault f g p q)
  one_whole _ _ (no_name f p) (bytes_trail b n q less) = absurd (apart f b n p q)
  one_whole _ _ (bytes_trail a n p less) (whole b q) = absurd (omega (arith, less, (one b a (length bytes) n q p).1))
  one_whole _ _ (bytes_trail a n p less) (no_name f q) = absurd (apart f a n q p)
  one_whole _ _ (bytes_trail a m p less) (bytes_trail b n q more) = ap (λ (k : ℕ). Err (FaultAt NAME_TRAILING_BYTES k)) (one a b m n p q).1

-- of what two texts are read as one thing is answered
pub one_by_two : (first second : List ℕ) → TextLaws first → TextLaws second
    → (answer_of : Result NetbiosName TextFault → Result NetbiosName TextFault → Result (List ℕ) Refusal)
    → HasOneElse (λ (answer : Result (List ℕ) Refusal).
    (from to : Result NetbiosName TextFault) × IsRead first from × IsRead second to × OrMemory (answer_of from to) answer)
one_by_two first second laws more answer_of a b (f, t, p, q, e) (g, u, r, s, d) h k =
    let same : answer_of g u ≡ answer_of f t = cc (one_read first laws g f r p, one_read second more u t s q) in
    one_expected (answer_of f t) a b e (subst (λ (x : Result (List ℕ) Refusal). OrMemory x b) same d) h k
