-- Names and their labels, both ways.
use Rattle.std.proofs.Common.{◌≡◌, ◌<◌, ◌+◌, ◌/◌, ◌%◌, ◌^◌, ℕ, List, [], ◌∷◌, length, get_or, zero, suc, refl, ap, arith, length-append}
use Rattle.std.specs.List.{AllByRecursion}
use Rattle.nb_names.specs.FirstLevel.{letter, letters, IsLetter, IsFirstNonLetter}
use Rattle.nb_names.specs.DomainName.{spelling, IsDomain}
use Rattle.nb_names.specs.Name.{NetbiosName, IsName, IsScope, IsNoName, wrong_length, non_letter, labels_of_name}
use Rattle.nb_names.proofs.SpellingLemmas.{IsDomain-rest}
use Rattle.nb_names.proofs.FirstLevelLemmas.{length-letters}

-- bytes of eight bits are spelled in letters
pub letters_are : (bytes : List ℕ) (k : ℕ) → AllByRecursion (λ byte. byte < 2 ^ 8) bytes → k < length (letters bytes) → IsLetter (get_or (letters bytes) k 0)
letters_are [] k each within = absurd (omega arith)
letters_are (b ∷ bs) zero each within = let small = each.0 in (omega arith, omega arith)
letters_are (b ∷ bs) (suc zero) each within = (omega arith, omega arith)
letters_are (b ∷ bs) (suc (suc k)) each within = letters_are bs k each.1 (omega arith)

same_byte : (x y : ℕ) → letter (x / 16) ≡ letter (y / 16) → letter (x % 16) ≡ letter (y % 16) → x ≡ y
same_byte x y high low = omega arith

-- the letters give the bytes back
pub letters-injective : (xs ys : List ℕ) → letters xs ≡ letters ys → xs ≡ ys
letters-injective [] [] e = refl
letters-injective [] (y ∷ ys) e = absurd (cc)
letters-injective (x ∷ xs) [] e = absurd (cc)
letters-injective (x ∷ xs) (y ∷ ys) e =
    let high : letter (x / 16) ≡ letter (y / 16) = cc in
    let low : letter (x % 16) ≡ letter (y % 16) = cc in
    let rest : letters xs ≡ letters ys = cc in
    cc (same_byte x y high low, letters-injective xs ys rest)

-- what stands after a label of 32 bytes is a scope
pub IsScope-rest : (labels : List (List ℕ)) (first : List ℕ) (rest : List (List ℕ)) → labels ≡ first ∷ rest → length first ≡ 32 → IsDomain labels → IsScope rest
IsScope-rest labels first rest is size domain =
    let whole = rw is at domain in
    record { domain = IsDomain-rest labels first rest is domain; short = omega (arith, whole.short, length-append first (spelling rest)) }

pub no_name_length : (labels : List (List ℕ)) (first : List ℕ) (rest : List (List ℕ)) → labels ≡ first ∷ rest → (length first ≡ 32 → ⊥) → IsNoName labels 0
no_name_length labels first rest is wrong = rw is (wrong_length first rest wrong)

pub no_name_letter : (labels : List (List ℕ)) (first : List ℕ) (rest : List (List ℕ)) (place : ℕ) → labels ≡ first ∷ rest → length first ≡ 32 → IsFirstNonLetter first place → IsNoName labels (1 + place)
no_name_letter labels first rest place is size strange = rw is (non_letter first rest place size strange)

-- a name's labels begin with 32 bytes
pub name_length : (name : NetbiosName) (first : List ℕ) (rest : List (List ℕ)) → IsName name → labels_of_name name ≡ first ∷ rest → length first ≡ 32
name_length name first rest formed is =
    let same : letters name.bytes ≡ first = cc in
    omega (arith, formed.sixteen, length-letters name.bytes, ap length same)

-- a name's labels begin with letters
pub name_letters : (name : NetbiosName) (first : List ℕ) (rest : List (List ℕ)) (place : ℕ) → IsName name → labels_of_name name ≡ first ∷ rest → IsFirstNonLetter first place → ⊥
name_letters name first rest place formed is strange =
    let same : letters name.bytes ≡ first = cc in
    let within : place < length (letters name.bytes) = rw same strange.within in
    strange.non_letter (rw (← same) (letters_are name.bytes place formed.each within))

-- a name's labels make a domain name
pub name_domain : (name : NetbiosName) → IsName name → IsDomain (labels_of_name name)
name_domain name formed =
    let long = length-letters name.bytes in
    let sixteen = formed.sixteen in
    let short = formed.scope.short in
    record {
      each = ((omega arith, omega arith), formed.scope.domain.each);
      short = omega (arith, length-append (letters name.bytes) (spelling name.scope));
    }

-- labels are those of one name
pub one_name : (m n : NetbiosName) → labels_of_name m ≡ labels_of_name n → m ≡ n
one_name m n e =
    let bytes = letters-injective m.bytes n.bytes (cc) in
    let scope : m.scope ≡ n.scope = cc in
    λ i. record { bytes = bytes i; scope = scope i }
