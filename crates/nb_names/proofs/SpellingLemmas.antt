-- Spellings: what stands at a place, the labels that are spelled, and the limit of a scope.
use Rattle.std.proofs.Common.{◌≡◌, ℕ, ◌<◌, ◌≤◌, List, [], ◌∷◌, length, drop, zero, suc, refl, arith, Some, None, slice_get, ◌+◌, ◌-◌, ◌++◌, take, ◌∙◌, ap, append_assoc, length-append, append-nil, ◌⊎◌, ◌≢◌, Option, Result, Ok, Err}
use Rattle.std.specs.List.{AllByRecursion}
use Rattle.nb_names.specs.DomainName.{IsLabel, spelling, AreByteLabels, IsDomain, Pushes}
use Rattle.nb_streams.specs.Places.{AreBytes}
use Rattle.std.specs.Option.{MatchOption}
use Rattle.std.proofs.Math.Seq.{take-append_seam, drop-append_seam}
use Rattle.nb_names.specs.Code.Kept.{labels_within, labels_of, IsSpelled, BeginsWith}
use Rattle.nb_names.specs.declared.fault.LabelFault.{LabelFault}
use Rattle.nb_names.specs.Name.{IsScope}

pub none_left : {A : Type 0} (xs : List A) (n m : ℕ) → drop n xs ≡ [] → n ≤ m → slice_get xs m ≡ None
none_left [] n m e h = refl
none_left (x ∷ xs) zero m e h = cc
none_left (x ∷ xs) (suc n) zero e h = absurd (omega arith)
none_left (x ∷ xs) (suc n) (suc m) e h = none_left xs n m e (omega arith)

pub some_left : {A : Type 0} (xs : List A) (n : ℕ) (y : A) (ys : List A) → drop n xs ≡ y ∷ ys → (slice_get xs n ≡ Some y) × (drop (suc n) xs ≡ ys) × (n < length xs)
some_left [] zero y ys e = absurd (cc)
some_left [] (suc n) y ys e = absurd (cc)
some_left (x ∷ xs) zero y ys e = (cc, cc, omega arith)
some_left (x ∷ xs) (suc n) y ys e = let h = some_left xs n y ys e in (h.0, h.1, omega (arith, h.2))

-- with fuel for them all, the labels that a spelling has
pub labels_within-spelling : (n : ℕ) (ls : List (List ℕ)) → AllByRecursion IsLabel ls → length (spelling ls) ≤ n → labels_within n (spelling ls) ≡ ls
labels_within-spelling zero [] a h = refl
labels_within-spelling (suc n) [] a h = refl
labels_within-spelling zero (l ∷ ls) a h = absurd (omega arith)
labels_within-spelling (suc n) ([] ∷ ls) a h = absurd (omega arith)
labels_within-spelling (suc n) ((x ∷ xs) ∷ ls) a h =
    let short : length (spelling ls) ≤ n = omega (arith, length-append xs (spelling ls)) in
    cc (take-append_seam xs (spelling ls), drop-append_seam xs (spelling ls), labels_within-spelling n ls a.1 short)

pub labels_of-spelling : (ls : List (List ℕ)) → AllByRecursion IsLabel ls → labels_of (spelling ls) ≡ ls
labels_of-spelling ls a = labels_within-spelling _ ls a (omega arith)

-- a spelling of a domain's labels is one
pub spelled : (bytes : List ℕ) (ls : List (List ℕ)) → IsDomain ls → bytes ≡ spelling ls → IsSpelled bytes
spelled bytes ls d e =
    let same : labels_of bytes ≡ ls = rw e (labels_of-spelling ls d.each) in
    record { domain = rw same d; exact = rw same e }

-- the labels after their length bytes, without the zero byte at the end
abbrev pub body : List (List ℕ) → List ℕ
body [] = []
body (l ∷ ls) = length l ∷ (l ++ body ls)

pub spelling-body : (ls : List (List ℕ)) → spelling ls ≡ body ls ++ 0 ∷ []
spelling-body [] = refl
spelling-body (l ∷ ls) = cc (spelling-body ls, append_assoc l (body ls) (0 ∷ []))

pub body-append : (ls ms : List (List ℕ)) → body (ls ++ ms) ≡ body ls ++ body ms
body-append [] ms = refl
body-append (l ∷ ls) ms = cc (body-append ls ms, append_assoc l (body ls) (body ms))

pub AllByRecursion-snoc : (ls : List (List ℕ)) (l : List ℕ) → AllByRecursion IsLabel ls → IsLabel l → AllByRecursion IsLabel (ls ++ l ∷ [])
AllByRecursion-snoc [] l a h = (h, tt)
AllByRecursion-snoc (x ∷ xs) l a h = (a.0, AllByRecursion-snoc xs l a.1 h)

pub length-spelling-snoc : (ls : List (List ℕ)) (l : List ℕ) → length (spelling (ls ++ l ∷ [])) ≡ length (spelling ls) + (length l + 1)
length-spelling-snoc [] l = omega (arith, length-append l (0 ∷ []))
length-spelling-snoc (x ∷ xs) l = omega (arith, length-append x (spelling (xs ++ l ∷ [])), length-append x (spelling xs), length-spelling-snoc xs l)

-- the bytes without their zero, and a label and a zero after them
pub spelling-pushed : (ls : List (List ℕ)) (old popped new l : List ℕ) → old ≡ spelling ls → popped ≡ take (length old - 1) old → new ≡ ((popped ++ length l ∷ []) ++ l) ++ 0 ∷ [] → new ≡ spelling (ls ++ l ∷ [])
spelling-pushed ls old popped new l e p n =
    let is : old ≡ body ls ++ 0 ∷ [] = e ∙ spelling-body ls in
    let count : length old - 1 ≡ length (body ls) = omega (arith, ap length is, length-append (body ls) (0 ∷ [])) in
    let front : popped ≡ body ls = p ∙ (rw (count, is) (take-append_seam (body ls) (0 ∷ []))) in
    n ∙ rw (front, spelling-body, body-append) (cc (append_assoc (body ls) (length l ∷ []) l, append-nil l))

-- a label after a domain's
pub IsDomain-pushed : (ls : List (List ℕ)) (l : List ℕ) → IsDomain ls → IsLabel l → length (spelling ls) + (length l + 1) ≤ 255 → IsDomain (ls ++ l ∷ [])
IsDomain-pushed ls l d h short =
    record { each = AllByRecursion-snoc ls l d.each h; short = omega (arith, length-spelling-snoc ls l) }

pub labels_of-spelled : (ls : List (List ℕ)) (bytes : List ℕ) → IsDomain ls → bytes ≡ spelling ls → labels_of bytes ≡ ls
labels_of-spelled ls bytes d e = rw e (labels_of-spelling ls d.each)

-- a first byte of 0, or one above what follows, spells no label
pub none_spelled : (ls : List (List ℕ)) (size : ℕ) (rest : List ℕ) → AllByRecursion IsLabel ls → size ∷ rest ≡ spelling ls → (size ≡ 0) ⊎ (length rest < size) → ls ≡ []
none_spelled [] size rest a e w = refl
none_spelled (l ∷ ls) size rest a e w =
    let first : size ≡ length l = cc in
    let others : rest ≡ l ++ spelling ls = cc in
    absurd (grind (arith, length-append l (spelling ls), ap length others, first, a, w))

-- a first byte that isn't 0 spells a label, which stands after it
pub some_spelled : (ls : List (List ℕ)) (size : ℕ) (rest : List ℕ) → AllByRecursion IsLabel ls → size ∷ rest ≡ spelling ls → 0 < size → (more : List (List ℕ)) × (ls ≡ take size rest ∷ more) × (drop size rest ≡ spelling more)
some_spelled [] size rest a e w = absurd (let zero_is : size ≡ 0 = cc in omega arith)
some_spelled (l ∷ ls) size rest a e w =
    let first : size ≡ length l = cc in
    let others : rest ≡ l ++ spelling ls = cc in
    (ls, rw (first, others, take-append_seam l (spelling ls)) refl, rw (first, others, drop-append_seam l (spelling ls)) refl)

pub spelling-not_empty : (ls : List (List ℕ)) → length (spelling ls) ≢ 0
spelling-not_empty [] = omega arith
spelling-not_empty (l ∷ ls) = omega arith

-- the labels after a domain name's first are one
pub IsDomain-rest : (ls : List (List ℕ)) (l : List ℕ) (rest : List (List ℕ)) → ls ≡ l ∷ rest → IsDomain ls → IsDomain rest
IsDomain-rest ls l rest is d =
    let whole = rw is at d in
    record { each = whole.each.1; short = omega (arith, whole.short, length-append l (spelling rest)) }

-- labels whose spelling is of bytes are of bytes
AllByRecursion-split : (P : ℕ → Type 0) (xs ys : List ℕ) → AllByRecursion P (xs ++ ys) → AllByRecursion P xs × AllByRecursion P ys
AllByRecursion-split P [] ys a = (tt, a)
AllByRecursion-split P (x ∷ xs) ys a = let rest = AllByRecursion-split P xs ys a.1 in ((a.0, rest.0), rest.1)

pub AreByteLabels-spelled : (ls : List (List ℕ)) → AreBytes (spelling ls) → AreByteLabels ls
AreByteLabels-spelled [] a = tt
AreByteLabels-spelled (l ∷ ls) a =
    let parts = AllByRecursion-split _ l (spelling ls) a.1 in (parts.0, AreByteLabels-spelled ls parts.1)

-- a domain name's first label, and the spelling of the others
pub split_is : {S : Type 0} (ls : List (List ℕ)) (label others : S → List ℕ) (split : Option S) → IsDomain ls
    → MatchOption split (ls ≡ []) (λ s. BeginsWith ls (label s) (others s))
    → MatchOption split (ls ≡ []) (λ s. (ls ≡ label s ∷ labels_of (others s)) × IsSpelled (others s))
split_is ls label others None domain h = h
split_is ls label others (Some s) domain h =
    let rest = IsDomain-rest ls (label s) h.0 h.1 domain in
    (rw (labels_of-spelled h.0 (others s) rest h.2) h.1, spelled (others s) h.0 rest h.2)

-- one byte spells no label
pub no_label_spelled : (ls : List (List ℕ)) → length (spelling ls) ≡ 1 → ls ≡ []
no_label_spelled [] e = refl
no_label_spelled (l ∷ []) e = absurd (omega (arith, e, length-append l (spelling [])))
no_label_spelled (l ∷ k ∷ ls) e = absurd (omega (arith, e, length-append l (spelling (k ∷ ls))))

-- what a push leaves is a scope
pub IsScope-pushed : (old new : List (List ℕ)) (label : List ℕ) (answer : Result Unit LabelFault) → Pushes 222 old new label answer → IsScope old → IsScope new
IsScope-pushed old new label (Ok _) h scope =
    rw h.2 (record {
      domain = IsDomain-pushed old label scope.domain h.0 (omega (arith, h.1, length-spelling-snoc old label));
      short = h.1;
    })
IsScope-pushed old new label (Err fault) h scope = rw h.1 scope
