-- Bytes that are parts of one length, one after the other, and what is true of all such.
use Rattle.std.proofs.Common.{◌≡◌, ℕ, ◌+◌, ◌*◌, ◌/◌, ◌%◌, ◌<◌, ◌≤◌, List, [], ◌∷◌, length, take, drop, get_or, zero, suc, refl, ap, sym, ◌∙◌, arith, length-drop, length-append}
use Rattle.std.proofs.Math.Nat.{mul-suc, div-add-mod}
use Rattle.std.proofs.lemmas.List.{take-append-drop, length-take-le, drop-drop, get_or-drop, take_at, drop_at}
use Rattle.std.proofs.lemmas.Option.{slice_get_past}
use Rattle.std.specs.List.{flat_map, slice_get, AllByRecursion}
use Rattle.std.specs.Prelude.{Some, None}

-- parts size item count bytes: what so many parts at the front stand for, each of this size
abbrev pub parts : {A : Type 0} → ℕ → (List ℕ → A) → ℕ → List ℕ → List A
parts size item zero bytes = []
parts size item (suc count) bytes = item (take size bytes) ∷ parts size item count (drop size bytes)

-- each byte has eight bits
abbrev pub AreSmall : List ℕ → Type 0
AreSmall bs = (i : ℕ) → get_or bs i 0 < 256

-- ---- lemmas of parts

none_small : AreSmall []
none_small i = omega arith

pub small_take : (n : ℕ) (bs : List ℕ) → AreSmall bs → AreSmall (take n bs)
small_take zero bs s i = none_small i
small_take (suc n) [] s i = none_small i
small_take (suc n) (b ∷ bs) s zero = s 0
small_take (suc n) (b ∷ bs) s (suc i) = small_take n bs (λ j. s (suc j)) i

pub small_drop : (n : ℕ) (bs : List ℕ) → AreSmall bs → AreSmall (drop n bs)
small_drop n bs s i = rw (get_or-drop n bs i 0) (s (n + i))

pub length-parts : {A : Type 0} (size : ℕ) (item : List ℕ → A) (n : ℕ) (bs : List ℕ) → length (parts size item n bs) ≡ n
length-parts size item zero bs = refl
length-parts size item (suc n) bs = omega (arith, length-parts size item n (drop size bs))

pub get-parts : {A : Type 0} (size : ℕ) (item : List ℕ → A) (n i : ℕ) (bs : List ℕ) → i < n → slice_get (parts size item n bs) i ≡ Some (item (take size (drop (size * i) bs)))
get-parts size item zero i bs low = absurd (omega arith)
get-parts size item (suc n) zero bs low =
    let none : size * 0 ≡ 0 = omega arith in rw none refl
get-parts size item (suc n) (suc i) bs low =
    let more : size * suc i ≡ size + size * i = omega (arith, mul-suc size i) in
    get-parts size item n i (drop size bs) (omega arith)
    ∙ ap (λ (xs : List ℕ). Some (item (take size xs))) (drop-drop (size * i) size bs ∙ ap (λ (k : ℕ). drop k bs) (sym more))

pub get_past-parts : {A : Type 0} (size : ℕ) (item : List ℕ → A) (n i : ℕ) (bs : List ℕ) → n ≤ i → slice_get (parts size item n bs) i ≡ None
get_past-parts size item n i bs low = slice_get_past (parts size item n bs) i (omega (arith, length-parts size item n bs))

empty : (bs : List ℕ) → length bs ≡ 0 → [] ≡ bs
empty [] e = refl
empty (b ∷ bs) e = absurd (omega arith)

pub flat-parts : {A : Type 0} (size : ℕ) (item : List ℕ → A) (f : A → List ℕ) (n : ℕ) (bs : List ℕ) → ((part : List ℕ) → length part ≡ size → AreSmall part → f (item part) ≡ part) →
    size * n ≡ length bs → AreSmall bs → flat_map f (parts size item n bs) ≡ bs
flat-parts size item f zero bs each e s = empty bs (let none : size * 0 ≡ 0 = omega arith in omega arith)
flat-parts size item f (suc n) bs each e s =
    let more : size * suc n ≡ size * n + size = mul-suc size n in
    let long : length (take size bs) ≡ size = length-take-le size bs (omega (arith, e, more)) in
    let first = each (take size bs) long (small_take size bs s) in
    let rest = flat-parts size item f n (drop size bs) each (omega (arith, e, more, length-drop size bs)) (small_drop size bs s) in
    cc (first, rest, take-append-drop size bs)

pub whole_parts : (size n : ℕ) → n % size ≡ 0 → size * (n / size) ≡ n
whole_parts size n whole = omega (arith, div-add-mod n size, whole)

-- AreWritten size item f P: where P is true of an item, f writes it in so many bytes, of which it is read
abbrev pub AreWritten : {A : Type 0} → ℕ → (List ℕ → A) → (A → List ℕ) → (A → Type 0) → Type 0
AreWritten {A} size item f P = (x : A) → P x → (length (f x) ≡ size) × (item (f x) ≡ x)

pub parts-flat : {A : Type 0} (size : ℕ) (item : List ℕ → A) (f : A → List ℕ) (P : A → Type 0) (xs : List A) → AreWritten size item f P
    → AllByRecursion P xs → parts size item (length xs) (flat_map f xs) ≡ xs
parts-flat size item f P [] each a = refl
parts-flat size item f P (x ∷ xs) each a =
    let one = each x a.0 in
    let read = one.1 in
    let front = take_at (f x) (flat_map f xs) size one.0 in
    let behind = drop_at (f x) (flat_map f xs) size one.0 in
    let rest = parts-flat size item f P xs each a.1 in
    cc (front, behind, read, rest)

pub length-flat : {A : Type 0} (size : ℕ) (item : List ℕ → A) (f : A → List ℕ) (P : A → Type 0) (xs : List A) → AreWritten size item f P
    → AllByRecursion P xs → length (flat_map f xs) ≡ size * length xs
length-flat size item f P [] each a = omega arith
length-flat size item f P (x ∷ xs) each a =
    let long = (each x a.0).0 in
    let rest = length-flat size item f P xs each a.1 in
    omega (arith, long, rest, length-append (f x) (flat_map f xs))
