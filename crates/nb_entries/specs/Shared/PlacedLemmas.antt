-- The bytes of a fragment with their places, and what a look-up finds among them.
use Rattle.std.proofs.Common.{◌≡◌, ◌<◌, ℕ, Bool, true, false, cond, Option, Some, None, refl, sym, ◌∙◌, ap, arith, ◌≢◌, ◌≤◌, ◌+◌, ◌-◌, ◌==◌, ◌++◌, suc, List, [], ◌∷◌, slice_get, nat_le}
use Rattle.std.proofs.lemmas.Bool.{leb-true, le-leb, eqb-true, eq-eqb, leb-false, lt-leb}
use Rattle.std.proofs.lemmas.Option.{none-some, same_Some, slice_get_within}
use Rattle.nb_datagram.specs.Fragment.{Core, reach, Covers, EndsAt, byte_of, end_of_one}
use Rattle.nb_entries.specs.Marks.{Promises, promise_of_one}
use Rattle.nb_entries.specs.Piece.{PieceParts, piece_of, piece_reach}
use Rattle.nb_entries.specs.Cover.{BytesBelow, placed, piece_cover, cover_of, AreCoverFacts}
use Rattle.std.specs.declared.cmp.Ordering.{Ordering}
use Rattle.std.specs.Ordering.{nat_cmp, eq_by_cmp}
use Rattle.std.specs.Cmp.{nat_cmp_total, unsigned_tied}
use Rattle.std.specs.FinMap as map
use Rattle.nb_entries.specs.Maps.{first_of}

-- ---- what a fragment promises

promised : (b : Bool) (m r : ℕ) → cond b (Some m) None ≡ Some r → (b ≡ true) × (m ≡ r)
promised true m r e = (refl, same_Some m r e)
promised false m r e = absurd (none-some r e)

pub promise_of_decides : (f : Core) (r : ℕ) → (promise_of_one f ≡ Some r → Promises f r) × (Promises f r → promise_of_one f ≡ Some r)
promise_of_decides f r = (
  promised f.more (reach f) r,
  λ p. ap (λ b. cond b (Some (reach f)) None) p.0 ∙ ap Some p.1,
)

-- ---- one fragment

cond_same : {X : Type 0} (b : Bool) (x : X) → x ≡ cond b x x
cond_same true x = refl
cond_same false x = refl

placed_step : (i x q : ℕ) (xs : List ℕ) (rest : Option ℕ) → rest ≡ cond (nat_le (i + 1) q) (slice_get xs (q - (i + 1))) None → (b : Bool) → (q == i) ≡ b → (c : Bool) → nat_le i q ≡ c → cond b (Some x) rest ≡ cond c (slice_get (x ∷ xs) (q - i)) None
placed_step i x q xs rest r true e true f =
    let here : q ≡ i = eqb-true q i e in
    let zero : q - i ≡ 0 = omega arith in
    sym (ap (slice_get (x ∷ xs)) zero)
placed_step i x q xs rest r true e false f =
    let here : q ≡ i = eqb-true q i e in
    let below : q < i = leb-false i q f in
    absurd (omega arith)
placed_step i x q xs rest r false e true f =
    let from : i ≤ q = leb-true i q f in
    let other : q ≢ i = λ h. (let clash : true ≡ false = sym (eq-eqb q i h) ∙ e in cc clash) in
    let past : i + 1 ≤ q = omega (arith, from, other) in
    let next : q - i ≡ suc (q - (i + 1)) = omega arith in
    r ∙ ap (λ b. cond b (slice_get xs (q - (i + 1))) None) (le-leb (i + 1) q past) ∙ sym (ap (slice_get (x ∷ xs)) next)
placed_step i x q xs rest r false e false f =
    let below : q < i = leb-false i q f in
    r ∙ ap (λ b. cond b (slice_get xs (q - (i + 1))) None) (lt-leb (i + 1) q (omega arith))

pub find-placed : (i : ℕ) (xs : List ℕ) (q : ℕ) → map.find nat_cmp q (placed i xs) ≡ cond (nat_le i q) (slice_get xs (q - i)) None
find-placed i [] q = cond_same (nat_le i q) None
find-placed i (x ∷ xs) q =
    placed_step i x q xs (map.find nat_cmp q (placed (i + 1) xs)) (find-placed (i + 1) xs q) (eq_by_cmp nat_cmp q i) (sym (unsigned_tied q i)) (nat_le i q) refl

-- the byte that a fragment has at a place
pub get-cover_of : (f : Core) (q : ℕ) → map.get (cover_of f).bytes q ≡ byte_of f q
get-cover_of f q = map.get-from_entries nat_cmp_total (placed f.offset f.bytes) q ∙ find-placed f.offset f.bytes q

-- ---- tests and relations of one fragment

pub taken : {X : Type 0} (b : Bool) (o : Option X) (x : X) → cond b o None ≡ Some x → (b ≡ true) × (o ≡ Some x)
taken true o x e = (refl, e)
taken false o x e = absurd (cc)

pub byte_of_decides : (f : Core) (i x : ℕ) → (byte_of f i ≡ Some x → Covers f i x) × (Covers f i x → byte_of f i ≡ Some x)
byte_of_decides f i x = (
  λ e. let both = taken (nat_le f.offset i) (slice_get f.bytes (i - f.offset)) x e in (leb-true f.offset i both.0, both.1),
  λ c. ap (λ b. cond b (slice_get f.bytes (i - f.offset)) None) (le-leb f.offset i c.0) ∙ c.1,
)

ended : (b : Bool) (m n : ℕ) → cond b None (Some m) ≡ Some n → (b ≡ false) × (m ≡ n)
ended true m n e = absurd (cc)
ended false m n e = (refl, cc)

pub end_of_decides : (f : Core) (n : ℕ) → (end_of_one f ≡ Some n → EndsAt f n) × (EndsAt f n → end_of_one f ≡ Some n)
end_of_decides f n = (
  ended f.more (reach f) n,
  λ e. ap (λ b. cond b None (Some (reach f))) e.0 ∙ ap Some e.1,
)

-- a place that a fragment covers is below its reach
pub covers_below : (f : Core) (i x : ℕ) → Covers f i x → i < reach f
covers_below f i x c = let inside = slice_get_within f.bytes (i - f.offset) x c.1 in let from = c.0 in omega (arith, inside, from)

-- a place that a piece has a byte at is below its reach
pub piece_below : (p : PieceParts) (q x : ℕ) → map.get (piece_cover p).bytes q ≡ Some x → q < piece_reach p
piece_below p q x g =
    let found = sym (map.get-from_entries nat_cmp_total (placed p.offset p.bytes) q ∙ find-placed p.offset p.bytes q) ∙ g in
    let there = taken (nat_le p.offset q) (slice_get p.bytes (q - p.offset)) x found in
    let from = leb-true p.offset q there.0 in
    let inside = slice_get_within p.bytes (q - p.offset) x there.1 in
    omega (arith, inside, from)

-- what one piece says is well formed
pub piece_formed : (p : PieceParts) → AreCoverFacts (piece_cover p)
piece_formed p = λ n e. let ends = ended p.more (piece_reach p) n e in record {
  marks = λ r h. let promises = promised p.more (piece_reach p) r h in let clash : true ≡ false = sym promises.0 ∙ ends.0 in absurd (cc clash);
  bytes = λ q x g. let below = piece_below p q x g in omega (arith, below, ends.1);
}

-- what one fragment says is well formed
pub cover_of_formed : (f : Core) → AreCoverFacts (cover_of f)
cover_of_formed f = piece_formed (piece_of f)

-- ---- several

-- what is found in one list after another
pub find-append : {K X : Type 0} (R : K → K → Ordering) (xs ys : List (K × X)) (q : K) → map.find R q (xs ++ ys) ≡ first_of (map.find R q xs) (map.find R q ys)
find-append R [] ys q = refl
find-append R (x ∷ xs) ys q = step (eq_by_cmp R q x.0) (find-append R xs ys q)
  where
    step : (b : Bool) → map.find R q (xs ++ ys) ≡ first_of (map.find R q xs) (map.find R q ys) → cond b (Some x.1) (map.find R q (xs ++ ys)) ≡ first_of (cond b (Some x.1) (map.find R q xs)) (map.find R q ys)
    step true rec = refl
    step false rec = rec

-- the bytes of a fragment lie below each place that its reach is at most
pub below_by_reach : (f : Core) (n : ℕ) → reach f ≤ n → BytesBelow n (cover_of f).bytes
below_by_reach f n h i x g = let below = piece_below (piece_of f) i x g in omega (arith, below, h)
