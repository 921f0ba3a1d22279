-- A fault excludes a name, and there is one.
use Rattle.std.proofs.Common.{◌≡◌, ◌≢◌, ℕ, ◌+◌, ◌<◌, ◌≤◌, List, [], ◌∷◌, ◌++◌, length, take, drop, max, refl, get_or, ap, sym, subst, ◌∙◌, arith, inl, inr, append_assoc, length-append, nat_lt, nat_le, nat_eq, if◌then◌else◌}
use Rattle.std.proofs.lemmas.Bool.Decides.{nat_tests}
use Rattle.std.proofs.lemmas.List.{take-append-le, drop-append-le, length-drop}
use Rattle.nb_names.specs.declared.reading.Pointers.{Pointers}
use Rattle.nb_names.specs.declared.reading.Pointers.TheVariants.{Followed, Refused}
use Rattle.nb_names.specs.declared.fault.NameFault.{NameFault}
use Rattle.nb_names.specs.declared.fault.NameFault.TheVariants.{Truncated, ReservedLabel, PointerNotAllowed, BadPointer, TooLong, NotNetbios}
use Rattle.nb_names.specs.DomainName.{spelling, IsLabel}
use Rattle.nb_streams.specs.Places.{StandsAt}
use Rattle.nb_names.specs.Labels.{IsPointer, LabelsAt, ends, goes_on, leads_to, NameAt}
use Rattle.nb_names.specs.NameFaults.{OnWay, begins, behind_label, along_pointer, IsCut, no_length_byte, short_label, half_pointer, IsReserved, FaultHere, cut, reserved, not_allowed, not_below, too_long, FaultAt, NetbiosFaultAt, on_way, not_netbios}
use Rattle.nb_names.specs.FirstLevel.{IsFirstNonLetter}
use Rattle.nb_names.specs.Name.{NetbiosName, IsName, IsNoName, no_label, wrong_length, non_letter, labels_of_name}
use Rattle.std.proofs.lemmas.Bool.{cases_lt}
use Rattle.nb_names.proofs.NameLemmas.{name_length, name_letters}
use Rattle.nb_names.proofs.SpellingLemmas.{length-spelling-snoc}
use Rattle.nb_names.specs.NameFacts.{spelling-some}
use Rattle.nb_streams.specs.PacketFacts.{stands_same, stands_fits}
use Rattle.nb_names.proofs.LabelsLemmas.{stands_first, one_target, pointer_first, IsDomain-read, one_reading}

-- ---- what a length byte begins is one thing

pub data Sort : Type 0 where
  cuts : Sort
  ends_name : Sort
  begins_label : Sort
  reserves : Sort
  points : Sort

abbrev pub sort_at : List ℕ → ℕ → Sort
sort_at packet at =
    if nat_le (length packet) at then cuts
    else if nat_eq (get_or packet at 0) 0 then ends_name
    else if nat_le (get_or packet at 0) 63 then (if nat_lt (length packet) (at + 1 + get_or packet at 0) then cuts else begins_label)
    else if nat_lt (get_or packet at 0) 192 then reserves
    else if nat_lt (length packet) (at + 2) then cuts
    else points

pub sort_end : (packet : List ℕ) (at : ℕ) → StandsAt packet at (0 ∷ []) → sort_at packet at ≡ ends_name
sort_end packet at h =
    let fits = stands_fits packet at _ h (omega arith) in
    let first = stands_first packet at _ _ h in
    grind (arith, nat_tests)

pub sort_label : (packet : List ℕ) (at : ℕ) (l : List ℕ) → IsLabel l → StandsAt packet at (length l ∷ l) → sort_at packet at ≡ begins_label
sort_label packet at l f h =
    let fits = stands_fits packet at _ h (omega arith) in
    let first = stands_first packet at _ _ h in
    grind (arith, nat_tests)

pub sort_cut : (packet : List ℕ) (at : ℕ) → IsCut packet at → sort_at packet at ≡ cuts
sort_cut packet at (no_length_byte h) = grind (arith, nat_tests)
sort_cut packet at (short_label size there some small past) =
    let fits = stands_fits packet at _ there (omega arith) in
    let first = stands_first packet at _ _ there in
    grind (arith, nat_tests)
sort_cut packet at (half_pointer first there high past) =
    let fits = stands_fits packet at _ there (omega arith) in
    let is = stands_first packet at _ _ there in
    grind (arith, nat_tests)

pub sort_reserved : (packet : List ℕ) (at : ℕ) → IsReserved packet at → sort_at packet at ≡ reserves
sort_reserved packet at r =
    let fits = stands_fits packet at _ r.there (omega arith) in
    let first = stands_first packet at _ _ r.there in
    grind (arith, nat_tests)

pub sort_pointer : (packet : List ℕ) (at t : ℕ) → IsPointer packet at t → sort_at packet at ≡ points
sort_pointer packet at t p =
    let fits = stands_fits packet at _ p.bytes (omega arith) in
    let first = pointer_first packet at t p in
    grind (arith, nat_tests)

-- ---- one fault at a length byte

-- the fault at a length byte, if there is one
abbrev pub fault_of : Sort → Pointers → List ℕ → ℕ → ℕ → NameFault
fault_of cuts q packet at here = Truncated (max at (length packet))
fault_of ends_name q packet at here = TooLong here
fault_of begins_label q packet at here = TooLong here
fault_of reserves q packet at here = ReservedLabel here
fault_of points Refused packet at here = PointerNotAllowed here
fault_of points Followed packet at here = BadPointer here

pub fault_is : (packet : List ℕ) (q : Pointers) (at start here : ℕ) (ls : List (List ℕ)) (f : NameFault) → FaultHere packet q at start here ls f → f ≡ fault_of (sort_at packet here) q packet at here
fault_is packet q at start here ls f (cut h) = ap (λ (s : Sort). fault_of s q packet at here) (sym (sort_cut packet here h))
fault_is packet q at start here ls f (reserved h) = ap (λ (s : Sort). fault_of s q packet at here) (sym (sort_reserved packet here h))
fault_is packet q at start here ls f (not_allowed t p e) =
    ap (λ (x : Pointers). fault_of points x packet at here) (sym e) ∙ ap (λ (s : Sort). fault_of s q packet at here) (sym (sort_pointer packet here t p))
fault_is packet q at start here ls f (not_below t p e low) =
    ap (λ (x : Pointers). fault_of points x packet at here) (sym e) ∙ ap (λ (s : Sort). fault_of s q packet at here) (sym (sort_pointer packet here t p))
fault_is packet q at start here ls f (too_long l g h long) = ap (λ (s : Sort). fault_of s q packet at here) (sym (sort_label packet here l g h))

pub one_label : (packet : List ℕ) (at : ℕ) (l k : List ℕ) → StandsAt packet at (length l ∷ l) → StandsAt packet at (length k ∷ k) → l ≡ k
one_label packet at l k b c =
    let long : length l ≡ length k = omega (arith, stands_first packet at _ l b, stands_first packet at _ k c) in
    let whole : length l ∷ l ≡ length k ∷ k = stands_same packet at (length l ∷ l) (length k ∷ k) b c (omega arith) in
    cc

pub none_at_end : (packet : List ℕ) (q : Pointers) (at start here : ℕ) (ls : List (List ℕ)) (f : NameFault) → FaultHere packet q at start here ls f → StandsAt packet here (0 ∷ []) → ⊥
none_at_end packet q at start here ls f (cut h) z = let a = sort_cut packet here h in let b = sort_end packet here z in cc
none_at_end packet q at start here ls f (reserved h) z = let a = sort_reserved packet here h in let b = sort_end packet here z in cc
none_at_end packet q at start here ls f (not_allowed t p e) z = let a = sort_pointer packet here t p in let b = sort_end packet here z in cc
none_at_end packet q at start here ls f (not_below t p e low) z = let a = sort_pointer packet here t p in let b = sort_end packet here z in cc
none_at_end packet q at start here ls f (too_long l g h long) z = let a = sort_label packet here l g h in let b = sort_end packet here z in cc

pub none_at_label : (packet : List ℕ) (q : Pointers) (at start here : ℕ) (ls : List (List ℕ)) (f : NameFault) (k : List ℕ) → FaultHere packet q at start here ls f →
    IsLabel k → StandsAt packet here (length k ∷ k) → length (spelling (ls ++ k ∷ [])) ≤ 255 → ⊥
none_at_label packet q at start here ls f k (cut h) i z s = let a = sort_cut packet here h in let b = sort_label packet here k i z in cc
none_at_label packet q at start here ls f k (reserved h) i z s = let a = sort_reserved packet here h in let b = sort_label packet here k i z in cc
none_at_label packet q at start here ls f k (not_allowed t p e) i z s = let a = sort_pointer packet here t p in let b = sort_label packet here k i z in cc
none_at_label packet q at start here ls f k (not_below t p e low) i z s = let a = sort_pointer packet here t p in let b = sort_label packet here k i z in cc
none_at_label packet q at start here ls f k (too_long l g h long) i z s =
    let same : length l ≡ length k = ap length (one_label packet here l k h z) in
    omega (arith, length-spelling-snoc ls l, length-spelling-snoc ls k)

pub none_at_pointer : (packet : List ℕ) (q : Pointers) (at start here : ℕ) (ls : List (List ℕ)) (f : NameFault) (u : ℕ) → FaultHere packet q at start here ls f →
    q ≡ Followed → IsPointer packet here u → u < start → ⊥
none_at_pointer packet q at start here ls f u (cut h) e z s = let a = sort_cut packet here h in let b = sort_pointer packet here u z in cc
none_at_pointer packet q at start here ls f u (reserved h) e z s = let a = sort_reserved packet here h in let b = sort_pointer packet here u z in cc
none_at_pointer packet q at start here ls f u (not_allowed t p g) e z s = cc
none_at_pointer packet q at start here ls f u (not_below t p g low) e z s = omega (arith, one_target packet here t u p z)
none_at_pointer packet q at start here ls f u (too_long l g h long) e z s = let a = sort_label packet here l g h in let b = sort_pointer packet here u z in cc

-- ---- the rest of the way to a fault

-- from the length byte at `here` on, this is the first fault
pub data Fails (packet : List ℕ) (pointers : Pointers) (at : ℕ) : ℕ → ℕ → List (List ℕ) → NameFault → Type 0 where
  fails_here : {start here : ℕ} {labels : List (List ℕ)} {fault : NameFault} → FaultHere packet pointers at start here labels fault → Fails packet pointers at start here labels fault
  fails_behind : {start here : ℕ} {labels : List (List ℕ)} {fault : NameFault} (label : List ℕ) → IsLabel label → StandsAt packet here (length label ∷ label)
      → length (spelling (labels ++ label ∷ [])) ≤ 255 → Fails packet pointers at start (here + 1 + length label) (labels ++ label ∷ []) fault → Fails packet pointers at start here labels fault
  fails_along : {start here : ℕ} {labels : List (List ℕ)} {fault : NameFault} (target : ℕ) → pointers ≡ Followed → IsPointer packet here target
      → target < start → Fails packet pointers at target target labels fault → Fails packet pointers at start here labels fault

pub fails_from : (packet : List ℕ) (q : Pointers) (at start here : ℕ) (ls : List (List ℕ)) (f : NameFault) → OnWay packet q at start here ls → Fails packet q at start here ls f → Fails packet q at at at [] f
fails_from packet q at start here ls f begins h = h
fails_from packet q at start here ls f (behind_label {start = s} {here = n} {labels = ms} l way i b short) h = fails_from packet q at s n ms f way (fails_behind l i b short h)
fails_from packet q at start here ls f (along_pointer {start = s} {here = n} t way e p low) h = fails_from packet q at s n ls f way (fails_along t e p low h)

pub fails_at : (packet : List ℕ) (q : Pointers) (at : ℕ) (f : NameFault) → FaultAt packet q at f → Fails packet q at at at [] f
fails_at packet q at f h = fails_from packet q at h.start h.here h.labels f h.way (fails_here h.applies)

pub one_failure : (packet : List ℕ) (q : Pointers) (at start here : ℕ) (ls : List (List ℕ)) (f g : NameFault) → Fails packet q at start here ls f → Fails packet q at start here ls g → f ≡ g
one_failure packet q at start here ls f g (fails_here a) (fails_here b) = fault_is packet q at start here ls f a ∙ sym (fault_is packet q at start here ls g b)
one_failure packet q at start here ls f g (fails_here a) (fails_behind k i c s w) = absurd (none_at_label packet q at start here ls f k a i c s)
one_failure packet q at start here ls f g (fails_here a) (fails_along u e p low w) = absurd (none_at_pointer packet q at start here ls f u a e p low)
one_failure packet q at start here ls f g (fails_behind k i c s w) (fails_here a) = absurd (none_at_label packet q at start here ls g k a i c s)
one_failure packet q at start here ls f g (fails_behind l i b s v) (fails_behind k j c t w) =
    let same : k ≡ l = one_label packet here k l c b in
    one_failure packet q at start (here + 1 + length l) (ls ++ l ∷ []) f g v (subst (λ (x : List ℕ). Fails packet q at start (here + 1 + length x) (ls ++ x ∷ []) g) same w)
one_failure packet q at start here ls f g (fails_behind k i c s w) (fails_along u e p low v) =
    let a = sort_label packet here k i c in let b = sort_pointer packet here u p in absurd (cc)
one_failure packet q at start here ls f g (fails_along u e p low w) (fails_here a) = absurd (none_at_pointer packet q at start here ls g u a e p low)
one_failure packet q at start here ls f g (fails_along u e p low v) (fails_behind k i c s w) =
    let a = sort_label packet here k i c in let b = sort_pointer packet here u p in absurd (cc)
one_failure packet q at start here ls f g (fails_along t e p low v) (fails_along u h o under w) =
    let same : u ≡ t = one_target packet here u t o p in
    one_failure packet q at t t ls f g v (subst (λ (x : ℕ). Fails packet q at x x ls g) same w)

-- a fault at an offset is the only one there
pub one_fault : (packet : List ℕ) (q : Pointers) (at : ℕ) (f g : NameFault) → FaultAt packet q at f → FaultAt packet q at g → f ≡ g
one_fault packet q at f g a b = one_failure packet q at at at [] f g (fails_at packet q at f a) (fails_at packet q at g b)

-- ---- where a fault is, no labels stand

pub length-spelling-append : (ls ms : List (List ℕ)) → length (spelling (ls ++ ms)) + 1 ≡ length (spelling ls) + length (spelling ms)
length-spelling-append [] ms = omega arith
length-spelling-append (l ∷ ls) ms = omega (arith, length-append l (spelling (ls ++ ms)), length-append l (spelling ls), length-spelling-append ls ms)

pub fails_none : (packet : List ℕ) (q : Pointers) (at start here : ℕ) (ls more : List (List ℕ)) (f : NameFault) (n : ℕ) → Fails packet q at start here ls f →
    LabelsAt packet q start here more n → length (spelling (ls ++ more)) ≤ 255 → ⊥
fails_none packet q at start here ls more f n (fails_here a) (ends z) short = none_at_end packet q at start here ls f a z
fails_none packet q at start here ls more f n (fails_here a) (goes_on k ms i c s w) short =
    let whole = length-spelling-append ls (k ∷ ms) in
    let some = spelling-some ms in
    none_at_label packet q at start here ls f k a i c (omega (arith, length-spelling-snoc ls k, length-append k (spelling ms)))
fails_none packet q at start here ls more f n (fails_here a) (leads_to u behind e p low w) short = none_at_pointer packet q at start here ls f u a e p low
fails_none packet q at start here ls more f n (fails_behind l i b s v) (ends z) short =
    let x = sort_label packet here l i b in let y = sort_end packet here z in cc
fails_none packet q at start here ls more f n (fails_behind l i b s v) (goes_on k ms j c t w) short =
    let same : k ≡ l = one_label packet here k l c b in
    let moved : ls ++ (k ∷ ms) ≡ (ls ++ l ∷ []) ++ ms = sym (append_assoc ls (l ∷ []) ms ∙ ap (λ (x : List ℕ). ls ++ (x ∷ ms)) (sym same)) in
    fails_none packet q at start (here + 1 + length l) (ls ++ l ∷ []) ms f n v
    (subst (λ (x : List ℕ). LabelsAt packet q start (here + 1 + length x) ms n) same w)
    (subst (λ (x : List (List ℕ)). length (spelling x) ≤ 255) moved short)
fails_none packet q at start here ls more f n (fails_behind l i b s v) (leads_to u behind e p low w) short =
    let x = sort_label packet here l i b in let y = sort_pointer packet here u p in cc
fails_none packet q at start here ls more f n (fails_along t e p low v) (ends z) short =
    let x = sort_pointer packet here t p in let y = sort_end packet here z in cc
fails_none packet q at start here ls more f n (fails_along t e p low v) (goes_on k ms j c s w) short =
    let x = sort_label packet here k j c in let y = sort_pointer packet here t p in cc
fails_none packet q at start here ls more f n (fails_along t e p low v) (leads_to u behind h o under w) short =
    let same : u ≡ t = one_target packet here u t o p in
    fails_none packet q at t t ls more f behind v (subst (λ (x : ℕ). LabelsAt packet q x x more behind) same w) short

-- where a fault is, no name stands
pub no_name : (packet : List ℕ) (q : Pointers) (at : ℕ) (f : NameFault) → FaultAt packet q at f → (ls : List (List ℕ)) (n : ℕ) → NameAt packet q at ls n → ⊥
no_name packet q at f h ls n r = fails_none packet q at at at [] ls f n (fails_at packet q at f h) r (IsDomain-read packet q at at ls n r).short

-- ---- faults of a NetBIOS name

one_stranger : (label : List ℕ) (p q : ℕ) → IsFirstNonLetter label p → IsFirstNonLetter label q → p ≡ q
one_stranger label p q a b = elim (cases_lt p q) [
  | inl less ↦ absurd (a.non_letter (b.before p less))
  | inr more ↦ elim (cases_lt q p) [
    | inl less ↦ absurd (b.non_letter (a.before q less))
    | inr same ↦ omega arith
  ]
]

pub one_unlike : (ls : List (List ℕ)) (p q : ℕ) → IsNoName ls p → IsNoName ls q → p ≡ q
one_unlike ls p q no_label no_label = refl
one_unlike ls p q (wrong_length l r e) (wrong_length k t g) = refl
one_unlike ls p q (wrong_length l r e) (non_letter k t n g s) = absurd (e g)
one_unlike ls p q (non_letter k t n g s) (wrong_length l r e) = absurd (e g)
one_unlike ls p q (non_letter l r n e s) (non_letter k t m g u) = ap (λ (x : ℕ). 1 + x) (one_stranger l n m s u)

unlike_none : (name : NetbiosName) (ls : List (List ℕ)) (place : ℕ) → IsName name → labels_of_name name ≡ ls → IsNoName ls place → ⊥
unlike_none name ls place formed is no_label = cc
unlike_none name ls place formed is (wrong_length l r e) = e (name_length name l r formed is)
unlike_none name ls place formed is (non_letter l r n e s) = name_letters name l r n formed is s

pub one_netbios : (packet : List ℕ) (q : Pointers) (at : ℕ) (f g : NameFault) → NetbiosFaultAt packet q at f → NetbiosFaultAt packet q at g → f ≡ g
one_netbios packet q at f g (on_way a) (on_way b) = one_fault packet q at f g a b
one_netbios packet q at f g (on_way a) (not_netbios ls n p r u) = absurd (no_name packet q at f a ls n r)
one_netbios packet q at f g (not_netbios ls n p r u) (on_way a) = absurd (no_name packet q at g a ls n r)
one_netbios packet q at f g (not_netbios ls n p r u) (not_netbios ms m o s v) =
    let same = one_reading packet q at at ls ms n m r s in
    ap NotNetbios (one_unlike ls p o u (rw same.0 v))

pub no_netbios : (packet : List ℕ) (q : Pointers) (at : ℕ) (f : NameFault) (name : NetbiosName) (n : ℕ) → NetbiosFaultAt packet q at f → IsName name → NameAt packet q at (labels_of_name name) n → ⊥
no_netbios packet q at f name n (on_way a) formed r = no_name packet q at f a (labels_of_name name) n r
no_netbios packet q at f name n (not_netbios ms m o s v) formed r =
    unlike_none name ms o formed (one_reading packet q at at (labels_of_name name) ms n m r s).0 v

-- ---- bytes after a packet

stands_more : (packet more : List ℕ) (at : ℕ) (bytes : List ℕ) → 0 < length bytes → StandsAt packet at bytes → StandsAt (packet ++ more) at bytes
stands_more packet more at bytes some h =
    let fits = stands_fits packet at bytes h some in
    ap (λ (rest : List ℕ). take (length bytes) rest) (drop-append-le at packet more (omega arith))
    ∙ take-append-le (length bytes) (drop at packet) more (omega (arith, length-drop at packet)) ∙ h

pointer_more : (packet more : List ℕ) (at target : ℕ) → IsPointer packet at target → IsPointer (packet ++ more) at target
pointer_more packet more at target p = record { fits = p.fits; bytes = stands_more packet more at _ (omega arith) p.bytes }

pub labels_more : (packet more : List ℕ) (q : Pointers) (start at : ℕ) (ls : List (List ℕ)) (n : ℕ) → LabelsAt packet q start at ls n → LabelsAt (packet ++ more) q start at ls n
labels_more packet more q start at ls n (ends h) = ends (stands_more packet more at _ (omega arith) h)
labels_more packet more q start at ls n (goes_on l rest f h short r) =
    goes_on l rest f (stands_more packet more at _ (omega arith) h) short (labels_more packet more q start (at + 1 + length l) rest n r)
labels_more packet more q start at ls n (leads_to t behind f p low r) =
    leads_to t behind f (pointer_more packet more at t p) low (labels_more packet more q t t ls behind r)

way_more : (packet more : List ℕ) (q : Pointers) (at start here : ℕ) (ls : List (List ℕ)) → OnWay packet q at start here ls → OnWay (packet ++ more) q at start here ls
way_more packet more q at start here ls begins = begins
way_more packet more q at start here ls (behind_label {start = s} {here = n} {labels = ms} l way f h short) =
    behind_label l (way_more packet more q at s n ms way) f (stands_more packet more n _ (omega arith) h) short
way_more packet more q at start here ls (along_pointer {start = s} {here = n} t way f p low) =
    along_pointer t (way_more packet more q at s n ls way) f (pointer_more packet more n t p) low

fault_more : (packet more : List ℕ) (q : Pointers) (at start here : ℕ) (ls : List (List ℕ)) (fault : NameFault) → FaultHere packet q at start here ls fault → ((count : ℕ) → fault ≢ Truncated count) → FaultHere (packet ++ more) q at start here ls fault
fault_more packet more q at start here ls fault (cut h) other = absurd (other _ refl)
fault_more packet more q at start here ls fault (reserved h) other =
    reserved (record { first = h.first; there = stands_more packet more here _ (omega arith) h.there; low = h.low; high = h.high })
fault_more packet more q at start here ls fault (not_allowed t p e) other = not_allowed t (pointer_more packet more here t p) e
fault_more packet more q at start here ls fault (not_below t p e high) other = not_below t (pointer_more packet more here t p) e high
fault_more packet more q at start here ls fault (too_long l f h long) other = too_long l f (stands_more packet more here _ (omega arith) h) long

pub fault_at_more : (packet more : List ℕ) (q : Pointers) (at : ℕ) (fault : NameFault) → FaultAt packet q at fault → ((count : ℕ) → fault ≢ Truncated count) → FaultAt (packet ++ more) q at fault
fault_at_more packet more q at fault h other = record {
  start = h.start;
  here = h.here;
  labels = h.labels;
  way = way_more packet more q at h.start h.here h.labels h.way;
  applies = fault_more packet more q at h.start h.here h.labels fault h.applies other;
}
