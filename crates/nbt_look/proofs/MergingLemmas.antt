-- Merging files by the times of their frames.
use Rattle.std.proofs.Common.{◌≡◌, ◌≢◌, ◌∙◌, ◌⊎◌, inl, inr, ◌<◌, ◌≤◌, ◌++◌, ◌∷◌, ℕ, Bool, true, false, List, [], length, Option, Some, None, cond, drop, nat_eq, ap, refl, subst, suc, sym, arith}
use Rattle.std.proofs.lemmas.Bool.{cases_eq, cases_lt, eqb-true}
use Rattle.std.proofs.lemmas.Bool.Decides.{nat_tests}
use Rattle.nb_pcap.specs.Frame.{FrameValue}
use Rattle.nbt_look.specs.Merging.{BeginsFrom, IsAscending, IsNext, Merges, comes_first, first_of, none, not_after, of_place, one_more, without}

-- files that have the same frames at each place
pub same_files : (files others : ℕ → List FrameValue) → ((i : ℕ) → files i ≡ others i) → files ≡ others
same_files files others same = λ k. λ i. same i k

-- one frame more, after others
pub merges_more : (files left : ℕ → List FrameValue) (fs : List FrameValue) (at : ℕ) (f : FrameValue) → Merges files fs left → IsNext left at f
    → Merges files (fs ++ f ∷ []) (without at left)
merges_more _ left _ at f (none files) next = one_more files (without at files) at f [] next (none (without at files))
merges_more _ _ _ at f (one_more files left place g fs is rest) next =
    one_more files (without at left) place g (fs ++ f ∷ []) is (merges_more (without place files) left fs at f rest next)

-- ---- each file's frames

begins_with : (xs : List FrameValue) (f : FrameValue) → first_of xs ≡ Some f → xs ≡ f ∷ drop 1 xs
begins_with [] f is = absurd (cc is)
begins_with (x ∷ xs) f is = let same : x ≡ f = cc is in ap (λ y. y ∷ xs) same

put_back : (b : Bool) (xs ys zs : List FrameValue) (f : FrameValue) → (b ≡ true → first_of xs ≡ Some f) → cond b (drop 1 xs) xs ≡ ys ++ zs
    → xs ≡ cond b (f ∷ ys) ys ++ zs
put_back true xs ys zs f begins is = begins_with xs f (begins refl) ∙ ap (λ t. f ∷ t) is
put_back false xs ys zs f begins is = is

first_at : (files : ℕ → List FrameValue) (i at : ℕ) (f : FrameValue) → first_of (files at) ≡ Some f → nat_eq i at ≡ true → first_of (files i) ≡ Some f
first_at files i at f begins same = ap (λ k. first_of (files k)) (eqb-true i at same) ∙ begins

-- every frame of a merge is of one file, and those of each file are in its order
pub of_each : (files left : ℕ → List FrameValue) (fs : List FrameValue) → Merges files fs left
    → (places : List ℕ) × (length places ≡ length fs) × ((i : ℕ) → files i ≡ of_place places fs i ++ left i)
of_each _ _ _ (none files) = ([], refl, λ i. refl)
of_each _ _ _ (one_more files left at f fs next rest) =
    let others = of_each (without at files) left fs rest in (
      at ∷ others.0,
      ap suc others.1,
      λ i. put_back (nat_eq i at) (files i) (of_place others.0 fs i) (left i) f (λ same. first_at files i at f next.begins same) (others.2 i),
    )

-- ---- one file

emptied : (b : Bool) (xs : List FrameValue) → xs ≡ [] → cond b (drop 1 xs) xs ≡ []
emptied true xs is = ap (drop 1) is
emptied false xs is = is

first_taken : (files : ℕ → List FrameValue) (at : ℕ) (f : FrameValue) (others : List FrameValue) → ((i : ℕ) → i ≢ 0 → files i ≡ [])
    → first_of (files at) ≡ Some f → without at files 0 ≡ others → (at ≡ 0) ⊎ (at ≡ 0 → ⊥) → files 0 ≡ f ∷ others
first_taken files at f others only begins more (inl same) =
    begins_with (files 0) f (ap (λ i. first_of (files i)) (sym same) ∙ begins) ∙ ap (λ t. f ∷ t) (ap (λ i. without i files 0) (sym same) ∙ more)
first_taken files at f others only begins more (inr other) =
    let nothing : first_of (files at) ≡ None = ap first_of (only at other) in absurd (cc (begins, nothing))

-- of one file a merge has all its frames
pub of_one : (files left : ℕ → List FrameValue) (fs : List FrameValue) → ((i : ℕ) → i ≢ 0 → files i ≡ []) → Merges files fs left
    → files 0 ≡ fs ++ left 0
of_one _ _ _ only (none files) = refl
of_one _ _ _ only (one_more files left at f fs next rest) =
    first_taken files at f (fs ++ left 0) only next.begins
    (of_one (without at files) left fs (λ i other. emptied (nat_eq i at) (files i) (only i other)) rest) (cases_eq at 0)

-- ---- times

not_before : (time other : Option ℕ) → comes_first time other ≡ false → not_after other time ≡ true
not_before None other is = absurd (cc is)
not_before (Some time) None is = refl
not_before (Some time) (Some other) is = grind (arith, nat_tests, is)

before : (time other : Option ℕ) → comes_first time other ≡ true → not_after time other ≡ true
before None other is = refl
before (Some time) None is = absurd (cc is)
before (Some time) (Some other) is = grind (arith, nat_tests, is)

after_first : (xs : List FrameValue) (f g : FrameValue) → IsAscending xs → first_of xs ≡ Some f → first_of (drop 1 xs) ≡ Some g → not_after f.time g.time ≡ true
after_first [] f g up is then = absurd (cc is)
after_first (x ∷ []) f g up is then = absurd (cc then)
after_first (x ∷ (y ∷ ys)) f g up is then =
    let one : x ≡ f = cc is in
    let two : y ≡ g = cc then in
    subst (λ (a : FrameValue). not_after a.time g.time ≡ true) one (subst (λ (b : FrameValue). not_after x.time b.time ≡ true) two up.0)

drop_ascending : (b : Bool) (xs : List FrameValue) → IsAscending xs → IsAscending (cond b (drop 1 xs) xs)
drop_ascending false xs up = up
drop_ascending true [] up = up
drop_ascending true (x ∷ xs) up = up.1

by_order : (files : ℕ → List FrameValue) (at then : ℕ) (f g : FrameValue) → IsNext files at f → first_of (files then) ≡ Some g
    → nat_eq then at ≡ false → (then < at) ⊎ (at ≤ then) → not_after f.time g.time ≡ true
by_order files at then f g is begins other (inl lt) = not_before g.time f.time (is.earlier then g lt begins)
by_order files at then f g is begins other (inr le) =
    let behind : at < then = grind (arith, nat_tests, le, other) in before f.time g.time (is.later then g behind begins)

by_place : (files : ℕ → List FrameValue) (at then : ℕ) (f g : FrameValue) → IsAscending (files then) → IsNext files at f
    → (b : Bool) → nat_eq then at ≡ b → first_of (cond b (drop 1 (files then)) (files then)) ≡ Some g → not_after f.time g.time ≡ true
by_place files at then f g up is true same begins = after_first (files then) f g up (first_at files then at f is.begins same) begins
by_place files at then f g up is false other begins = by_order files at then f g is begins other (cases_lt then at)

begins_from : (files left : ℕ → List FrameValue) (fs : List FrameValue) (f : FrameValue)
    → ((then : ℕ) (g : FrameValue) → IsNext files then g → not_after f.time g.time ≡ true) → Merges files fs left → BeginsFrom f.time fs
begins_from _ _ _ f after (none files) = tt
begins_from _ _ _ f after (one_more files left then g fs next rest) = after then g next

-- a merge of files whose times never decrease is one
pub ascends : (files left : ℕ → List FrameValue) (fs : List FrameValue) → ((i : ℕ) → IsAscending (files i)) → Merges files fs left → IsAscending fs
ascends _ _ _ up (none files) = tt
ascends _ _ _ up (one_more files left at f fs next rest) = (
  begins_from (without at files) left fs f
      (λ then g is. by_place files at then f g (up then) next (nat_eq then at) refl is.begins) rest,
  ascends (without at files) left fs (λ i. drop_ascending (nat_eq i at) (files i) (up i)) rest,
)
