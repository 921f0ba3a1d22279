-- The lines of faults.
use Rattle.std.proofs.Common.{◌≡◌, ◌∙◌, ◌+◌, ◌++◌, ◌∷◌, ◌≤◌, ℕ, zero, suc, List, [], length, drop, slice_get, Some, ap, refl, sym, subst, arith, append_assoc}
use Rattle.std.proofs.lemmas.Option.{get_or_from_slice_get, slice_get_within}
use Rattle.std.specs.Borrow.{Bor}
use Rattle.std.proofs.lemmas.List.{append-nil, drop_more}
use Rattle.nbt_look.specs.declared.signature.Sort.{Sort}
use Rattle.nbt_look.specs.FaultTexts.{fault_line}
use Rattle.nbt_look.specs.Running.{faults_text}
use Rattle.nbt_look.specs.Sources.{SourceValue}

-- the lines so far, and those of the files that are left, are all lines, whatever the left ones' sorts
pub record IsTold (titles : List (Bor (List ℕ))) (sources : List SourceValue) (before text : List ℕ) (left : List (Bor (List ℕ))) (others : List SourceValue) : Type 0 where
  pub sorts : List Sort
  pub all : (more : List Sort) → text ++ faults_text left more others ≡ before ++ faults_text titles (sorts ++ more) sources

pub told_nothing : (titles : List (Bor (List ℕ))) (sources : List SourceValue) (before : List ℕ) → IsTold titles sources before before titles sources
told_nothing titles sources before = record { sorts = []; all = λ more. refl }

pub told_next : (titles : List (Bor (List ℕ))) (sources : List SourceValue) (before text : List ℕ) (title : Bor (List ℕ)) (left : List (Bor (List ℕ))) (s : SourceValue)
    (others : List SourceValue) (sort : Sort) → IsTold titles sources before text (title ∷ left) (s ∷ others)
    → IsTold titles sources before (text ++ fault_line title.now sort s.waiting) left others
told_next titles sources before text title left s others sort t = record {
  sorts = t.sorts ++ sort ∷ [];
  all = λ more.
      append_assoc text (fault_line title.now sort s.waiting) (faults_text left more others)
      ∙ t.all (sort ∷ more)
      ∙ ap (λ (sorts : List Sort). before ++ faults_text titles sorts sources) (sym (append_assoc t.sorts (sort ∷ []) more));
}

-- no title is left
pub told_all : (titles : List (Bor (List ℕ))) (sources : List SourceValue) (before text : List ℕ) (others : List SourceValue)
    → IsTold titles sources before text [] others → (sorts : List Sort) × (text ≡ before ++ faults_text titles sorts sources)
told_all titles sources before text others t = (t.sorts ++ [], sym (append-nil text) ∙ t.all [])

-- no file is left
pub told_each : (titles : List (Bor (List ℕ))) (sources : List SourceValue) (before text : List ℕ) (left : List (Bor (List ℕ)))
    → IsTold titles sources before text left [] → (sorts : List Sort) × (text ≡ before ++ faults_text titles sorts sources)
told_each titles sources before text [] t = told_all titles sources before text [] t
told_each titles sources before text (title ∷ left) t = (t.sorts ++ [], sym (append-nil text) ∙ t.all [])

-- what stands from a place on begins with what stands at it
pub drop_here : {X : Type 0} (xs : List X) (i : ℕ) (x : X) → slice_get xs i ≡ Some x → drop i xs ≡ x ∷ drop (i + 1) xs
drop_here {X = X} xs i x is =
    let within = slice_get_within xs i x is in drop_more xs i x within ∙ ap (λ (y : X). y ∷ drop (i + 1) xs) (get_or_from_slice_get xs i x x is)

drop_past : {X : Type 0} (xs : List X) (i : ℕ) → length xs ≤ i → drop i xs ≡ []
drop_past [] zero le = refl
drop_past [] (suc i) le = refl
drop_past (x ∷ xs) zero le = absurd (omega (arith, le))
drop_past (x ∷ xs) (suc i) le = drop_past xs i (omega (arith, le))

pub told_short : (titles : List (Bor (List ℕ))) (sources : List SourceValue) (before text : List ℕ) (i : ℕ) (others : List SourceValue)
    → IsTold titles sources before text (drop i titles) others → length titles ≤ i
    → (sorts : List Sort) × (text ≡ before ++ faults_text titles sorts sources)
told_short titles sources before text i others t is =
    told_all titles sources before text others (subst (λ (left : List (Bor (List ℕ))). IsTold titles sources before text left others) (drop_past titles i is) t)

pub told_through : (titles : List (Bor (List ℕ))) (sources : List SourceValue) (before text : List ℕ) (left : List (Bor (List ℕ))) (i : ℕ)
    → IsTold titles sources before text left (drop i sources) → length sources ≤ i
    → (sorts : List Sort) × (text ≡ before ++ faults_text titles sorts sources)
told_through titles sources before text left i t le =
    told_each titles sources before text left (subst (λ (others : List SourceValue). IsTold titles sources before text left others) (drop_past sources i le) t)

pub told_one : (titles : List (Bor (List ℕ))) (sources : List SourceValue) (before text now : List ℕ) (i : ℕ) (title : Bor (List ℕ)) (s : SourceValue) (sort : Sort)
    → IsTold titles sources before text (drop i titles) (drop i sources) → slice_get titles i ≡ Some title → slice_get sources i ≡ Some s
    → now ≡ text ++ fault_line title.now sort s.waiting → IsTold titles sources before now (drop (i + 1) titles) (drop (i + 1) sources)
told_one titles sources before text now i title s sort t here this is =
    subst (λ (x : List ℕ). IsTold titles sources before x (drop (i + 1) titles) (drop (i + 1) sources)) (sym is)
    (told_next titles sources before text title (drop (i + 1) titles) s (drop (i + 1) sources) sort
    (subst (λ (others : List SourceValue). IsTold titles sources before text (title ∷ drop (i + 1) titles) others) (drop_here sources i s this)
    (subst (λ (left : List (Bor (List ℕ))). IsTold titles sources before text left (drop i sources)) (drop_here titles i title here) t)))
