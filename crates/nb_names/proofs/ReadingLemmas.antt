-- What a reading has so far, and how the rest finishes it.
use Rattle.std.proofs.Common.{◌≡◌, ℕ, ◌+◌, ◌<◌, ◌≤◌, List, [], ◌∷◌, ◌++◌, length, take, drop, Option, Some, None, unwrap_or, sym, subst, arith, append_assoc, append-nil}
use Rattle.nb_names.specs.declared.reading.Pointers.{Pointers}
use Rattle.nb_names.specs.declared.reading.Pointers.TheVariants.{Followed}
use Rattle.nb_names.specs.declared.fault.NameFault.{NameFault}
use Rattle.nb_names.specs.declared.fault.NameFault.TheVariants.{TooLong}
use Rattle.nb_names.specs.declared.fault.LabelFault.{LabelFault}
use Rattle.nb_names.specs.declared.fault.LabelFault.TheVariants.{EmptyLabel, LabelTooLong, TooLong as PastLimit}
use Rattle.nb_names.specs.DomainName.{spelling, IsLabel, IsRefused}
use Rattle.nb_names.specs.Code.Kept.{HasLabel}
use Rattle.nb_streams.specs.Places.{StandsAt}
use Rattle.nb_names.specs.Labels.{IsPointer, LabelsAt, ends, goes_on, leads_to, NameAt}
use Rattle.nb_names.specs.NameFaults.{OnWay, begins, behind_label, along_pointer, FaultHere, too_long, FaultAt}
use Rattle.nb_names.specs.NameFacts.{spelling-some}
use Rattle.nb_names.proofs.LabelsLemmas.{stands_label}
use Rattle.nb_names.proofs.FaultLemmas.{length-spelling-append}

pub record IsReading (packet : List ℕ) (pointers : Pointers) (at : ℕ) (labels : List (List ℕ)) (start here : ℕ) (next : Option ℕ) : Type 0 where
  pub way : OnWay packet pointers at start here labels
  pub rest : (more : List (List ℕ)) (n : ℕ) → LabelsAt packet pointers start here more n → length (spelling (labels ++ more)) ≤ 255
      → LabelsAt packet pointers at at (labels ++ more) (unwrap_or next n)

pub reading_begun : (packet : List ℕ) (q : Pointers) (at : ℕ) → IsReading packet q at [] at at None
reading_begun packet q at = record { way = begins; rest = λ more n h short. h }

-- what is read on the way is short
pub way_short : (packet : List ℕ) (q : Pointers) (at start here : ℕ) (ls : List (List ℕ)) → OnWay packet q at start here ls → length (spelling ls) ≤ 255
way_short packet q at start here ls begins = omega arith
way_short packet q at start here ls (behind_label l way i b short) = short
way_short packet q at start here ls (along_pointer {start = s} {here = n} t way e p low) = way_short packet q at s n ls way

pub reading_ended : (packet : List ℕ) (q : Pointers) (at start here : ℕ) (ls : List (List ℕ)) (next : Option ℕ) → IsReading packet q at ls start here next → StandsAt packet here (0 ∷ []) →
    NameAt packet q at ls (unwrap_or next (here + 1))
reading_ended packet q at start here ls next r z =
    let short = way_short packet q at start here ls r.way in
    subst (λ (x : List (List ℕ)). LabelsAt packet q at at x (unwrap_or next (here + 1))) (append-nil ls)
    (r.rest [] (here + 1) (ends z) (subst (λ (x : List (List ℕ)). length (spelling x) ≤ 255) (sym (append-nil ls)) short))

-- a label that is there whole
pub label_there : (packet : List ℕ) (here size : ℕ) → HasLabel packet here size →
    let label : List ℕ = take size (drop (here + 1) packet) in (length label ≡ size) × IsLabel label × StandsAt packet here (length label ∷ label)
label_there packet here size h =
    let there = stands_label packet here size h.first h.whole in
    (there.0, (omega (arith, h.some, there.0), omega (arith, h.short, there.0)), there.1)

-- a turn that read a label
pub label_turn : (packet : List ℕ) (q : Pointers) (at start here size : ℕ) (ls new : List (List ℕ)) (next : Option ℕ) → IsReading packet q at ls start here next → HasLabel packet here size →
    length (spelling (ls ++ take size (drop (here + 1) packet) ∷ [])) ≤ 255 → new ≡ ls ++ take size (drop (here + 1) packet) ∷ [] →
    IsReading packet q at new start (here + 1 + size) next
label_turn packet q at start here size ls new next r has short is =
    let l : List ℕ = take size (drop (here + 1) packet) in
    let there = label_there packet here size has in
    let long : length l ≡ size = there.0 in
    rw is (subst (λ (n : ℕ). IsReading packet q at (ls ++ l ∷ []) start (here + 1 + n) next) long (record {
      way = behind_label l r.way there.1 there.2 short;
      rest = λ more n h fits.
          let same : (ls ++ l ∷ []) ++ more ≡ ls ++ (l ∷ more) = append_assoc ls (l ∷ []) more in
          let total : length (spelling (ls ++ (l ∷ more))) ≤ 255 = subst (λ (x : List (List ℕ)). length (spelling x) ≤ 255) same fits in
          let some = spelling-some ls in
          let within : length (spelling (l ∷ more)) ≤ 255 = omega (arith, length-spelling-append ls (l ∷ more)) in
          subst (λ (x : List (List ℕ)). LabelsAt packet q at at x (unwrap_or next n)) (sym same)
          (r.rest (l ∷ more) n (goes_on l more there.1 there.2 within h) total);
    }))

-- a label after which the spelling is too long
pub label_past : (packet : List ℕ) (q : Pointers) (at start here size : ℕ) (ls : List (List ℕ)) (why : LabelFault) → OnWay packet q at start here ls → HasLabel packet here size →
    IsRefused 255 ls (take size (drop (here + 1) packet)) why → FaultAt packet q at (TooLong here)
label_past packet q at start here size ls EmptyLabel way has h = let there = label_there packet here size has in absurd (omega (arith, there.1.0))
label_past packet q at start here size ls LabelTooLong way has h = let there = label_there packet here size has in absurd (omega (arith, there.1.1))
label_past packet q at start here size ls PastLimit way has h =
    let there = label_there packet here size has in
    record { start = start; here = here; labels = ls; way = way; applies = too_long _ there.1 there.2 h.1 }

-- a turn that followed a pointer
pub pointer_turn : (packet : List ℕ) (q : Pointers) (at start here target : ℕ) (ls : List (List ℕ)) (next : Option ℕ) (behind : ℕ) → IsReading packet q at ls start here next → q ≡ Followed → IsPointer packet here target →
    target < start → behind ≡ unwrap_or next (here + 2) → IsReading packet q at ls target target (Some behind)
pointer_turn packet q at start here target ls next behind r e p low is =
    record {
      way = along_pointer target r.way e p low;
      rest = λ more n h fits. rw is (r.rest more (here + 2) (leads_to target n e p low h) fits);
    }

-- a fault at the length byte that the reading came to
pub reading_fails : (packet : List ℕ) (q : Pointers) (at start here : ℕ) (ls : List (List ℕ)) (next : Option ℕ) (fault : NameFault) → IsReading packet q at ls start here next →
    FaultHere packet q at start here ls fault → FaultAt packet q at fault
reading_fails packet q at start here ls next fault r why = record { start = start; here = here; labels = ls; way = r.way; applies = why }
