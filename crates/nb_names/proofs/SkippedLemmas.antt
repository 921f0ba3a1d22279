-- Names whose spelling stands in one stretch.
use Rattle.std.proofs.Common.{◌≡◌, ℕ, ◌+◌, ◌-◌, ◌<◌, ◌≤◌, List, [], ◌∷◌, ◌++◌, length, take, drop, Option, unwrap_or, refl, ap, sym, subst, ◌∙◌, arith, append_assoc, append-nil, length-append}
use Rattle.nb_names.specs.declared.reading.Pointers.{Pointers}
use Rattle.nb_names.specs.declared.reading.Skipped.{Skipped}
use Rattle.nb_names.specs.Code.Kept.{labels_of, IsSpelled}
use Rattle.nb_names.specs.DomainName.{spelling}
use Rattle.nb_streams.specs.Places.{StandsAt}
use Rattle.nb_names.specs.NameFaults.{OnWay, begins, behind_label, along_pointer}
use Rattle.nb_streams.specs.PacketFacts.{stands_fits}
use Rattle.nb_names.specs.Skipped.{IsSkipped}
use Rattle.nb_names.proofs.LabelsLemmas.{stands_joined, IsDomain-read}
use Rattle.nb_names.proofs.ReadingLemmas.{IsReading, reading_ended}
use Rattle.nb_names.proofs.SpellingLemmas.{body, spelling-body, body-append, spelled, labels_of-spelled}

-- of the labels that a reading has those of the stretch that it is in, and those before
record LastRun (packet : List ℕ) (start here : ℕ) (labels : List (List ℕ)) : Type 0 where
  before : List (List ℕ)
  within : List (List ℕ)
  all : labels ≡ before ++ within
  stands : StandsAt packet start (body within)
  long : here ≡ start + length (body within)

last_stretch : (packet : List ℕ) (q : Pointers) (at start here : ℕ) (ls : List (List ℕ)) → OnWay packet q at start here ls → LastRun packet start here ls
last_stretch packet q at start here ls begins = record { before = []; within = []; all = refl; stands = refl; long = omega arith }
last_stretch packet q at start here ls (behind_label {here = h} {labels = ms} l way i b short) =
    let r = last_stretch packet q at start h ms way in
    let more : body (r.within ++ l ∷ []) ≡ body r.within ++ (length l ∷ l) = body-append r.within (l ∷ []) ∙ ap (λ (x : List ℕ). body r.within ++ (length l ∷ x)) (append-nil l) in
    record {
      before = r.before;
      within = r.within ++ l ∷ [];
      all = ap (λ (x : List (List ℕ)). x ++ l ∷ []) r.all ∙ append_assoc r.before r.within (l ∷ []);
      stands = subst (λ (x : List ℕ). StandsAt packet start x) (sym more)
          (stands_joined packet start (body r.within) (length l ∷ l) r.stands (subst (λ (n : ℕ). StandsAt packet n (length l ∷ l)) r.long b));
      long = omega (arith, r.long, ap length more, length-append (body r.within) (length l ∷ l));
    }
last_stretch packet q at start here ls (along_pointer t way e p low) = record { before = ls; within = []; all = sym (append-nil ls); stands = refl; long = omega arith }

no_bytes : (bytes : List ℕ) → length bytes ≡ 0 → bytes ≡ []
no_bytes [] e = refl
no_bytes (b ∷ bytes) e = absurd (omega (arith, e))

-- where the last stretch is as long as the spelling, all labels stand in it
pub spelled_in_stretch : (packet : List ℕ) (q : Pointers) (at : ℕ) (ls : List (List ℕ)) (s : Skipped) → IsSkipped packet q at ls s → s.stretch + s.spelled_len ≡ s.stretch_end → StandsAt packet s.stretch (spelling ls)
spelled_in_stretch packet q at ls s is whole =
    let r = last_stretch packet q at s.stretch is.here ls is.way in
    let all : spelling ls ≡ body ls ++ 0 ∷ [] = spelling-body ls in
    let parts : body ls ≡ body r.before ++ body r.within = ap body r.all ∙ body-append r.before r.within in
    let none : length (body r.before) ≡ 0 =
    omega (arith, whole, is.long, is.end, r.long, ap length all, length-append (body ls) (0 ∷ []), ap length parts, length-append (body r.before) (body r.within)) in
    let same : body ls ≡ body r.within = parts ∙ ap (λ (x : List ℕ). x ++ body r.within) (no_bytes (body r.before) none) in
    subst (λ (x : List ℕ). StandsAt packet s.stretch x) (sym (all ∙ ap (λ (x : List ℕ). x ++ 0 ∷ []) same))
    (stands_joined packet s.stretch (body r.within) (0 ∷ []) r.stands (subst (λ (n : ℕ). StandsAt packet n (0 ∷ [])) r.long is.zero))

pub stretch_within : (packet : List ℕ) (q : Pointers) (at : ℕ) (ls : List (List ℕ)) (s : Skipped) → IsSkipped packet q at ls s → (s.stretch < s.stretch_end) × (s.stretch_end ≤ length packet)
stretch_within packet q at ls s is =
    let r = last_stretch packet q at s.stretch is.here ls is.way in
    (omega (arith, r.long, is.end), omega (arith, is.end, stands_fits packet is.here (0 ∷ []) is.zero (omega arith)))

-- and the bytes of that stretch spell them
pub stretch_spelled : (packet : List ℕ) (q : Pointers) (at : ℕ) (ls : List (List ℕ)) (s : Skipped) → IsSkipped packet q at ls s → s.stretch_end - s.stretch ≡ s.spelled_len →
    let bytes : List ℕ = take (s.stretch_end - s.stretch) (drop s.stretch packet) in IsSpelled bytes × (labels_of bytes ≡ ls)
stretch_spelled packet q at ls s is size =
    let domain = IsDomain-read packet q at at ls s.next is.name in
    let whole = spelled_in_stretch packet q at ls s is (omega (arith, size, stretch_within packet q at ls s is)) in
    let bytes : take (s.stretch_end - s.stretch) (drop s.stretch packet) ≡ spelling ls = ap (λ (n : ℕ). take n (drop s.stretch packet)) (size ∙ is.long) ∙ whole in
    (spelled _ ls domain bytes, labels_of-spelled ls _ domain bytes)

-- a reading that came to the zero byte
pub skipped_there : (packet : List ℕ) (q : Pointers) (at start here spelled : ℕ) (ls : List (List ℕ)) (next : Option ℕ) (behind : ℕ) → IsReading packet q at ls start here next →
    spelled ≡ length (spelling ls) → StandsAt packet here (0 ∷ []) → behind ≡ unwrap_or next (here + 1) →
    IsSkipped packet q at ls (record { next = behind; spelled_len = spelled; stretch = start; stretch_end = here + 1 })
skipped_there packet q at start here spelled ls next behind r long zero is =
    record { here = here; name = rw is (reading_ended packet q at start here ls next r zero); long = long; way = r.way; zero = zero; end = refl }
