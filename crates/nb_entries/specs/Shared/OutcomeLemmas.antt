-- A reading of a saved entry has one outcome.
use Rattle.std.proofs.Common.{◌≡◌, ◌+◌, ◌<◌, ◌≤◌, ℕ, suc, zero, List, [], ◌∷◌, length, Option, None, Some, Ok, Err, refl, sym, ap, subst, ◌∙◌, arith}
use Rattle.std.specs.Int.{w16}
use Rattle.nb_names.specs.declared.reading.Pointers.TheVariants.{Refused}
use Rattle.nb_streams.specs.Places.{StandsAt, NumberAt}
use Rattle.nb_names.specs.Name.{labels_of_name}
use Rattle.nb_streams.specs.PacketFacts.{stands_same, one_number_16}
use Rattle.nb_names.proofs.FaultLemmas.{one_netbios, no_netbios}
use Rattle.nb_names.proofs.LabelsLemmas.{one_reading}
use Rattle.nb_names.proofs.NameLemmas.{one_name}
use Rattle.nb_datagram.specs.declared.key.Kind.{Kind}
use Rattle.nb_datagram.specs.Packet.{type_of, kind_of, kind_back}
use Rattle.nb_entries.specs.declared.saved.LoadFault.{LoadFault}
use Rattle.nb_entries.specs.declared.saved.SavedForm.{SavedForm}
use Rattle.nb_entries.specs.declared.saved.SavedForm.TheVariants.{First, Second}
use Rattle.nb_entries.specs.Maps.{Spoilt, Held}
use Rattle.nb_entries.specs.SavedReading.{Outcome, Gives, gives, Then, stops, goes_on, Field, cut, whole, Judged, good, bad, Marked, is_0, is_1, is_neither, byte_at, number_at, bytes_at, KindOf, known, unknown, kind_at, name_at, fault_of_name, stands, ill, end_at, PromisesBelow, promise_at, marks_at, start_at, size_at, run_at, row_at, runs_at, most_of, facts_at, entry_at}
use Rattle.nb_entries.specs.Runs.{run_end}

-- ---- how readings are made

-- the reading R has one outcome
abbrev pub IsOne : {X : Type 0} → (Outcome X → Type 0) → Type 0
IsOne {X} R = (o p : Outcome X) → R o → R p → o ≡ p

pub same_fault : {X : Type 0} (f g : LoadFault) → ◌≡◌ {A = Outcome X} (Err f) (Err g) → f ≡ g
same_fault f g e = cc

pub same_value : {X : Type 0} (x y : X) (m n : ℕ) → ◌≡◌ {A = Outcome X} (Ok (x, m)) (Ok (y, n)) → ◌≡◌ {A = X × ℕ} (x, m) (y, n)
same_value x y m n e = cc

pub apart : {X : Type 0} (x : X) (n : ℕ) (f : LoadFault) → ◌≡◌ {A = Outcome X} (Ok (x, n)) (Err f) → ⊥
apart x n f e = absurd (cc)

pub one_gives : {X : Type 0} (x : X) (next : ℕ) → IsOne (Gives x next)
one_gives x next o p gives gives = refl

pub one_then : {X Y : Type 0} (first : Outcome X → Type 0) (rest : X → ℕ → Outcome Y → Type 0) → IsOne first → ((x : X) (next : ℕ) → IsOne (rest x next)) → IsOne (Then first rest)
one_then first rest one more o p (stops f h) (stops g k) = ap Err (same_fault f g (one (Err f) (Err g) h k))
one_then first rest one more o p (stops f h) (goes_on y n k s) = absurd (apart y n f (one (Ok (y, n)) (Err f) k h))
one_then first rest one more o p (goes_on x m h r) (stops g k) = absurd (apart x m g (one (Ok (x, m)) (Err g) h k))
one_then {X} first rest one more o p (goes_on x m h r) (goes_on y n k s) =
    let same = same_value x y m n (one (Ok (x, m)) (Ok (y, n)) h k) in
    more y n o p (subst (λ (v : X × ℕ). rest v.0 v.1 o) same r) s

pub one_field : {X : Type 0} (input : List ℕ) (at size : ℕ) (Is : X → Type 0) → ((x y : X) → Is x → Is y → x ≡ y) → IsOne (Field input at size Is)
one_field input at size Is one o p (cut h) (cut k) = refl
one_field input at size Is one o p (cut h) (whole y k j) = absurd (omega arith)
one_field input at size Is one o p (whole x h i) (cut k) = absurd (omega arith)
one_field input at size Is one o p (whole x h i) (whole y k j) = ap (λ v. Ok (v, at + size)) (one x y i j)

pub one_judged : {X : Type 0} (at : ℕ) (IsGood : X → Type 0) (x : X) (next : ℕ) → IsOne (Judged at IsGood x next)
one_judged at IsGood x next o p (good h) (good k) = refl
one_judged at IsGood x next o p (good h) (bad k) = absurd (k h)
one_judged at IsGood x next o p (bad h) (good k) = absurd (h k)
one_judged at IsGood x next o p (bad h) (bad k) = refl

pub one_marked : {X : Type 0} (at mark : ℕ) (none some : Outcome X → Type 0) → IsOne none → IsOne some → IsOne (Marked at mark none some)
one_marked at mark none some one other o p (is_0 e h) (is_0 f k) = one o p h k
one_marked at mark none some one other o p (is_0 e h) (is_1 f k) = absurd (omega (arith, e, f))
one_marked at mark none some one other o p (is_0 e h) (is_neither f) = absurd (omega (arith, e, f))
one_marked at mark none some one other o p (is_1 e h) (is_0 f k) = absurd (omega (arith, e, f))
one_marked at mark none some one other o p (is_1 e h) (is_1 f k) = other o p h k
one_marked at mark none some one other o p (is_1 e h) (is_neither f) = absurd (omega (arith, e, f))
one_marked at mark none some one other o p (is_neither e) (is_0 f k) = absurd (omega (arith, e, f))
one_marked at mark none some one other o p (is_neither e) (is_1 f k) = absurd (omega (arith, e, f))
one_marked at mark none some one other o p (is_neither e) (is_neither f) = refl

-- ---- fields

one_byte : (input : List ℕ) (at : ℕ) → IsOne (byte_at input at)
one_byte input at =
    one_field input at 1 (λ x. StandsAt input at (x ∷ []))
    (λ x y h k. (let same : (x ∷ []) ≡ (y ∷ []) = stands_same input at (x ∷ []) (y ∷ []) h k refl in cc same))

one_number : (input : List ℕ) (at : ℕ) → IsOne (number_at input at)
one_number input at = one_field input at 2 (NumberAt input at w16) (λ m n h k. one_number_16 input at m n h k)

one_bytes : (input : List ℕ) (at size : ℕ) → IsOne (bytes_at input at size)
one_bytes input at size =
    one_field input at size (λ bytes. (length bytes ≡ size) × StandsAt input at bytes)
    (λ xs ys h k. stands_same input at xs ys h.1 k.1 (h.0 ∙ sym k.0))

one_type : (a b : Kind) → type_of a ≡ type_of b → a ≡ b
one_type a b e = sym (kind_back a) ∙ ap kind_of e ∙ kind_back b

one_kind_of : (at type next : ℕ) → IsOne (KindOf at type next)
one_kind_of at type next o p (known k e) (known l f) = ap (λ v. Ok (v, next)) (one_type k l (sym e ∙ f))
one_kind_of at type next o p (known k e) (unknown f) = absurd (f k e)
one_kind_of at type next o p (unknown e) (known l f) = absurd (e l f)
one_kind_of at type next o p (unknown e) (unknown f) = refl

one_kind : (input : List ℕ) (at : ℕ) → IsOne (kind_at input at)
one_kind input at = one_then (byte_at input at) (KindOf at) (one_byte input at) (one_kind_of at)

one_name_at : (input : List ℕ) (at : ℕ) → IsOne (name_at input at)
one_name_at input at o p (stands n a i h) (stands m b j k) =
    let same = one_reading input Refused at at (labels_of_name n) (labels_of_name m) a b h k in
    let name = one_name n m same.0 in
    let next = same.1 in
    λ i. Ok (name i, next i)
one_name_at input at o p (stands n a i h) (ill f k) = absurd (no_netbios input Refused at f n a k i h)
one_name_at input at o p (ill f h) (stands m b j k) = absurd (no_netbios input Refused at f m b h j k)
one_name_at input at o p (ill f h) (ill g k) = ap (λ e. Err (fault_of_name at e)) (one_netbios input Refused at f g h k)

one_end : (input : List ℕ) (at : ℕ) → IsOne (end_at input at)
one_end input at =
    one_then (byte_at input at) _ (one_byte input at) (λ mark next.
    one_marked at mark (Gives None next) (Then (number_at input next) (λ end. Gives (Some end))) (one_gives None next)
    (one_then (number_at input next) (λ end. Gives (Some end)) (one_number input next) (λ end. one_gives (Some end))))

one_promise : (form : SavedForm) (input : List ℕ) (end : Option ℕ) (at : ℕ) → IsOne (promise_at form input end at)
one_promise First input end at = one_gives None at
one_promise Second input end at =
    one_then (byte_at input at) _ (one_byte input at) (λ mark next.
    let judged : IsOne (Then (number_at input next) (Judged at (PromisesBelow end))) = one_then (number_at input next) (Judged at (PromisesBelow end)) (one_number input next) (λ promise after. one_judged at (PromisesBelow end) promise after) in
    one_marked at mark (Gives None next) (Then (Then (number_at input next) (Judged at (PromisesBelow end))) (λ promise. Gives (Some promise))) (one_gives None next)
    (one_then (Then (number_at input next) (Judged at (PromisesBelow end))) (λ promise. Gives (Some promise)) judged (λ promise. one_gives (Some promise))))

one_marks : (form : SavedForm) (input : List ℕ) (at : ℕ) → IsOne (marks_at form input at)
one_marks form input at =
    one_then (end_at input at) _ (one_end input at) (λ end next.
    one_then (promise_at form input end next) _ (one_promise form input end next) (λ promise last. one_gives _ last))

-- ---- runs

one_start : (input : List ℕ) (least at : ℕ) → IsOne (start_at input least at)
one_start input least at = one_then (number_at input at) _ (one_number input at) (λ start next. one_judged at (λ s. least ≤ s) start next)

one_size : (input : List ℕ) (start most at : ℕ) → IsOne (size_at input start most at)
one_size input start most at = one_then (number_at input at) _ (one_number input at) (λ size next. one_judged at (λ n. (0 < n) × (start + n ≤ most)) size next)

one_run : (input : List ℕ) (most least at : ℕ) → IsOne (run_at input most least at)
one_run input most least at =
    one_then (start_at input least at) _ (one_start input least at) (λ start behind.
    one_then (size_at input start most behind) _ (one_size input start most behind) (λ size front.
    one_then (bytes_at input front size) _ (one_bytes input front size) (λ bytes next. one_gives _ next)))

pub one_row : (input : List ℕ) (most count least at : ℕ) → IsOne (row_at input most count least at)
one_row input most zero least at = one_gives [] at
one_row input most (suc count) least at =
    one_then (run_at input most least at) _ (one_run input most least at) (λ run next.
    one_then (row_at input most count (run_end run + 1) next) _ (one_row input most count (run_end run + 1) next) (λ runs last. one_gives _ last))

one_runs : (input : List ℕ) (most at : ℕ) → IsOne (runs_at input most at)
one_runs input most at = one_then (number_at input at) _ (one_number input at) (λ count next. one_row input most count 0 next)

-- ---- entries

one_facts : (form : SavedForm) (input : List ℕ) (at : ℕ) → IsOne (facts_at form input at)
one_facts form input at =
    one_then (kind_at input at) _ (one_kind input at) (λ kind a.
    one_then (name_at input a) _ (one_name_at input a) (λ source b.
    one_then (name_at input b) _ (one_name_at input b) (λ destination c.
    one_then (marks_at form input c) _ (one_marks form input c) (λ marks d.
    one_then (runs_at input (most_of marks.end) d) _ (one_runs input (most_of marks.end) d) (λ runs next. one_gives _ next)))))

pub one_entry : (form : SavedForm) (input : List ℕ) (at : ℕ) → IsOne (entry_at form input at)
one_entry form input at =
    one_then (byte_at input at) _ (one_byte input at) (λ state next.
    one_marked at state (Gives Spoilt next) (Then (facts_at form input next) (λ facts. Gives (Held facts))) (one_gives Spoilt next)
    (one_then (facts_at form input next) (λ facts. Gives (Held facts)) (one_facts form input next) (λ facts. one_gives (Held facts))))
