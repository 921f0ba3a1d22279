-- What stands in a packet, and that a name has one reading.
use Rattle.std.proofs.Common.{◌≡◌, ℕ, ◌+◌, ◌-◌, ◌*◌, ◌/◌, ◌%◌, ◌<◌, ◌≤◌, List, [], ◌∷◌, ◌++◌, length, take, drop, get_or, refl, ap, sym, subst, ◌∙◌, arith, append_assoc, length-append, length-drop}
use Rattle.std.proofs.Math.Seq.{take-add}
use Rattle.std.proofs.lemmas.List.{take-append-drop, length-take-le, drop_more, take-take, drop_at, drop-drop, take_at}
use Rattle.nb_names.specs.declared.reading.Pointers.{Pointers}
use Rattle.nb_names.specs.declared.reading.Pointers.TheVariants.{Refused}
use Rattle.nb_names.specs.DomainName.{spelling, IsDomain}
use Rattle.nb_streams.specs.PacketFacts.{stands_same, stands_fits}
use Rattle.nb_streams.specs.Places.{StandsAt}
use Rattle.nb_names.specs.Labels.{pointer_bytes, IsPointer, LabelsAt, ends, goes_on, leads_to}

-- ---- bytes that stand in a packet

pub stands_first : (packet : List ℕ) (at byte : ℕ) (bytes : List ℕ) → StandsAt packet at (byte ∷ bytes) → get_or packet at 0 ≡ byte
stands_first packet at byte bytes h =
    let fits : at < length packet = omega (arith, stands_fits packet at (byte ∷ bytes) h (omega arith)) in
    let there : drop at packet ≡ get_or packet at 0 ∷ drop (at + 1) packet = drop_more packet at 0 fits in
    let is : take (length (byte ∷ bytes)) (get_or packet at 0 ∷ drop (at + 1) packet) ≡ byte ∷ bytes = ap (λ (r : List ℕ). take (length (byte ∷ bytes)) r) (sym there) ∙ h in
    cc

pub stands_one : (packet : List ℕ) (at : ℕ) → at < length packet → StandsAt packet at (get_or packet at 0 ∷ [])
stands_one packet at fits = rw (drop_more packet at 0 fits) refl

pub stands_two : (packet : List ℕ) (at : ℕ) → at + 1 < length packet → StandsAt packet at (get_or packet at 0 ∷ get_or packet (at + 1) 0 ∷ [])
stands_two packet at fits =
    let first : drop at packet ≡ get_or packet at 0 ∷ drop (at + 1) packet = drop_more packet at 0 (omega arith) in
    let second : drop (at + 1) packet ≡ get_or packet (at + 1) 0 ∷ drop (at + 1 + 1) packet = drop_more packet (at + 1) 0 fits in
    rw (first, second) refl

-- the label of a size, where it is there whole
pub stands_label : (packet : List ℕ) (at size : ℕ) → get_or packet at 0 ≡ size → at + 1 + size ≤ length packet →
    let label : List ℕ = take size (drop (at + 1) packet) in (length label ≡ size) × StandsAt packet at (length label ∷ label)
stands_label packet at size e fits =
    let label : List ℕ = take size (drop (at + 1) packet) in
    let long : length label ≡ size = length-take-le size (drop (at + 1) packet) (omega (arith, length-drop (at + 1) packet)) in
    (long, rw (long, drop_more packet at 0 (omega arith), e) refl)

-- ---- pointers

pub one_target : (packet : List ℕ) (at t u : ℕ) → IsPointer packet at t → IsPointer packet at u → t ≡ u
one_target packet at t u p q =
    let same : pointer_bytes t ≡ pointer_bytes u = stands_same packet at (pointer_bytes t) (pointer_bytes u) p.bytes q.bytes refl in
    let first : 192 + t / 256 ≡ 192 + u / 256 = cc in
    let second : t % 256 ≡ u % 256 = cc in
    omega arith

pub pointer_first : (packet : List ℕ) (at t : ℕ) → IsPointer packet at t → 192 ≤ get_or packet at 0
pointer_first packet at t p = omega (arith, stands_first packet at _ _ p.bytes)

pub pointer_made : (packet : List ℕ) (at first second : ℕ) → at + 1 < length packet → get_or packet at 0 ≡ first → get_or packet (at + 1) 0 ≡ second → 192 ≤ first → first < 256 → second < 256 →
    IsPointer packet at ((first - 192) * 256 + second)
pointer_made packet at first second fits e g low high small =
    let target : ℕ = (first - 192) * 256 + second in
    let one : 192 + ((first - 192) * 256 + second) / 256 ≡ first = omega arith in
    let two : ((first - 192) * 256 + second) % 256 ≡ second = omega arith in
    record { fits = omega arith; bytes = rw (one, two, ← e, ← g) (stands_two packet at fits) }

-- ---- one reading

pub one_reading : (packet : List ℕ) (pointers : Pointers) (start at : ℕ) (ls ms : List (List ℕ)) (n m : ℕ) →
    LabelsAt packet pointers start at ls n → LabelsAt packet pointers start at ms m → (ls ≡ ms) × (n ≡ m)
one_reading packet q start at ls ms n m (ends a) (ends b) = (refl, refl)
one_reading packet q start at ls ms n m (ends a) (goes_on l more f b s r) =
    absurd (omega (arith, stands_first packet at 0 [] a, stands_first packet at _ l b, f.0))
one_reading packet q start at ls ms n m (ends a) (leads_to t behind f p low r) =
    absurd (omega (arith, stands_first packet at 0 [] a, pointer_first packet at t p))
one_reading packet q start at ls ms n m (goes_on l more f b s r) (ends a) =
    absurd (omega (arith, stands_first packet at 0 [] a, stands_first packet at _ l b, f.0))
one_reading packet q start at ls ms n m (goes_on l ls' f b s r) (goes_on k ms' g c u w) =
    let long : length l ≡ length k = omega (arith, stands_first packet at _ l b, stands_first packet at _ k c) in
    let whole : length l ∷ l ≡ length k ∷ k = stands_same packet at (length l ∷ l) (length k ∷ k) b c (omega arith) in
    let same : l ≡ k = cc in
    let rest = one_reading packet q start (at + 1 + length l) ls' ms' n m r (subst (λ (x : List ℕ). LabelsAt packet q start (at + 1 + length x) ms' m) (sym same) w) in
    (cc (rest.0), rest.1)
one_reading packet q start at ls ms n m (goes_on l more g b s r) (leads_to t behind f p low w) =
    absurd (omega (arith, stands_first packet at _ l b, pointer_first packet at t p, g.1))
one_reading packet q start at ls ms n m (leads_to t behind f p low r) (ends a) =
    absurd (omega (arith, stands_first packet at 0 [] a, pointer_first packet at t p))
one_reading packet q start at ls ms n m (leads_to t behind f p low r) (goes_on l more g b s w) =
    absurd (omega (arith, stands_first packet at _ l b, pointer_first packet at t p, g.1))
one_reading packet q start at ls ms n m (leads_to t behind f p low r) (leads_to u beyond g o high w) =
    let same : t ≡ u = one_target packet at t u p o in
    let rest = one_reading packet q t t ls ms behind beyond r (subst (λ (x : ℕ). LabelsAt packet q x x ms beyond) (sym same) w) in
    (rest.0, refl)

-- a name's offset after it is one of the packet, or its end
pub next_within : (packet : List ℕ) (pointers : Pointers) (start at : ℕ) (ls : List (List ℕ)) (n : ℕ) → LabelsAt packet pointers start at ls n → (at < n) × (n ≤ length packet)
next_within packet q start at ls n (ends a) = let fits = stands_fits packet at _ a (omega arith) in (omega arith, omega arith)
next_within packet q start at ls n (goes_on l more f b s r) =
    let rest = next_within packet q start (at + 1 + length l) more n r in (omega (arith, rest.0), rest.1)
next_within packet q start at ls n (leads_to t behind f p low r) = let fits = stands_fits packet at _ p.bytes (omega arith) in (omega arith, omega arith)

-- labels that stand make a domain name
pub IsDomain-read : (packet : List ℕ) (pointers : Pointers) (start at : ℕ) (ls : List (List ℕ)) (n : ℕ) → LabelsAt packet pointers start at ls n → IsDomain ls
IsDomain-read packet q start at ls n (ends a) = record { each = tt; short = omega arith }
IsDomain-read packet q start at ls n (goes_on l more f b s r) =
    record { each = (f, (IsDomain-read packet q start (at + 1 + length l) more n r).each); short = s }
IsDomain-read packet q start at ls n (leads_to t behind f p low r) = IsDomain-read packet q t t ls behind r

-- ---- what a spelling writes is read

pub stands_at_seam : (front bytes rest : List ℕ) → StandsAt (front ++ (bytes ++ rest)) (length front) bytes
stands_at_seam front bytes rest = rw (drop_at front (bytes ++ rest) (length front) refl) (take_at bytes rest (length bytes) refl)

-- the same for a part of what stands there
pub stands_before : (packet : List ℕ) (at : ℕ) (bytes more : List ℕ) → StandsAt packet at (bytes ++ more) → StandsAt packet at bytes
stands_before packet at bytes more h =
    let fits : length bytes ≤ length (bytes ++ more) = omega (arith, length-append bytes more) in
    sym (take-take (length bytes) (length (bytes ++ more)) (drop at packet) fits) ∙ ap (λ (r : List ℕ). take (length bytes) r) h ∙ take_at bytes more (length bytes) refl

pub stands_behind : (packet : List ℕ) (at : ℕ) (bytes more : List ℕ) → StandsAt packet at (bytes ++ more) → StandsAt packet (at + length bytes) more
stands_behind packet at bytes more h =
    let whole : drop at packet ≡ (bytes ++ more) ++ drop (length (bytes ++ more)) (drop at packet) =
    sym (take-append-drop (length (bytes ++ more)) (drop at packet)) ∙ ap (λ (r : List ℕ). r ++ drop (length (bytes ++ more)) (drop at packet)) h in
    let rest : List ℕ = drop (length (bytes ++ more)) (drop at packet) in
    let moved : drop (at + length bytes) packet ≡ more ++ rest =
    sym (drop-drop (length bytes) at packet) ∙ ap (λ (r : List ℕ). drop (length bytes) r) (whole ∙ append_assoc bytes more rest) ∙ drop_at bytes (more ++ rest) (length bytes) refl in
    ap (λ (r : List ℕ). take (length more) r) moved ∙ take_at more rest (length more) refl

pub spelled_stands : (packet : List ℕ) (pointers : Pointers) (start at : ℕ) (ls : List (List ℕ)) → IsDomain ls → StandsAt packet at (spelling ls) → LabelsAt packet pointers start at ls (at + length (spelling ls))
spelled_stands packet q start at [] d h = ends h
spelled_stands packet q start at (l ∷ ls) d h =
    let long : length (spelling (l ∷ ls)) ≡ 1 + length l + length (spelling ls) = omega (arith, length-append l (spelling ls)) in
    let behind : StandsAt packet (at + length (length l ∷ l)) (spelling ls) = stands_behind packet at (length l ∷ l) (spelling ls) h in
    let here : at + length (length l ∷ l) ≡ at + 1 + length l = omega arith in
    let rest : LabelsAt packet q start (at + 1 + length l) ls (at + 1 + length l + length (spelling ls)) =
    spelled_stands packet q start (at + 1 + length l) ls (record { each = d.each.1; short = omega (arith, d.short, long) })
    (subst (λ (n : ℕ). StandsAt packet n (spelling ls)) here behind) in
    let next : at + 1 + length l + length (spelling ls) ≡ at + length (spelling (l ∷ ls)) = omega (arith, long) in
    goes_on l ls d.each.0 (stands_before packet at (length l ∷ l) (spelling ls) h) d.short
    (subst (λ (n : ℕ). LabelsAt packet q start (at + 1 + length l) ls n) next rest)

-- so a spelling is read after whatever bytes, and before others
pub spelling_read : (front rest : List ℕ) (pointers : Pointers) (labels : List (List ℕ)) → IsDomain labels →
    LabelsAt (front ++ (spelling labels ++ rest)) pointers (length front) (length front) labels (length front + length (spelling labels))
spelling_read front rest pointers labels domain =
    spelled_stands _ pointers (length front) (length front) labels domain (stands_at_seam front (spelling labels) rest)

-- ---- labels without pointers

-- what stands after what stands at an offset
pub stands_joined : (packet : List ℕ) (at : ℕ) (xs ys : List ℕ) → StandsAt packet at xs → StandsAt packet (at + length xs) ys → StandsAt packet at (xs ++ ys)
stands_joined packet at xs ys h k =
    let behind : take (length ys) (drop (length xs) (drop at packet)) ≡ ys = ap (λ (d : List ℕ). take (length ys) d) (drop-drop (length xs) at packet) ∙ k in
    let whole = take-add (length xs) (length ys) (drop at packet) in
    rw (length-append xs ys) (whole ∙ cc (h, behind))

-- where pointers are refused, labels stand as they are spelled
pub spelled_there : (packet : List ℕ) (start at : ℕ) (ls : List (List ℕ)) (n : ℕ) → LabelsAt packet Refused start at ls n → StandsAt packet at (spelling ls) × (n ≡ at + length (spelling ls))
spelled_there packet start at ls n (ends a) = (a, refl)
spelled_there packet start at ls n (goes_on l more f b s r) =
    let rest = spelled_there packet start (at + 1 + length l) more n r in
    let here : at + 1 + length l ≡ at + length (length l ∷ l) = omega arith in (
      stands_joined packet at (length l ∷ l) (spelling more) b (subst (λ (x : ℕ). StandsAt packet x (spelling more)) here rest.0),
      omega (arith, rest.1, length-append l (spelling more)),
    )
spelled_there packet start at ls n (leads_to t behind f p low r) = absurd (cc f)

-- the bytes from a name up to the offset after it spell its labels
pub range_spelled : (packet : List ℕ) (at : ℕ) (ls : List (List ℕ)) (n : ℕ) → LabelsAt packet Refused at at ls n → take (n - at) (drop at packet) ≡ spelling ls
range_spelled packet at ls n there =
    let spelled = spelled_there packet at at ls n there in
    let size : n - at ≡ length (spelling ls) = omega (arith, spelled.1) in
    rw size spelled.0
