-- Bytes are parts in one way.
use Rattle.std.proofs.Common.{◌≡◌, ◌++◌, ℕ, List, [], take, drop, length, Result, Ok, Err, refl, sym, subst, ◌∙◌, ap, arith}
use Rattle.std.proofs.lemmas.List.{take_at, drop_at, length-append}
use Rattle.nb_pcap.specs.declared.context.Context.{Context}
use Rattle.nb_pcap.specs.declared.context.Context.TheVariants.{Beginning}
use Rattle.nb_pcap.specs.declared.fault.FileFault.{FileFault}
use Rattle.nb_pcap.specs.Context.{size_of, content}
use Rattle.nb_pcap.specs.File.{IsBad, IsPart, IsStuck, IsUnfinished, in_content, in_size, Spells, no_part, one_more, frames_of}
use Rattle.nb_pcap.specs.Frame.{FrameValue}
use Rattle.nb_pcap.specs.Section.{Taken}
use Rattle.nb_pcap.proofs.SizeLemmas.{ok_is, least_size, least_long, size_same}

-- where two lists that are equal are cut at one length, their parts are equal
same_parts : (xs ys us vs : List ℕ) → length xs ≡ length ys → xs ++ us ≡ ys ++ vs → (xs ≡ ys) × (us ≡ vs)
same_parts xs ys us vs long same = (
  sym (take_at xs us (length ys) long) ∙ ap (take (length ys)) same ∙ take_at ys vs (length ys) refl,
  sym (drop_at xs us (length ys) long) ∙ ap (drop (length ys)) same ∙ drop_at ys vs (length ys) refl,
)

-- whatever follows a part, it says how long it is
says_on : (c : Context) (part more : List ℕ) → size_of c part ≡ Ok (length part) → size_of c (part ++ more) ≡ Ok (length part)
says_on c part more says = size_same c part more (least_size c part (length part) says (omega arith)) ∙ says

one_part : (c : Context) (part other more rest : List ℕ) (s t : Taken Context) → IsPart c part s → IsPart c other t → part ++ more ≡ other ++ rest
    → (part ≡ other) × (more ≡ rest) × (s ≡ t)
one_part c part other more rest s t p q same =
    let long : length part ≡ length other =
    ok_is (length part) (length other) (size_of c (part ++ more)) (says_on c part more p.size) (ap (size_of c) same ∙ says_on c other rest q.size) in
    let both = same_parts part other more rest long same in
    (both.0, both.1, ok_is s t (content c part) p.gives (ap (content c) both.0 ∙ q.gives))

pub one_way : (c d last other : Context) (bytes same rest left : List ℕ) (fs gs : List FrameValue) → Spells c bytes fs last rest → IsStuck last rest
    → Spells d same gs other left → IsStuck other left → c ≡ d → bytes ≡ same → (fs ≡ gs) × (rest ≡ left) × (last ≡ other)
one_way _ _ _ _ _ _ _ _ _ _ (no_part c rest) a (no_part d left) b is equal = (refl, equal, is)
one_way _ _ _ _ _ _ _ _ _ _ (no_part c rest) a (one_more d other part more left t gs p s) b is equal =
    absurd (a part more t equal (subst (λ (x : Context). IsPart x part t) (sym is) p))
one_way _ _ _ _ _ _ _ _ _ _ (one_more c last part more rest t fs p s) a (no_part d left) b is equal =
    absurd (b part more t (sym equal) (subst (λ (x : Context). IsPart x part t) is p))
one_way _ _ _ _ _ _ _ _ _ _ (one_more c last part more rest t fs p s) a (one_more d other piece others left u gs q r) b is equal =
    let x = one_part c part piece more others t u p (subst (λ (y : Context). IsPart y piece u) (sym is) q) equal in
    let w = one_way t.next u.next last other more others rest left fs gs s a r b (ap (λ (y : Taken Context). y.next) x.2) x.1 in
    (λ i. frames_of (x.2 i).next (x.0 i) (x.2 i).head ++ w.0 i, w.1, w.2)

-- no part has no byte
pub none_there : (c : Context) → IsStuck c []
none_there c part more t nothing p =
    omega (arith, ap length nothing, length-append part more, least_long c, least_size c part (length part) p.size (omega arith))

pub one_list : (bytes : List ℕ) (fs gs : List FrameValue) (last other : Context) → Spells Beginning bytes fs last [] → Spells Beginning bytes gs other [] → fs ≡ gs
one_list bytes fs gs last other s t = (one_way Beginning Beginning last other bytes bytes [] [] fs gs s (none_there last) t (none_there other) refl refl).0

pub one_front : (bytes rest left : List ℕ) (fs gs : List FrameValue) (last other : Context) → Spells Beginning bytes fs last rest → IsStuck last rest
    → Spells Beginning bytes gs other left → IsStuck other left → (fs ≡ gs) × (rest ≡ left) × (last ≡ other)
one_front bytes rest left fs gs last other s a t b = one_way Beginning Beginning last other bytes bytes rest left fs gs s a t b refl refl

pub unfinished_there : (c : Context) (bytes : List ℕ) → IsUnfinished c bytes → IsStuck c bytes
unfinished_there c bytes u part more t same p =
    let size : length part ≡ u.size = ok_is (length part) u.size (size_of c bytes) (ap (size_of c) same ∙ says_on c part more p.size) u.says in
    omega (arith, u.short, size, ap length same, length-append part more)

not_both : {A : Type 0} (x : A) (why : FileFault) (r : Result A FileFault) → r ≡ Ok x → r ≡ Err why → ⊥
not_both x why r is broken = absurd (cc)

pub bad_there : (c : Context) (bytes : List ℕ) (why : FileFault) → IsBad c bytes why → IsStuck c bytes
bad_there c bytes why (in_size not) part more t same p = not_both (length part) why (size_of c bytes) (ap (size_of c) same ∙ says_on c part more p.size) not
bad_there c bytes why (in_content size says within not) part more t same p =
    let is : length part ≡ size = ok_is (length part) size (size_of c bytes) (ap (size_of c) same ∙ says_on c part more p.size) says in
    let front : take size bytes ≡ part = ap (take size) same ∙ take_at part more size is in
    not_both t why (content c part) p.gives (ap (content c) (sym front) ∙ not)
