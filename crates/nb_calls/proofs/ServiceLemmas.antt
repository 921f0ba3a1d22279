-- Of a payload of port 137: its header, and each item, of which one thing is answered.
use Rattle.nb_calls.proofs.Common.{◌≡◌, ◌∙◌, ℕ, ◌<◌, ◌≤◌, List, length, Option, Ok, Err, refl, ap, sym, subst, arith, PacketHeader, HasHeader, seen_extent, HasOutline, item_count, Refusal, HasOne, ServiceFault, ReadsItem, headless, uncounted, fails, stands, section_number, numbers, item_numbers, cut_header, service_refusal}
use Rattle.nb_service.specs.declared.record.Extent.{Extent}
use Rattle.nb_service.specs.declared.fault.ServiceFault.TheVariants.{Truncated}
use Rattle.nb_service.specs.declared.record.Fields.{Fields}
use Rattle.nb_service.specs.declared.limits.TheConstants.{HEADER_LENGTH}
use Rattle.nb_service.specs.declared.packet.Section.{Section}
use Rattle.nb_service.specs.declared.seen.Seen.{Seen}
use Rattle.nb_service.specs.Items.{PacketItem, asked, told, ItemAt, ItemFails, IsExtent, Sees}
use Rattle.nb_service.proofs.WalkedLemmas.{fails_counted}

-- a payload has one header
pub record HeaderLaws (payload : List ℕ) : Type 0 where
  pub one : (a b : PacketHeader) → HasHeader payload a → HasHeader payload b → a ≡ b
  pub whole : (a : PacketHeader) → HasHeader payload a → 12 ≤ length payload

-- why a payload has no header
abbrev pub IsCut : List ℕ → ServiceFault → Type 0
IsCut payload fault = (fault ≡ Truncated (length payload)) × (length payload < HEADER_LENGTH)

pub cut_refusal : (payload : List ℕ) (fault : ServiceFault) → IsCut payload fault → service_refusal fault ≡ cut_header payload
cut_refusal payload fault cut = ap service_refusal cut.0

-- the header of a packet stands there
pub outline_header : (payload : List ℕ) (header : PacketHeader) (used : ℕ) → HasOutline payload header used → HasHeader payload header
outline_header payload header used there = subst (λ (h : PacketHeader). HasHeader payload h) there.outlined there.stands.header

-- ---- items

-- at an offset stands one item of a number, or it has one fault
pub record ItemLaws (payload : List ℕ) : Type 0 where
  pub one : (h : PacketHeader) (k at : ℕ) (a b : PacketItem) (m n : ℕ) → ItemAt payload h k at a m → ItemAt payload h k at b n → (a ≡ b) × (m ≡ n)
  pub apart : (h : PacketHeader) (k at : ℕ) (f : ServiceFault) (a : PacketItem) (n : ℕ) → ItemFails payload h k at f → ¬ ItemAt payload h k at a n
  pub one_fault : (h : PacketHeader) (k at : ℕ) (f g : ServiceFault) → ItemFails payload h k at f → ItemFails payload h k at g → f ≡ g
  pub counted : (h : PacketHeader) (k at : ℕ) (a : PacketItem) (n : ℕ) → ItemAt payload h k at a n → k < item_count h
  pub extent : (at : ℕ) (a : PacketItem) (d e : Extent) → IsExtent payload at a d → IsExtent payload at a e → d.next ≡ e.next → d ≡ e

-- RDATA begins where it ends, or before
pub extent_fits : (payload : List ℕ) (at : ℕ) (a : PacketItem) (e : Extent) → IsExtent payload at a e → e.rdata ≤ e.next
extent_fits payload at (asked q) e is = omega (arith, is)
extent_fits payload at (told s r) e is = omega (arith, is.2)

-- how far an item reaches that was seen to stand at this offset
pub extent_there : (payload : List ℕ) (a : PacketItem) (s : Seen) (at : ℕ) → s.at ≡ at → Sees payload a s → IsExtent payload at a s.fields.extent
extent_there payload a s at same sees = subst (λ (n : ℕ). IsExtent payload n a s.fields.extent) same (seen_extent payload a s sees)

-- the same section and fields are the same numbers
pub same_numbers : (s t : Option Section) (f g : Fields) (number : ℕ) (labels : List (List ℕ)) → number ≡ section_number s → s ≡ t → f ≡ g
    → numbers number f labels ≡ numbers (section_number t) g labels
same_numbers s t f g number labels is section fields =
    let found = is ∙ ap section_number section in
    λ i. numbers (found i) (fields i) labels

-- where no header stands, no item does
pub item_cut : (payload : List ℕ) (k at : ℕ) (fault : ServiceFault) → IsCut payload fault → ReadsItem payload k at (Err (service_refusal fault))
item_cut payload k at fault cut =
    subst (λ (r : Refusal). ReadsItem payload k at (Err r)) (sym (cut_refusal payload fault cut)) (headless cut.1)

module _ (payload : List ℕ) (headers : HeaderLaws payload) (laws : ItemLaws payload) (k at : ℕ) where
  same_count : (h g : PacketHeader) → HasHeader payload h → HasHeader payload g → item_count h ≡ item_count g
  same_count h g s t = ap item_count (headers.one h g s t)

  moved : (h g : PacketHeader) (a : PacketItem) (n : ℕ) → HasHeader payload h → HasHeader payload g → ItemAt payload h k at a n → ItemAt payload g k at a n
  moved h g a n s t i = subst (λ (p : PacketHeader). ItemAt payload p k at a n) (headers.one h g s t) i

  fails_moved : (h g : PacketHeader) (f : ServiceFault) → HasHeader payload h → HasHeader payload g → ItemFails payload h k at f → ItemFails payload g k at f
  fails_moved h g f s t i = subst (λ (p : PacketHeader). ItemFails payload p k at f) (headers.one h g s t) i

  same_item : (h : PacketHeader) (a b : PacketItem) (d e : Extent) → ItemAt payload h k at a d.next → IsExtent payload at a d → ItemAt payload h k at b e.next → IsExtent payload at b e
      → item_numbers a d ≡ item_numbers b e
  same_item h a b d e i x j y =
      let same = laws.one h k at a b d.next e.next i j in
      let reach = laws.extent at b d e (subst (λ (c : PacketItem). IsExtent payload at c d) same.0 x) y same.1 in
      cc (same.0, reach)

  pub item_one : HasOne (ReadsItem payload k at)
  item_one a b (headless low) (headless less) = refl
  item_one a b (headless low) (uncounted g t past) = absurd (omega (arith, low, headers.whole g t))
  item_one a b (headless low) (fails g f t i) = absurd (omega (arith, low, headers.whole g t))
  item_one a b (headless low) (stands g x e t i r) = absurd (omega (arith, low, headers.whole g t))
  item_one a b (uncounted h s past) (headless low) = absurd (omega (arith, low, headers.whole h s))
  item_one a b (uncounted h s past) (uncounted g t high) = refl
  item_one a b (uncounted h s past) (fails g f t i) = absurd (omega (arith, past, same_count h g s t, fails_counted payload g k at f i))
  item_one a b (uncounted h s past) (stands g x e t i r) = absurd (omega (arith, past, same_count h g s t, laws.counted g k at x e.next i))
  item_one a b (fails h f s i) (headless low) = absurd (omega (arith, low, headers.whole h s))
  item_one a b (fails h f s i) (uncounted g t past) = absurd (omega (arith, past, same_count h g s t, fails_counted payload h k at f i))
  item_one a b (fails h f s i) (fails g e t j) = ap (λ (c : ServiceFault). Err (service_refusal c)) (laws.one_fault g k at f e (fails_moved h g f s t i) j)
  item_one a b (fails h f s i) (stands g x e t j r) = absurd (laws.apart g k at f x e.next (fails_moved h g f s t i) j)
  item_one a b (stands h x e s i r) (headless low) = absurd (omega (arith, low, headers.whole h s))
  item_one a b (stands h x e s i r) (uncounted g t past) = absurd (omega (arith, past, same_count h g s t, laws.counted h k at x e.next i))
  item_one a b (stands h x e s i r) (fails g f t j) = absurd (laws.apart g k at f x e.next j (moved h g x e.next s t i))
  item_one a b (stands h x e s i r) (stands g y d t j q) = ap Ok (same_item g x y e d (moved h g x e.next s t i) r j q)
