-- At the front of bytes stands one thing.
use Rattle.nb_datagram.proofs.Common.{◌≡◌, ℕ, ◌+◌, List, take, Option, Some, refl, ap, sym, subst, ◌∙◌, Refused, NameAt, NetbiosName, labels_of_name, stands_same, one_number_16, one_reading, header_bytes}
use Rattle.nb_names.specs.NameFaults.{NetbiosFaultAt}
use Rattle.nb_names.proofs.FaultLemmas.{no_netbios}
use Rattle.nb_names.proofs.NameLemmas.{one_name}
use Rattle.nb_datagram.specs.declared.front.FragmentFront.{FragmentFront}
use Rattle.nb_datagram.specs.declared.front.Front.{Front}
use Rattle.nb_datagram.specs.declared.front.Header.{Header}
use Rattle.nb_datagram.specs.Code.Reading.{HasHeader}
use Rattle.nb_datagram.specs.Fronts.{NamesStand, no_name, source_alone, both_names, FragmentStands, RestStands, of_fragment, of_another, HasFront}
use Rattle.nb_datagram.proofs.PacketLemmas.{keys_same}
use Rattle.nb_datagram.proofs.ReadingLemmas.{header_long}

same_name : (packet : List ℕ) (at : ℕ) (m n : NetbiosName) (next other : ℕ) → NameAt packet Refused at (labels_of_name m) next
    → NameAt packet Refused at (labels_of_name n) other → (m ≡ n) × (next ≡ other)
same_name packet at m n next other x y =
    let same = one_reading packet Refused at at (labels_of_name m) (labels_of_name n) next other x y in (one_name m n same.0, same.1)

one_names : (packet : List ℕ) (s t d e : Option NetbiosName) → NamesStand packet s d → NamesStand packet t e → (s ≡ t) × (d ≡ e)
one_names packet s t d e (no_name f x) (no_name g y) = (refl, refl)
one_names packet s t d e (no_name f x) (source_alone m k g i j y) = absurd (no_netbios packet Refused 14 f m k x i j)
one_names packet s t d e (no_name f x) (both_names m n k l i j p q) = absurd (no_netbios packet Refused 14 f m k x i p)
one_names packet s t d e (source_alone m k f i j x) (no_name g y) = absurd (no_netbios packet Refused 14 g m k y i j)
one_names packet s t d e (source_alone m k f i j x) (source_alone n l g p q y) =
    (ap (λ (name : NetbiosName). Some name) (same_name packet 14 m n k l j q).0, refl)
one_names packet s t d e (source_alone m k f i j x) (both_names n o l z p u q r) =
    let same = same_name packet 14 m n k l j q in
    absurd (no_netbios packet Refused l f o z (subst (λ (at : ℕ). NetbiosFaultAt packet Refused at f) same.1 x) u r)
one_names packet s t d e (both_names n o l z p u q r) (no_name g y) = absurd (no_netbios packet Refused 14 g n l y p q)
one_names packet s t d e (both_names n o l z p u q r) (source_alone m k f i j x) =
    let same = same_name packet 14 m n k l j q in
    absurd (no_netbios packet Refused l f o z (subst (λ (at : ℕ). NetbiosFaultAt packet Refused at f) same.1 x) u r)
one_names packet s t d e (both_names n o l z p u q r) (both_names m a k b i c j x) =
    let same = same_name packet 14 n m l k q j in
    let last = same_name packet k o a z b (subst (λ (at : ℕ). NameAt packet Refused at (labels_of_name o) z) same.1 r) x in
    (ap (λ (name : NetbiosName). Some name) same.0, ap (λ (name : NetbiosName). Some name) last.0)

one_fragment : (bytes : List ℕ) (f g : FragmentFront) → FragmentStands bytes f → FragmentStands bytes g → f ≡ g
one_fragment bytes f g x y =
    let size = one_number_16 bytes 10 x.size y.size x.counted y.counted in
    let place = one_number_16 bytes 12 f.offset g.offset x.offset y.offset in
    let moved = subst (λ (n : ℕ). NamesStand (take (14 + n) bytes) f.source f.destination) size x.names in
    let both = one_names (take (14 + y.size) bytes) f.source g.source f.destination g.destination moved y.names in
    λ i. record { offset = place i; source = both.0 i; destination = both.1 i }

one_rest : (bytes : List ℕ) (type : ℕ) (f g : Option FragmentFront) → RestStands bytes type f → RestStands bytes type g → f ≡ g
one_rest bytes type f g (of_fragment a is x) (of_fragment b was y) = ap (λ (front : FragmentFront). Some front) (one_fragment bytes a b x y)
one_rest bytes type f g (of_fragment a is x) (of_another not) = absurd (not is)
one_rest bytes type f g (of_another not) (of_fragment b was y) = absurd (not was)
one_rest bytes type f g (of_another not) (of_another never) = refl

pub one_front : (bytes : List ℕ) (f g : Front) → HasFront bytes f → HasFront bytes g → f ≡ g
one_front bytes f g x y =
    let long = header_long f.message_type f.flags f.key x.key.ip ∙ sym (header_long g.message_type g.flags g.key y.key.ip) in
    let header = stands_same bytes 0 (header_bytes f.message_type f.flags f.key) (header_bytes g.message_type g.flags g.key) x.stands y.stands long in
    let same = keys_same f.message_type f.flags f.key g.message_type g.flags g.key x.key y.key header in
    let moved = subst (λ (type : ℕ). RestStands bytes type f.fragment) same.0 x.rest in
    let rest = one_rest bytes g.message_type f.fragment g.fragment moved y.rest in
    λ i. record { message_type = same.0 i; flags = same.1 i; key = same.2 i; fragment = rest i }

-- a header, and what stands after it, are a front
pub front_there : (bytes : List ℕ) (h : Header) (rest : Option FragmentFront) → HasHeader bytes h → RestStands bytes h.message_type rest →
    HasFront bytes (record { message_type = h.message_type; flags = h.flags; key = h.key; fragment = rest })
front_there bytes h rest there stands = record { key = there.key; stands = there.stands; rest = stands }
