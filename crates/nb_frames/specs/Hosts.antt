-- The order of hosts (our choice), that it is total, and that hosts which tie are the same. The laws of traits may cite these.
use Rattle.std.specs.Prelude.{ℕ, ◌≡◌, Bool, List, refl}
use Rattle.std.specs.Ordering.{nat_cmp, on, then_cmp, eq_by_cmp, ordering_then}
use Rattle.std.specs.Cmp.{IsTotalOrder, nat_cmp_total, on_total, then_total}
use Rattle.std.specs.Cmp.Lexicographic.{slice_cmp, nat_list_cmp_total}
use Rattle.std.specs.FinMap.{IsAntisymmetric, nat_cmp-IsAntisymmetric, slice_cmp-IsAntisymmetric}
use Rattle.std.specs.declared.cmp.Ordering.{Ordering}
use Rattle.std.specs.declared.cmp.Ordering.TheVariants.{Less, Equal, Greater}
use Rattle.std.specs.declared.net.ip_addr.IpAddr.{IpAddr}
use Rattle.std.specs.declared.net.ip_addr.IpAddr.TheVariants.{V4, V6}
use Rattle.nb_frames.specs.declared.carried.Hosts.{Hosts}
use Rattle.nb_frames.specs.declared.carried.Ports.{Ports}

-- the version of IP
abbrev pub version_of : IpAddr → ℕ
version_of (V4 ip) = 4
version_of (V6 ip) = 6

-- the numbers of an address: four octets, or eight segments
abbrev pub numbers_of : IpAddr → List ℕ
numbers_of (V4 ip) = ip.octets
numbers_of (V6 ip) = ip.segments

-- the order of addresses: by the version, then by their numbers
abbrev pub address_cmp : IpAddr → IpAddr → Ordering
address_cmp = then_cmp (on version_of nat_cmp) (on numbers_of (slice_cmp nat_cmp))

-- the order of hosts: by the source, then by the destination
abbrev pub hosts_cmp : Hosts → Hosts → Ordering
hosts_cmp = then_cmp (on (λ h. h.source) address_cmp) (on (λ h. h.destination) address_cmp)

-- the two are the same
abbrev pub same_hosts : Hosts → Hosts → Bool
same_hosts = eq_by_cmp hosts_cmp

-- the order of ports: by the source, then by the destination
abbrev pub ports_cmp : Ports → Ports → Ordering
ports_cmp = then_cmp (on (λ p. p.source) nat_cmp) (on (λ p. p.destination) nat_cmp)

address_cmp_total : IsTotalOrder address_cmp
address_cmp_total = then_total (on_total version_of nat_cmp_total) (on_total numbers_of nat_list_cmp_total)

-- the order of hosts is total
pub hosts_cmp_total : IsTotalOrder hosts_cmp
hosts_cmp_total = then_total (on_total (λ (h : Hosts). h.source) address_cmp_total) (on_total (λ (h : Hosts). h.destination) address_cmp_total)

-- the order of ports is total
pub ports_cmp_total : IsTotalOrder ports_cmp
ports_cmp_total = then_total (on_total (λ (p : Ports). p.source) nat_cmp_total) (on_total (λ (p : Ports). p.destination) nat_cmp_total)

-- where two comparisons one after the other tie, each ties
pub both_tie : (a b : Ordering) → ordering_then a b ≡ Equal → (a ≡ Equal) × (b ≡ Equal)
both_tie Less b e = absurd (cc)
both_tie Equal b e = (refl, e)
both_tie Greater b e = absurd (cc)

address_cmp_exact : IsAntisymmetric address_cmp
address_cmp_exact (V4 a) (V4 b) e =
    let octets = slice_cmp-IsAntisymmetric nat_cmp-IsAntisymmetric a.octets b.octets e in
    λ i. V4 (record { octets = octets i })
address_cmp_exact (V4 a) (V6 b) e = absurd (cc)
address_cmp_exact (V6 a) (V4 b) e = absurd (cc)
address_cmp_exact (V6 a) (V6 b) e =
    let segments = slice_cmp-IsAntisymmetric nat_cmp-IsAntisymmetric a.segments b.segments e in
    λ i. V6 (record { segments = segments i })

-- hosts that tie are the same
pub hosts_cmp_exact : IsAntisymmetric hosts_cmp
hosts_cmp_exact a b e =
    let both = both_tie _ _ e in
    let source = address_cmp_exact a.source b.source both.0 in
    let destination = address_cmp_exact a.destination b.destination both.1 in
    λ i. record { source = source i; destination = destination i }

-- ports that tie are the same
pub ports_cmp_exact : IsAntisymmetric ports_cmp
ports_cmp_exact a b e =
    let both = both_tie _ _ e in
    let source = nat_cmp-IsAntisymmetric a.source b.source both.0 in
    let destination = nat_cmp-IsAntisymmetric a.destination b.destination both.1 in
    λ i. record { source = source i; destination = destination i }
