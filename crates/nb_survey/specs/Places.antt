-- Names and addresses: when two are one, and the order of addresses (our choice): those of IPv4 first.
use Rattle.std.specs.Prelude.{ℕ, Bool, List}
use Rattle.std.specs.Ordering.{nat_cmp, on, then_cmp, eq_by_cmp}
use Rattle.std.specs.Cmp.Lexicographic.{slice_cmp}
use Rattle.std.specs.declared.cmp.Ordering.{Ordering}
use Rattle.std.specs.declared.net.ip_addr.IpAddr.{IpAddr}
use Rattle.std.specs.declared.net.ip_addr.IpAddr.TheVariants.{V4, V6}
use Rattle.nb_names.specs.DomainName.{domain_cmp}

-- the version of IP
abbrev pub version_of : IpAddr → ℕ
version_of (V4 ip) = 4
version_of (V6 ip) = 6

-- the numbers of an address: four octets, or eight segments
abbrev pub numbers_of : IpAddr → List ℕ
numbers_of (V4 ip) = ip.octets
numbers_of (V6 ip) = ip.segments

-- the order of addresses
abbrev pub address_cmp : IpAddr → IpAddr → Ordering
address_cmp = then_cmp (on version_of nat_cmp) (on numbers_of (slice_cmp nat_cmp))

-- two addresses are one
abbrev pub same_address : IpAddr → IpAddr → Bool
same_address = eq_by_cmp address_cmp

-- two names are one
abbrev pub same_name : List (List ℕ) → List (List ℕ) → Bool
same_name = eq_by_cmp domain_cmp
