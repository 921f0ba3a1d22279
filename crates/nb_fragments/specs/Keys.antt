-- Keys: which packet a fragment of IP is of (RFC 791 section 3.2, RFC 8200 section 4.5), and their order (our choice), which is total.
use Rattle.std.specs.Prelude.{◌≡◌, Bool, true}
use Rattle.std.specs.Ordering.{nat_cmp, on, then_cmp, eq_by_cmp}
use Rattle.std.specs.Cmp.{Equal-is, IsTotalOrder, nat_cmp_total, on_total, then_total}
use Rattle.std.specs.FinMap.{nat_cmp-IsAntisymmetric}
use Rattle.std.specs.declared.cmp.Ordering.{Ordering}
use Rattle.nb_frames.specs.Hosts.{both_tie, hosts_cmp, hosts_cmp_exact, hosts_cmp_total}
use Rattle.nb_frames.specs.declared.carried.IpFragment.{IpFragment}
use Rattle.nb_fragments.specs.declared.key.Key.{Key}

-- the order of keys: by the number, then the protocol, then the hosts
abbrev pub key_cmp : Key → Key → Ordering
key_cmp = then_cmp (on (λ k. k.identification) nat_cmp) (then_cmp (on (λ k. k.protocol) nat_cmp) (on (λ k. k.hosts) hosts_cmp))

-- the two are one key
abbrev pub same_key : Key → Key → Bool
same_key = eq_by_cmp key_cmp

-- the key of a fragment
abbrev pub key_of : IpFragment → Key
key_of f = record { identification = f.place.identification; protocol = f.protocol; hosts = f.hosts }

-- the order of keys is total
pub key_cmp_total : IsTotalOrder key_cmp
key_cmp_total =
    then_total (on_total (λ (k : Key). k.identification) nat_cmp_total)
    (then_total (on_total (λ (k : Key). k.protocol) nat_cmp_total) (on_total (λ (k : Key). k.hosts) hosts_cmp_total))

-- keys that tie are the same
pub key_exact : (a b : Key) → same_key a b ≡ true → a ≡ b
key_exact a b h =
    let first = both_tie _ _ ((Equal-is (key_cmp a b)).0 h) in
    let second = both_tie _ _ first.1 in
    let identification = nat_cmp-IsAntisymmetric a.identification b.identification first.0 in
    let protocol = nat_cmp-IsAntisymmetric a.protocol b.protocol second.0 in
    let hosts = hosts_cmp_exact a.hosts b.hosts second.1 in
    λ i. record { identification = identification i; protocol = protocol i; hosts = hosts i }
