-- The ends of directions: when two are one, and their order (our choice), which is total.
use Rattle.std.specs.Prelude.{◌≡◌, Bool, true}
use Rattle.std.specs.Ordering.{on, then_cmp, eq_by_cmp}
use Rattle.std.specs.Cmp.{Equal-is, IsTotalOrder, on_total, then_total}
use Rattle.std.specs.declared.cmp.Ordering.{Ordering}
use Rattle.nb_frames.specs.Hosts.{both_tie, hosts_cmp, hosts_cmp_exact, hosts_cmp_total, ports_cmp, ports_cmp_exact, ports_cmp_total}
use Rattle.nb_connections.specs.declared.piece.Ends.{Ends}

-- the order of ends: by the hosts, then by the ports
abbrev pub ends_cmp : Ends → Ends → Ordering
ends_cmp = then_cmp (on (λ e. e.hosts) hosts_cmp) (on (λ e. e.ports) ports_cmp)

-- the two are the ends of one direction
abbrev pub same_ends : Ends → Ends → Bool
same_ends = eq_by_cmp ends_cmp

-- the order of ends is total
pub ends_cmp_total : IsTotalOrder ends_cmp
ends_cmp_total = then_total (on_total (λ (e : Ends). e.hosts) hosts_cmp_total) (on_total (λ (e : Ends). e.ports) ports_cmp_total)

-- ends that tie are the same
pub ends_exact : (a b : Ends) → same_ends a b ≡ true → a ≡ b
ends_exact a b h =
    let both = both_tie _ _ ((Equal-is (ends_cmp a b)).0 h) in
    let hosts = hosts_cmp_exact a.hosts b.hosts both.0 in
    let ports = ports_cmp_exact a.ports b.ports both.1 in
    λ i. record { hosts = hosts i; ports = ports i }
