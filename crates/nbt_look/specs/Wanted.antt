-- Which packets of the list are wanted: those of some hosts, of some ports, with some names, of some kinds, or any (our choice). Of several values of an option one
-- has to fit, and every option that is given.
use Rattle.std.specs.Prelude.{ℕ, ◌-◌, ◌/◌, ◌^◌, ◌&&◌, ◌||◌, Bool, true, false, not, List, [], ◌∷◌, Option, Some, None, nat_eq, nat_le}
use Rattle.std.specs.List.{list_any}
use Rattle.std.specs.Net.Addr.{ipv4_bits, ipv6_bits}
use Rattle.std.specs.declared.net.ip_addr.IpAddr.{IpAddr}
use Rattle.std.specs.declared.net.ip_addr.IpAddr.TheVariants.{V4, V6}
use Rattle.nb_frames.specs.declared.carried.Hosts.{Hosts}
use Rattle.nb_frames.specs.declared.carried.Ports.{Ports}
use Rattle.nb_traffic.specs.Brought.{PacketValue}
use Rattle.nbt_look.specs.declared.wanted.Prefix.{Prefix}
use Rattle.nbt_look.specs.declared.wanted.Filter.{Filter}

-- front_bits width count bits: the first so many bits of a number of so many bits
abbrev pub front_bits : ℕ → ℕ → ℕ → ℕ
front_bits width count bits = bits / 2 ^ (width - count)

-- begins_as start count address: whether an address begins with the first so many bits of another one of its version
abbrev pub begins_as : IpAddr → ℕ → IpAddr → Bool
begins_as (V4 start) count (V4 address) = nat_eq (front_bits 32 count (ipv4_bits address)) (front_bits 32 count (ipv4_bits start))
begins_as (V6 start) count (V6 address) = nat_eq (front_bits 128 count (ipv6_bits address)) (front_bits 128 count (ipv6_bits start))
begins_as (V4 start) count (V6 address) = false
begins_as (V6 start) count (V4 address) = false

-- whether a list names nothing
abbrev pub is_any : {A : Type 0} → List A → Bool
is_any [] = true
is_any (one ∷ others) = false

-- whether an address is one of these
abbrev pub is_of : List Prefix → IpAddr → Bool
is_of prefixes address = list_any (λ prefix. begins_as prefix.start prefix.bits address) prefixes

-- whether a packet comes from or goes to one of these hosts; any does where none is named
abbrev pub is_between : List Prefix → Hosts → Bool
is_between prefixes hosts = is_any prefixes || (is_of prefixes hosts.source || is_of prefixes hosts.destination)

-- whether a port is one of these
abbrev pub is_port : List ℕ → ℕ → Bool
is_port ports port = list_any (λ one. nat_eq one port) ports

-- whether one of these ports is the sender's, the receiver's or that of the service; any does where none is named
abbrev pub is_at : List ℕ → Ports → ℕ → Bool
is_at ports ends service = is_any ports || (is_port ports ends.source || (is_port ports ends.destination || is_port ports service))

-- whether a packet is of the hosts and ports that are wanted
abbrev pub wants : Filter → PacketValue → Bool
wants filter p = is_between filter.hosts p.hosts && is_at filter.ports p.ports p.service

-- whether every packet is wanted
abbrev pub wants_all : Filter → Bool
wants_all filter = is_any filter.names && (is_any filter.hosts && (is_any filter.ports && is_any filter.kinds))

-- whether it depends on what a payload has that a packet is wanted
abbrev pub looks_inside : Filter → Bool
looks_inside filter = not (is_any filter.names) || not (is_any filter.kinds)

-- reaches most shown: whether so many packets are as many as are wanted at most
abbrev pub reaches : Option ℕ → ℕ → Bool
reaches None shown = false
reaches (Some most) shown = nat_le most shown

-- the same of a filter
abbrev pub is_enough : Filter → ℕ → Bool
is_enough filter shown = reaches filter.most shown
