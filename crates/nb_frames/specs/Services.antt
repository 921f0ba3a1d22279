-- Which service of NetBIOS a payload is of, by its ports (RFC 1002 section 4): names 137 and datagrams 138 of UDP, sessions 139 of TCP.
use Rattle.std.specs.Prelude.{ℕ, ◌==◌, ◌||◌, Bool, Option, Some, None, if◌then◌else◌}
use Rattle.nb_frames.specs.declared.carried.Carried.{Carried}
use Rattle.nb_frames.specs.declared.carried.Carried.TheVariants.{Udp, Tcp, Fragment, Other}
use Rattle.nb_frames.specs.declared.carried.Ports.{Ports}

-- service_port is_service ports: the port of the service: the destination's, where it is a service's, else the source's
abbrev pub service_port : (ℕ → Bool) → Ports → Option ℕ
service_port is_service ports =
    (if is_service ports.destination then Some ports.destination
    else (if is_service ports.source then Some ports.source
    else None))

-- the port of the service that a payload is of
abbrev pub service_of : Carried → Option ℕ
service_of (Udp datagram) = service_port (λ port. port == 137 || port == 138) datagram.ports
service_of (Tcp segment) = service_port (λ port. port == 139) segment.ports
service_of (Fragment fragment) = None
service_of (Other reason) = None
