-- A datagram with literals, for the laws.
use Rattle.std.specs.Prelude.{ℕ, [], ◌∷◌}
use Rattle.nb_frames.specs.declared.carried.Hosts.{Hosts}
use Rattle.nb_frames.specs.declared.carried.UdpDatagram.{UdpDatagram}

-- from port 1025 to this one, of which two of three bytes are captured
abbrev pub sent_to : Hosts → ℕ → UdpDatagram
sent_to hosts port = record {
  hosts = hosts;
  ports = record { source = 1025; destination = port };
  payload = record { bytes = 1 ∷ 2 ∷ []; wire_length = 3 };
}
