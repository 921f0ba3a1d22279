-- What a frame of a capture has, by its link type and its bytes.
use Rattle.std.specs.Prelude.{◌≡◌, ◌≢◌, ℕ, List, drop, Some, None, Ok, Err}
use Rattle.nb_frames.specs.declared.carried.Carried.{Carried}
use Rattle.nb_frames.specs.declared.carried.Carried.TheVariants.{Fragment, Other}
use Rattle.nb_frames.specs.declared.contents.Contents.{Contents}
use Rattle.nb_frames.specs.declared.carried.IpPacket.{IpPacket}
use Rattle.nb_frames.specs.declared.carried.Place.{Place}
use Rattle.nb_frames.specs.declared.link.Link.{Link}
use Rattle.nb_frames.specs.declared.reason.Reason.{Reason}
use Rattle.nb_frames.specs.declared.reason.Reason.TheVariants.{Protocol}
use Rattle.nb_frames.specs.Carried.{ip_in}
use Rattle.nb_frames.specs.Link.{link_of, network_of, sender_of, receiver_of, vlans_of}
use Rattle.nb_frames.specs.Transport.{udp_in, tcp_in}

-- HasPacket link frame packet: this packet of IP is read of a frame of this link layer
pub record HasPacket (link : Link) (frame : List ℕ) (packet : IpPacket) : Type 0 where
  pub at : ℕ
  pub begins : network_of link frame ≡ Ok at
  pub reads : ip_in (drop at frame) ≡ Ok packet

-- Carries link frame carried: a frame of this link layer carries this
pub data Carries (link : Link) (frame : List ℕ) : Carried → Type 0 where
  no_network : (reason : Reason) → network_of link frame ≡ Err reason → Carries link frame (Other reason)
  no_packet : (at : ℕ) (reason : Reason) → network_of link frame ≡ Ok at → ip_in (drop at frame) ≡ Err reason → Carries link frame (Other reason)
  fragment : (packet : IpPacket) (place : Place) → HasPacket link frame packet → packet.place ≡ Some place
      → Carries link frame (Fragment (record { hosts = packet.hosts; protocol = packet.protocol; place = place; payload = packet.body }))
  udp : (packet : IpPacket) → HasPacket link frame packet → packet.place ≡ None → packet.protocol ≡ 17
      → Carries link frame (udp_in packet.hosts packet.body)
  tcp : (packet : IpPacket) → HasPacket link frame packet → packet.place ≡ None → packet.protocol ≡ 6
      → Carries link frame (tcp_in packet.hosts packet.body)
  another : (packet : IpPacket) → HasPacket link frame packet → packet.place ≡ None → packet.protocol ≢ 17 → packet.protocol ≢ 6
      → Carries link frame (Other (Protocol packet.protocol))

-- HasContents link_type frame contents: the frame has this
pub record HasContents (link_type : ℕ) (frame : List ℕ) (contents : Contents) : Type 0 where
  pub sender : contents.sender ≡ sender_of (link_of link_type) frame
  pub receiver : contents.receiver ≡ receiver_of (link_of link_type) frame
  pub vlans : contents.vlans.items ≡ vlans_of (link_of link_type) frame
  pub carried : Carries (link_of link_type) frame contents.carried
