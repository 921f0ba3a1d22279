-- A frame has one answer.
use Rattle.std.proofs.Common.{◌≡◌, ◌≢◌, ◌⊎◌, inl, inr, ℕ, ◌==◌, Bool, false, List, drop, Option, Some, None, Result, Ok, Err, refl, sym, subst, ◌∙◌, ap, arith, if◌then◌else◌}
use Rattle.std.proofs.lemmas.Bool.Decides.{nat_tests}
use Rattle.nb_frames.specs.declared.carried.Carried.{Carried}
use Rattle.nb_frames.specs.declared.carried.Carried.TheVariants.{Other}
use Rattle.nb_frames.specs.declared.carried.IpPacket.{IpPacket}
use Rattle.nb_frames.specs.declared.carried.Place.{Place}
use Rattle.nb_frames.specs.declared.contents.Contents.{Contents}
use Rattle.nb_frames.specs.declared.link.Link.{Link}
use Rattle.nb_frames.specs.declared.reason.Reason.{Reason}
use Rattle.nb_frames.specs.declared.reason.Reason.TheVariants.{Protocol}
use Rattle.nb_frames.specs.Carried.{ip_in, carried_at, carried_from, carried_read, carried_whole}
use Rattle.nb_frames.specs.Contents.{Carries, HasContents, HasPacket, no_network, no_packet, fragment, udp, tcp, another}
use Rattle.nb_frames.specs.Transport.{udp_in, tcp_in}
use Rattle.nb_frames.specs.Link.{link_of, network_of, sender_of, receiver_of, vlans_of}

-- ---- an answer

is_datagram : (packet : IpPacket) → packet.protocol ≡ 17 → carried_whole packet ≡ udp_in packet.hosts packet.body
is_datagram packet is =
    ap (λ (n : ℕ). (if n == 17 then udp_in packet.hosts packet.body else (if n == 6 then tcp_in packet.hosts packet.body else Other (Protocol n)))) is

is_segment : (packet : IpPacket) → packet.protocol ≡ 6 → carried_whole packet ≡ tcp_in packet.hosts packet.body
is_segment packet is =
    ap (λ (n : ℕ). (if n == 17 then udp_in packet.hosts packet.body else (if n == 6 then tcp_in packet.hosts packet.body else Other (Protocol n)))) is

is_another : (packet : IpPacket) → packet.protocol ≢ 17 → packet.protocol ≢ 6 → carried_whole packet ≡ Other (Protocol packet.protocol)
is_another packet not neither =
    let first : (packet.protocol == 17) ≡ false = grind (arith, nat_tests) in
    let second : (packet.protocol == 6) ≡ false = grind (arith, nat_tests) in
    ap (λ (b : Bool). (if b then udp_in packet.hosts packet.body else (if packet.protocol == 6 then tcp_in packet.hosts packet.body else Other (Protocol packet.protocol)))) first
    ∙ ap (λ (b : Bool). (if b then tcp_in packet.hosts packet.body else Other (Protocol packet.protocol))) second

by_protocol : (link : Link) (frame : List ℕ) (packet : IpPacket) → HasPacket link frame packet → packet.place ≡ None
    → (packet.protocol ≡ 17) ⊎ (packet.protocol ≢ 17) → (packet.protocol ≡ 6) ⊎ (packet.protocol ≢ 6) → Carries link frame (carried_whole packet)
by_protocol link frame packet has none (inl is) other = subst (λ (c : Carried). Carries link frame c) (sym (is_datagram packet is)) (udp packet has none is)
by_protocol link frame packet has none (inr not) (inl is) = subst (λ (c : Carried). Carries link frame c) (sym (is_segment packet is)) (tcp packet has none is)
by_protocol link frame packet has none (inr not) (inr neither) =
    subst (λ (c : Carried). Carries link frame c) (sym (is_another packet not neither)) (another packet has none not neither)

same_or : (m n : ℕ) → (m ≡ n) ⊎ (m ≢ n)
same_or m n = grind arith

by_place : (link : Link) (frame : List ℕ) (packet : IpPacket) (place : Option Place) → HasPacket link frame packet → packet.place ≡ place
    → Carries link frame (carried_at place packet)
by_place link frame packet None has is = by_protocol link frame packet has is (same_or packet.protocol 17) (same_or packet.protocol 6)
by_place link frame packet (Some place) has is = fragment packet place has is

by_packet : (link : Link) (frame : List ℕ) (at : ℕ) (read : Result IpPacket Reason) → network_of link frame ≡ Ok at → ip_in (drop at frame) ≡ read
    → Carries link frame (carried_read read)
by_packet link frame at (Ok packet) begins is = by_place link frame packet packet.place (record { at = at; begins = begins; reads = is }) refl
by_packet link frame at (Err reason) begins is = no_packet at reason begins is

by_network : (link : Link) (frame : List ℕ) (network : Result ℕ Reason) → network_of link frame ≡ network → Carries link frame (carried_from frame network)
by_network link frame (Ok at) is = by_packet link frame at (ip_in (drop at frame)) is refl
by_network link frame (Err reason) is = no_network reason is

carries : (link : Link) (frame : List ℕ) → Carries link frame (carried_from frame (network_of link frame))
carries link frame = by_network link frame (network_of link frame) refl

pub some_contents : (number : ℕ) (frame : List ℕ) → (all : Contents) × HasContents number frame all
some_contents number frame =
    let link = link_of number in (
      record {
        sender = sender_of link frame;
        receiver = receiver_of link frame;
        vlans = record { items = vlans_of link frame };
        carried = carried_from frame (network_of link frame);
      },
      record { sender = refl; receiver = refl; vlans = refl; carried = carries link frame },
    )

pub has_contents : (number : ℕ) (frame : List ℕ) (link : Link) (contents : Contents) (network : Result ℕ Reason) → link ≡ link_of number
    → contents.sender ≡ sender_of link frame → contents.receiver ≡ receiver_of link frame → contents.vlans.items ≡ vlans_of link frame
    → network ≡ network_of link frame → contents.carried ≡ carried_from frame network → HasContents number frame contents
has_contents number frame link contents network is sender receiver vlans begins same = record {
  sender = sender ∙ ap (λ (l : Link). sender_of l frame) is;
  receiver = receiver ∙ ap (λ (l : Link). receiver_of l frame) is;
  vlans = vlans ∙ ap (λ (l : Link). vlans_of l frame) is;
  carried = subst (λ (c : Carried). Carries (link_of number) frame c)
      (sym (same ∙ ap (carried_from frame) (begins ∙ ap (λ (l : Link). network_of l frame) is))) (carries (link_of number) frame);
}

-- ---- and no other

has_is : (link : Link) (frame : List ℕ) (packet : IpPacket) (place : Option Place) → HasPacket link frame packet → packet.place ≡ place
    → carried_from frame (network_of link frame) ≡ carried_at place packet
has_is link frame packet place has is = ap (carried_from frame) has.begins ∙ ap carried_read has.reads ∙ ap (λ (p : Option Place). carried_at p packet) is

carries_one : (link : Link) (frame : List ℕ) (carried : Carried) → Carries link frame carried → carried_from frame (network_of link frame) ≡ carried
carries_one link frame _ (no_network reason is) = ap (carried_from frame) is
carries_one link frame _ (no_packet at reason begins is) = ap (carried_from frame) begins ∙ ap carried_read is
carries_one link frame _ (fragment packet place has is) = has_is link frame packet (Some place) has is
carries_one link frame _ (udp packet has none is) = has_is link frame packet None has none ∙ is_datagram packet is
carries_one link frame _ (tcp packet has none is) = has_is link frame packet None has none ∙ is_segment packet is
carries_one link frame _ (another packet has none not neither) = has_is link frame packet None has none ∙ is_another packet not neither

pub one_contents : (number : ℕ) (frame : List ℕ) (a b : Contents) → HasContents number frame a → HasContents number frame b → a ≡ b
one_contents number frame a b x y =
    let sender : a.sender ≡ b.sender = x.sender ∙ sym y.sender in
    let receiver : a.receiver ≡ b.receiver = x.receiver ∙ sym y.receiver in
    let vlans : a.vlans.items ≡ b.vlans.items = x.vlans ∙ sym y.vlans in
    let carries : a.carried ≡ b.carried = sym (carries_one (link_of number) frame a.carried x.carried) ∙ carries_one (link_of number) frame b.carried y.carried in
    λ i. record { sender = sender i; receiver = receiver i; vlans = record { items = vlans i }; carried = carries i }
