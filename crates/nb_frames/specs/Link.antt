-- What stands before a packet of IP, by the link type (a LINKTYPE of tcpdump.org). All places count from the frame's first byte.
--   Ethernet: receiver 6, sender 6, type 2
--   Linux cooked: kind 2, kind of address 2, its length 2, the sender's address 8, type 2
--   Linux cooked, version 2: type 2, reserved 2, interface 4, kind of address 2, kind 1, length 1, the sender's address 8
--   raw IP: nothing
--   loopback: the family of addresses 4, in either byte order
use Rattle.std.specs.Prelude.{ℕ, ◌+◌, ◌==◌, ◌||◌, nat_le, nat_lt, Bool, List, [], length, Option, Some, None, Result, Ok, Err, if◌then◌else◌}
use Rattle.std.specs.Int.{w32, from_le_bytes}
use Rattle.nb_frames.specs.declared.limits.TheConstants.{MAX_TAGS}
use Rattle.nb_frames.specs.declared.link.Link.{Link}
use Rattle.nb_frames.specs.declared.link.Link.TheVariants.{Ethernet, Cooked, CookedV2, Raw, Loopback, Unknown}
use Rattle.nb_frames.specs.declared.contents.Mac.{Mac}
use Rattle.nb_frames.specs.declared.reason.Reason.{Reason}
use Rattle.nb_frames.specs.declared.reason.Reason.TheVariants.{NoIp, UnknownLink, Cut}
use Rattle.nb_frames.specs.Fields.{byte_at, word_at, long_at, bytes_at}
use Rattle.nb_frames.specs.Tags.{network_at, vlans_at}

-- the link layer of a link type
abbrev pub link_of : ℕ → Link
link_of number =
    (if number == 1 then Ethernet
    else (if number == 113 then Cooked
    else (if number == 276 then CookedV2
    else (if number == 12 || number == 14 || number == 101 || number == 228 || number == 229 then Raw
    else (if number == 0 || number == 108 then Loopback
    else Unknown)))))

-- whether a number is a family of addresses that IP has: 2 for IPv4, and for IPv6 those of Linux, NetBSD, FreeBSD and Darwin
abbrev pub is_family : ℕ → Bool
is_family number = number == 2 || number == 10 || number == 24 || number == 28 || number == 30

-- where a packet of IP begins after such a family in four bytes, in either byte order
abbrev pub after_family : List ℕ → Result ℕ Reason
after_family frame =
    (if nat_lt (length frame) 4 then Err Cut
    else (if is_family (long_at frame 0) || is_family (from_le_bytes w32 (bytes_at 4 frame 0)) then Ok 4
    else Err NoIp))

-- where a packet of IP begins in the frame, or why none is read
abbrev pub network_of : Link → List ℕ → Result ℕ Reason
network_of Ethernet frame = network_at MAX_TAGS frame 12 14
network_of Cooked frame = network_at MAX_TAGS frame 14 16
network_of CookedV2 frame = network_at MAX_TAGS frame 0 20
network_of Raw frame = Ok 0
network_of Loopback frame = after_family frame
network_of Unknown frame = Err UnknownLink

-- the address of six bytes at a place, where they are there
abbrev pub mac_at : List ℕ → ℕ → Option Mac
mac_at frame at = (if nat_le (at + 6) (length frame) then Some (record { octets = bytes_at 6 frame at }) else None)

-- the address of who sent the frame; one of Linux cooked only where its length is 6
abbrev pub sender_of : Link → List ℕ → Option Mac
sender_of Ethernet frame = mac_at frame 6
sender_of Cooked frame = (if word_at frame 4 == 6 then mac_at frame 6 else None)
sender_of CookedV2 frame = (if byte_at frame 11 == 6 then mac_at frame 12 else None)
sender_of link frame = None

-- the address to which the frame is sent, which Ethernet alone has
abbrev pub receiver_of : Link → List ℕ → Option Mac
receiver_of Ethernet frame = mac_at frame 0
receiver_of link frame = None

-- the identifiers of the VLANs that the frame is tagged with, the outermost first, at most as many as there may be tags
abbrev pub vlans_of : Link → List ℕ → List ℕ
vlans_of Ethernet frame = vlans_at MAX_TAGS frame 12 14
vlans_of Cooked frame = vlans_at MAX_TAGS frame 14 16
vlans_of CookedV2 frame = vlans_at MAX_TAGS frame 0 20
vlans_of link frame = []
