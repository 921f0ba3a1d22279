-- Types of what follows a link layer, and tags of VLANs before it (IEEE 802.1Q, 802.1ad). A tag is a type of its own, two bytes with
-- the VLAN's identifier in the lowest twelve bits, and the type of what follows.
use Rattle.std.specs.Prelude.{ℕ, zero, suc, ◌+◌, ◌%◌, ◌==◌, ◌||◌, ◌&&◌, nat_lt, nat_le, Bool, List, [], ◌∷◌, length, Result, Ok, Err, if◌then◌else◌}
use Rattle.nb_frames.specs.declared.reason.Reason.{Reason}
use Rattle.nb_frames.specs.declared.reason.Reason.TheVariants.{NoIp, PppOverEthernet, Mpls, Llc, TooManyTags, Cut}
use Rattle.nb_frames.specs.Fields.{word_at}

-- whether a type is that of a tag: 802.1Q, 802.1ad, or the one that was used before 802.1ad
abbrev pub is_tag : ℕ → Bool
is_tag kind = kind == 0x8100 || kind == 0x88a8 || kind == 0x9100

-- whether a type is that of IP: IPv4, IPv6
abbrev pub is_ip : ℕ → Bool
is_ip kind = kind == 0x0800 || kind == 0x86dd

-- whether LLC begins at this place, and says that IP or a tag follows: by its own service points, or by those of SNAP and a type
-- (RFC 1042)
abbrev pub is_llc_with_ip : List ℕ → ℕ → Bool
is_llc_with_ip frame at =
    nat_le (at + 8) (length frame)
    && (word_at frame at == 0x0606 || (word_at frame at == 0xaaaa && (is_ip (word_at frame (at + 6)) || is_tag (word_at frame (at + 6)))))

-- follows frame kind next: what follows a type, which is no tag's, at `next`: IP, or this reason why none is read. Below 0600 a type
-- is a length, and LLC follows
abbrev pub follows : List ℕ → ℕ → ℕ → Result ℕ Reason
follows frame kind next =
    (if is_ip kind then Ok next
    else (if kind == 0x8864 then Err PppOverEthernet
    else (if kind == 0x8847 || kind == 0x8848 then Err Mpls
    else (if nat_lt kind 0x0600 && is_llc_with_ip frame next then Err Llc
    else Err NoIp))))

-- network_at most frame at next: what follows after at most so many tags, where a type stands at `at`, and what it is of begins at `next`
unfoldable pub network_at : ℕ → List ℕ → ℕ → ℕ → Result ℕ Reason
network_at zero frame at next =
    (if nat_lt (length frame) next then Err Cut
    else (if is_tag (word_at frame at) then Err TooManyTags
    else follows frame (word_at frame at) next))
network_at (suc most) frame at next =
    (if nat_lt (length frame) next then Err Cut
    else (if is_tag (word_at frame at) then network_at most frame (next + 2) (next + 4)
    else follows frame (word_at frame at) next))

-- vlans_at most frame at next: the identifiers in these tags, the outermost first
unfoldable pub vlans_at : ℕ → List ℕ → ℕ → ℕ → List ℕ
vlans_at zero frame at next = []
vlans_at (suc most) frame at next =
    (if nat_le (next + 2) (length frame) && is_tag (word_at frame at)
    then word_at frame next % 0x1000 ∷ vlans_at most frame (next + 2) (next + 4)
    else [])
