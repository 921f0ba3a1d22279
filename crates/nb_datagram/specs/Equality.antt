-- When fragments and datagrams are equal (our choice): where all of their parts are. Bytes are compared one by
-- one.
use Rattle.std.specs.Prelude.{◌==◌, ◌&&◌, Bool}
use Rattle.std.specs.Cmp.Lexicographic.{pointwise}
use Rattle.nb_names.specs.Name.{name_eq}
use Rattle.nb_datagram.specs.declared.key.Key.{Key}
use Rattle.nb_datagram.specs.Fragment.{DatagramParts, FragmentParts}
use Rattle.nb_datagram.specs.Packet.{same_kind}

-- whether two keys are equal
abbrev pub key_eq : Key → Key → Bool
key_eq a b = pointwise ◌==◌ a.ip b.ip && (a.port == b.port && a.id == b.id)

-- whether two fragments are equal
abbrev pub fragment_eq : FragmentParts → FragmentParts → Bool
fragment_eq a b =
    same_kind a.kind b.kind
    && (a.flags == b.flags
    && (key_eq a.key b.key
    && (a.offset == b.offset
    && (name_eq a.source b.source && (name_eq a.destination b.destination && pointwise ◌==◌ a.bytes b.bytes)))))

-- whether two datagrams are equal
abbrev pub datagram_eq : DatagramParts → DatagramParts → Bool
datagram_eq a b =
    key_eq a.key b.key
    && (same_kind a.kind b.kind
    && (name_eq a.source b.source && (name_eq a.destination b.destination && pointwise ◌==◌ a.bytes b.bytes)))
