-- Equality tells equal fragments and datagrams apart from others, for the laws of traits.
use Rattle.std.proofs.Common.{◌≡◌, refl}
use Rattle.std.specs.Bool.{Decides}
use Rattle.std.specs.Cmp.{unsigned_Decides}
use Rattle.nb_streams.specs.DecidedFacts.{bytes_decide, decided_both, decided_by_view}
use Rattle.nb_names.specs.NameFacts.{name_eq_decides}
use Rattle.nb_datagram.specs.declared.key.Key.{Key}
use Rattle.nb_datagram.specs.declared.key.Kind.{Kind}
use Rattle.nb_datagram.specs.Fragment.{DatagramParts, FragmentParts}
use Rattle.nb_datagram.specs.Equality.{key_eq, fragment_eq, datagram_eq}
use Rattle.nb_datagram.specs.Packet.{type_of, same_kind, kind_of, kind_back}

pub same_kind_decides : (a b : Kind) → Decides (same_kind a b) (a ≡ b)
same_kind_decides = decided_by_view type_of kind_of kind_back unsigned_Decides

pub key_eq_decides : (a b : Key) → Decides (key_eq a b) (a ≡ b)
key_eq_decides =
    decided_by_view (λ (k : Key). (k.ip, (k.port, k.id))) (λ p. record { ip = p.0; port = p.1.0; id = p.1.1 }) (λ _. refl)
    (decided_both bytes_decide (decided_both unsigned_Decides unsigned_Decides))

pub fragment_eq_decides : (a b : FragmentParts) → Decides (fragment_eq a b) (a ≡ b)
fragment_eq_decides =
    decided_by_view (λ (f : FragmentParts). (f.kind, (f.flags, (f.key, (f.offset, (f.source, (f.destination, f.bytes)))))))
    (λ p. record {
      kind = p.0;
      flags = p.1.0;
      key = p.1.1.0;
      offset = p.1.1.1.0;
      source = p.1.1.1.1.0;
      destination = p.1.1.1.1.1.0;
      bytes = p.1.1.1.1.1.1;
    }) (λ _. refl)
    (decided_both same_kind_decides (decided_both unsigned_Decides (decided_both key_eq_decides (decided_both unsigned_Decides
    (decided_both name_eq_decides (decided_both name_eq_decides bytes_decide))))))

pub datagram_eq_decides : (a b : DatagramParts) → Decides (datagram_eq a b) (a ≡ b)
datagram_eq_decides =
    decided_by_view (λ (d : DatagramParts). (d.key, (d.kind, (d.source, (d.destination, d.bytes)))))
    (λ p. record { key = p.0; kind = p.1.0; source = p.1.1.0; destination = p.1.1.1.0; bytes = p.1.1.1.1 }) (λ _. refl)
    (decided_both key_eq_decides (decided_both same_kind_decides (decided_both name_eq_decides (decided_both name_eq_decides bytes_decide))))
