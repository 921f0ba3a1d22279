-- The names that many proofs cite, passed on.
pub use Rattle.std.proofs.Common.{Bool, List, Option, Some, [], ap, append_assoc, arith, cond, drop, false, get_or, inl, inr, length, length-append, length-drop, map, min, nat_lt, refl, rules, slice_get, subst, suc, sym, take, true, zero, ℕ, ◌*◌, ◌++◌, ◌+◌, ◌-◌, ◌/◌, ◌<◌, ◌==◌, ◌^◌, ◌∙◌, ◌∷◌, ◌≡◌, ◌≤◌, ◌⊎◌}
pub use Rattle.std.proofs.lemmas.List.{append-nil, get_or-drop, get_or-take, length-map, length-take, length-take-le, take-append-drop, take_all, take_at, take_rest}
pub use Rattle.std.specs.Int.{from_be_bytes, to_be_bytes, w16}
pub use Rattle.nb_names.proofs.LabelsLemmas.{one_reading, spelled_there, spelling_read, stands_before, stands_behind, stands_joined, stands_one}
pub use Rattle.nb_names.specs.Labels.{NameAt}
pub use Rattle.nb_names.specs.Name.{IsName, NetbiosName, labels_of_name}
pub use Rattle.nb_names.specs.declared.reading.Pointers.TheVariants.{Refused}
pub use Rattle.nb_streams.specs.PacketFacts.{All-take, number_there, one_number_16, range_stands, stands_fits, stands_in_all, stands_same}
pub use Rattle.nb_streams.specs.Places.{AreBytes, NumberAt, StandsAt}
pub use Rattle.nb_datagram.specs.DatagramFaults.{DirectFails, HasType, NamesFail, PacketFails, direct_fails, in_destination, in_names, in_source, no_code, no_data, no_fields, no_header, no_type, query_fails}
pub use Rattle.nb_datagram.specs.Fragment.{Core, Covers, DatagramParts, FragmentParts, core_of, cores_of, has_more, named_length, reach}
pub use Rattle.nb_datagram.specs.Header.{IsDirectType, IsKey, IsQueryType, IsUnknownType, error_type, header_bytes, query_type}
pub use Rattle.nb_datagram.specs.Packet.{Fits, FitsDirect, IsPacket, Packet, direct_bytes, kind_back, kind_of, name_bytes, packet_bytes, type_of}
