-- The names that definitions and contracts cite of the crates below, passed on.
pub use Rattle.nb_calls.specs.declared.cutting.Sent.{Sent}
pub use Rattle.nb_calls.specs.declared.output.Refusal.{Refusal}
pub use Rattle.nb_calls.specs.declared.output.Refusal.TheVariants.{Fault, FaultAt, Memory}
pub use Rattle.nb_calls.specs.declared.service.Answered.{Answered}
pub use Rattle.nb_calls.specs.declared.service.Asked.{Asked}
pub use Rattle.nb_calls.specs.declared.service_reading.NbtServiceItem.{NbtServiceItem}
pub use Rattle.nb_calls.specs.declared.showing.TheConstants.{BLANK, PACKET, TICK}
pub use Rattle.nb_calls.specs.declared.statuses.TheConstants.{BAD_LENGTH, BAD_LINE, BAD_TEXT, DESTINATION, DESTINATION_TEXT, DONE, FULL, FULL_SOURCE, LONG, LONG_DATA, LONG_TEXT, MISPLACED_FIRST, MORE, NAME_BAD_POINTER, NAME_LONG, NAME_NOT_NETBIOS, NAME_POINTER, NAME_PRESENT, NAME_RDATA, NAME_RESERVED_LABEL, NAME_TRAILING_BYTES, NAME_TRUNCATED, NO_ITEM, NO_MEMORY, NO_PART, NO_ROLE, NO_ROOM, NO_STATION, OTHER_RDATA, OTHER_TYPE, RESERVED_FLAGS, SECOND, SOURCE, SOURCE_TEXT, TABLE_BAD_MAGIC, TABLE_FULL, TABLE_FULL_SOURCE, TABLE_LONG, TABLE_NOT_CANONICAL, TABLE_TRUNCATED, TOO_MANY_NAMES, TRAILING_BYTES, TRUNCATED, UNKNOWN_REQUEST, UNKNOWN_STATUS, UNKNOWN_TYPE, ZERO_PIECE}
pub use Rattle.nb_calls.specs.declared.taken.TheConstants.{DELIVERED, KEPT, OTHER, REFUSED, SPOILT, TAKE_ROOM, UNHEARD}
pub use Rattle.nb_capture.specs.declared.fault.LineFault.{LineFault}
pub use Rattle.nb_capture.specs.declared.line.Line.TheVariants.{Tick}
pub use Rattle.nb_datagram.specs.Fragment.{DatagramParts, FragmentParts}
pub use Rattle.nb_datagram.specs.Fronts.{HasFront, LacksHeader}
pub use Rattle.nb_datagram.specs.Header.{IsKey, error_type, query_type}
pub use Rattle.nb_datagram.specs.Packet.{IsPacket, Packet, QueryPacket, name_bytes, packet_bytes, type_of}
pub use Rattle.nb_datagram.specs.Pieces.{piece, pieces}
pub use Rattle.nb_datagram.specs.declared.fault.DatagramFault.{DatagramFault}
pub use Rattle.nb_datagram.specs.declared.front.FragmentFront.{FragmentFront}
pub use Rattle.nb_datagram.specs.declared.front.Front.{Front}
pub use Rattle.nb_datagram.specs.declared.key.Key.{Key}
pub use Rattle.nb_datagram.specs.declared.key.Kind.TheVariants.{Broadcast, Group, Unique}
pub use Rattle.nb_datagram.specs.declared.limits.TheConstants.{DIRECT_HEADER_LENGTH, HEADER_LENGTH, MAX_LENGTH}
pub use Rattle.nb_datagram.specs.declared.packet.ErrorPacket.{ErrorPacket}
pub use Rattle.nb_datagram.specs.declared.packet.Packet.TheVariants.{Direct, Error, Query}
pub use Rattle.nb_entries.specs.declared.saved.LoadFault.{LoadFault}
pub use Rattle.nb_member.specs.Listing.{listing}
pub use Rattle.nb_member.specs.Member.{MemberValue, after_clock, contents, new_member, with_timed}
pub use Rattle.nb_member.specs.Taking.{Absorbs, Previews, Takes}
pub use Rattle.nb_names.specs.DomainName.{spelling}
pub use Rattle.nb_names.specs.Labels.{NameAt}
pub use Rattle.nb_names.specs.Name.{IsName, NetbiosName, labels_of_name}
pub use Rattle.nb_names.specs.NameText.{IsBad, IsFaultOf, IsText, are_letters, name_of_labels, written}
pub use Rattle.nb_names.specs.Skipped.{IsSkipped}
pub use Rattle.nb_names.specs.declared.fault.NameFault.{NameFault}
pub use Rattle.nb_names.specs.declared.fault.TextFault.{TextFault}
pub use Rattle.nb_names.specs.declared.limits.TheConstants.{MAX_SPELLING}
pub use Rattle.nb_names.specs.declared.reading.Pointers.TheVariants.{Followed, Refused}
pub use Rattle.nb_service.specs.Header.{HasHeader, PacketHeader, header_value}
pub use Rattle.nb_service.specs.Packet.{HasOutline, ServicePacket}
pub use Rattle.nb_service.specs.Record.{ResourceData, ResourceRecord, of_bytes, of_domain, record_of}
pub use Rattle.nb_service.specs.Requests.{one_answer, query_packet, refresh_packet, registration_packet, release_packet, status_packet}
pub use Rattle.nb_service.specs.ServiceFaults.{DomainFails, PacketFails, item_count}
pub use Rattle.nb_service.specs.Views.{AreEntries, IsStatus, entries_of_data, entry_bytes, status_of_data}
pub use Rattle.nb_service.specs.declared.fault.ServiceFault.{ServiceFault}
pub use Rattle.nb_service.specs.declared.kinds.TheConstants.{NS}
pub use Rattle.nb_service.specs.declared.limits.TheConstants.{MAX_RDATA}
pub use Rattle.nb_service.specs.declared.packet.Section.TheVariants.{Additional, Answer, Authority}
pub use Rattle.nb_service.specs.declared.views.AddressEntry.{AddressEntry}
pub use Rattle.nb_session.specs.declared.limits.TheConstants.{MAX_MESSAGE}
pub use Rattle.nb_table.specs.Contents.{Contents}
pub use Rattle.nb_table.specs.Limits.{KeepsLimits, Limits, TableValue}
pub use Rattle.nb_table.specs.Merging.{Fits, IsRefused}
pub use Rattle.nb_table.specs.Saved.{IsReadAs, LoadFails, key_bytes, saved}
pub use Rattle.nb_table.specs.declared.fault.TableFault.{TableFault}
pub use Rattle.nb_text.specs.SaysPacket.{IsSaid}
pub use Rattle.nb_text.specs.Shown.{Shown}
pub use Rattle.std.specs.Int.{from_be_bytes, to_be_bytes, w16, w32}
pub use Rattle.std.specs.List.{find, flat_map, join_with_byte, slice_get, slice_split}
