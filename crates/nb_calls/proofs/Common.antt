-- The names that many proofs cite, passed on.
pub use Rattle.std.proofs.Common.{All, Bool, Bor, Contains, Err, IfErr, IfOk, IsTrue, List, None, Ok, Option, Result, Some, [], ap, append_assoc, arith, cond, drop, eq-eqb, eqb-true, false, get_or, if◌then◌else◌, inl, inr, is_some, length, length-append, map, min, nat_eq, nat_le, nat_lt, option_map, refl, rules, set, slice_index_or, subst, sym, take, tests, true, true≢false, ℕ, ◌%◌, ◌&&◌, ◌*◌, ◌++◌, ◌+◌, ◌-◌, ◌/◌, ◌<◌, ◌==◌, ◌||◌, ◌↔◌, ◌∙◌, ◌∷◌, ◌≡◌, ◌≢◌, ◌≤◌, ◌⊎◌}
pub use Rattle.std.specs.Prelude.{MatchOption}
pub use Rattle.nb_calls.specs.Common.{Contents, DONE, DatagramParts, DomainFails, Fault, FaultAt, Fits, Followed, FragmentParts, HasHeader, HasOutline, IsBad, IsFaultOf, IsKey, IsName, IsPacket, IsReadAs, IsRefused, IsText, Key, Limits, LoadFails, LoadFault, MORE, MemberValue, Memory, NAME_TRAILING_BYTES, NO_ROLE, NS, NameAt, NameFault, NetbiosName, Packet, PacketFails, PacketHeader, QueryPacket, Refusal, Refused, ResourceData, ResourceRecord, SECOND, ServiceFault, ServicePacket, TRUNCATED, TableValue, TextFault, are_letters, error_type, find, flat_map, header_value, item_count, join_with_byte, labels_of_name, name_bytes, of_bytes, of_domain, query_type, record_of, saved, slice_split, spelling, type_of}
pub use Rattle.std.specs.List.{list_all, list_any, onto_first, slice_range}
pub use Rattle.nb_streams.specs.Places.{StandsAt}
pub use Rattle.std.proofs.lemmas.Bool.{and_parts, cases_Bool, cases_eq, cases_lt, not-false}
pub use Rattle.nb_table.specs.Saved.{IsRead, full, full_source, ill_formed, no_memory, too_long}
pub use Rattle.nb_names.specs.NameText.{IsFormed, IsFront, Item, Items, ScopeText, escaped, is_letter, more_items, more_labels, no_item, no_label, plain}
pub use Rattle.nb_streams.specs.Hexadecimal.{IsHexDigit}
pub use Rattle.nb_streams.specs.declared.bytes.NoMemory.{NoMemory}
pub use Rattle.std.specs.Prelude.{SomeIff, not, ⊤}
pub use Rattle.nb_service.proofs.ItemLemmas.{domain_no_fault, one_domain_fault, read_is, read_is_ok, seen_extent, seen_fields, seen_name}
pub use Rattle.nb_table.specs.Limits.{FewOfEach}
pub use Rattle.std.proofs.lemmas.List.{append-nil, drop-drop, drop-set-lt, drop-take, length-drop, length-set, length-take, length-take-le, take-append-drop, take-take, take_more_set}
pub use Rattle.nb_table.specs.Merging.{AllShort}
pub use Rattle.nb_datagram.specs.Fragment.{named_length}
pub use Rattle.nb_service.specs.Packet.{domain_there}
pub use Rattle.nb_service.specs.ServiceFaults.{domain_end, domain_name}
pub use Rattle.std.proofs.lemmas.Bool.Decides.{nat_tests}
pub use Rattle.nb_calls.specs.Outputs.{Answers, Ends, Filled, FilledIn, Fills, HasOne, HasOneElse, Lent, OrMemory, Writes, at_refused, of_memory, refused_status}
pub use Rattle.nb_calls.specs.Tables.{AreSameAt, Differs, IsLeastDifference, IsLoaded, IsUnread, Joins, Narrows, NarrowsBy, OfOne, OfTwo, at_none, at_one, both, difference_of, differs, first_fails, lower_of, not_read, read, same, second_fails, widest}
pub use Rattle.nb_calls.specs.Absorbing.{Hears, Joined, all_heard, done, heard_bytes, hears, lacks, no_room, refused, takes_not}
pub use Rattle.nb_calls.specs.Stations.{AreNames, BeginsWithName, Names, NamesText, OnStation, all, answered, bad, bad_name, is_space, made, more, present, table_refusal, texts_in, too_many}
pub use Rattle.nb_calls.specs.Names.{IsSpelling, in_place, spelling_answer, text_answer}
pub use Rattle.nb_calls.specs.Responses.{IsDomain, IsRdata, Responds, domain, domain_data, named, no_name_text, request_answer, requested, response_answer}
pub use Rattle.nb_calls.specs.Services.{ReadsItem, ReadsPacket, cut_header, fails, header_numbers, headless, item_numbers, netbios_number, numbers, section_number, stands, uncounted}
pub use Rattle.nb_calls.specs.Statuses.{load_refusal, name_refusal, service_refusal, status_word, text_refusal}
pub use Rattle.nb_calls.specs.Cutting.{are_long, counted, cut_names, error_packet, packet_of, query_answer}
pub use Rattle.nb_calls.specs.ServiceParts.{FilledFront, ReadsDomain, ReadsEntries, ReadsEntry, ReadsServer, Run, begins, goes_on, room_of}
pub use Rattle.nb_calls.specs.Sessions.{Stands, WritesPacket, answer_by, frame, judged, names_answer, retarget_answer, session_answer, unknown_type, unless_faulty}
pub use Rattle.nb_names.proofs.LabelsLemmas.{next_within, one_reading, spelled_there, stands_at_seam}
pub use Rattle.nb_calls.specs.Datagrams.{error_places, fragment_places, front_places, places_after, query_places}
pub use Rattle.nb_datagram.specs.Header.{header_bytes}
pub use Rattle.nb_entries.specs.Entry.{EntryValue}
pub use Rattle.nb_names.specs.declared.fault.TextFault.TheVariants.{BadText, TooLong}
pub use Rattle.nb_session.specs.Parsing.{Parsed, Parses}
pub use Rattle.nb_text.specs.Tells.{IsObject, Tells}
pub use Rattle.std.proofs.Math.Seq.{take-append_seam}
