-- The names that many proofs cite, passed on.
pub use Rattle.std.proofs.Common.{Bool, Bor, Err, List, None, Ok, Option, Result, Some, [], ap, append_assoc, ap₂, arith, eqb, get_or, inl, inr, length, length-append, map, refl, rules, string_bytes, subst, suc, sym, take, true, zero, ℕ, ◌*◌, ◌++◌, ◌+◌, ◌<◌, ◌^◌, ◌∙◌, ◌∷◌, ◌≡◌, ◌≢◌, ◌≤◌, ◌⊎◌}
pub use Rattle.nb_building.specs.Built.{AddressText, CodeText, EntryTexts, HasRdata, IsServiceBuilt, IsSessionBuilt, KeyText, Names, NamesDatagrams, NamesService, NamesSession, NumberText, WordText, domain, error, fragments, keepalive, message, negative, of_datagrams, of_service, of_session, plain, positive, queries, query, refresh, registration, release, request, response, response_packet, retarget, status, with_flag}
pub use Rattle.nb_building.specs.Refusals.{Explains, GiveTooMuch, IsRefused, IsTextRefused, IsUnanswered, NamesNone, SplitsAt, Unnamed, datagram, message as much_message, miscounted, no_memory, no_packet, piece, rdata, too_long, wrong_text, wrong_word, zero_piece}
pub use Rattle.std.specs.Result.{IfErr, IsErrAnd, MatchResult}
pub use Rattle.nb_streams.specs.Hexadecimal.{DataText, HexText, byte_of, digits, empty, no_byte, one_more}
pub use Rattle.std.proofs.lemmas.List.{append-nil, get_or-map, get_or-take, length-map, length-take, map-append, map-id, take_more}
pub use Rattle.std.specs.Prelude.{IfOk, codes, if◌then◌else◌, slice_range, ◌==◌}
pub use Rattle.std.proofs.lemmas.Bool.{and_parts, cases_lt, eq-eqb, eqb-true, false≢true}
pub use Rattle.nb_names.specs.Name.{NetbiosName, labels_of_name}
pub use Rattle.nb_names.specs.NameText.{IsText}
pub use Rattle.std.specs.List.{AllByRecursion, after_first, before_first, list_all, position_or_len, range_with_len}
pub use Rattle.nb_service.specs.Packet.{ServicePacket}
pub use Rattle.nb_service.specs.Record.{ResourceData, ResourceRecord, of_bytes, of_domain, record_of}
pub use Rattle.std.specs.Int.{IsInRange, from_be_bytes, to_be_bytes, w16}
pub use Rattle.nb_datagram.specs.declared.packet.Packet.TheVariants.{Direct}
pub use Rattle.nb_datagram.specs.Packet.{packet_bytes}
pub use Rattle.nb_datagram.specs.declared.key.Kind.{Kind}
pub use Rattle.nb_datagram.specs.declared.key.Kind.TheVariants.{Broadcast, Group, Unique}
pub use Rattle.nb_datagram.specs.declared.packet.QueryKind.{QueryKind}
pub use Rattle.nb_datagram.specs.FaultTexts.{kind_text}
pub use Rattle.nb_text.specs.Words.{query_word}
pub use Rattle.nb_building.specs.declared.build_fault.BuildFault.{BuildFault}
pub use Rattle.nb_building.specs.Words.{AreTaken, IsDatagramWord, IsFirstWrong, IsServiceWord, IsSessionWord, forms, kinds_in, kinds_of}
pub use Rattle.nb_names.specs.declared.reading.Pointers.TheVariants.{Refused}
pub use Rattle.nb_names.specs.Labels.{NameAt}
pub use Rattle.nb_service.specs.declared.kinds.TheConstants.{NS}
pub use Rattle.nb_building.specs.declared.build_fault.BuildFault.TheVariants.{Count, Memory, Text, TooLong, What, Word, ZeroPiece}
pub use Rattle.nb_datagram.specs.declared.key.Key.{Key}
pub use Rattle.nb_datagram.specs.Pieces.{AreTooLong, piece_count}
pub use Rattle.std.proofs.lemmas.Fmt.{decimal-digits_value, decimal_digit, decimal_injective, digits_decimal, first_decimal, parse-decimal}
pub use Rattle.std.specs.Fmt.{decimal}
pub use Rattle.std.specs.Str.Parse.{AllDigits, ParsesUnsigned, digits_value}
pub use Rattle.std.proofs.lemmas.Str.Parse.{IsNumeralModel, digit_from_value, numerals_by_value, parse_digits, tells_digits}
pub use Rattle.nb_streams.specs.HexadecimalFacts.{length-HexText}
pub use Rattle.nb_session.specs.Packet.{IsPacket}
pub use Rattle.nb_service.specs.declared.classes.TheConstants.{IN}
pub use Rattle.nb_building.specs.Building.{AreLinesOf, payload_line, payload_lines}
