-- The names that many proofs cite, passed on.
pub use Rattle.std.proofs.Common.{◌⊎◌, Bool, Bor, Err, IfErr, IsTrue, List, None, Ok, Option, Result, Some, [], ap, append_assoc, ap₂, arith, codes, cond, drop, false, get_or, inl, inr, is_some, length, map, not, refl, rules, slice_index_or, string_bytes, subst, suc, sym, take, true, true≢false, ℕ, ◌&&◌, ◌++◌, ◌+◌, ◌<◌, ◌||◌, ◌↔◌, ◌∙◌, ◌∷◌, ◌≡◌, ◌≢◌, ◌≤◌}
pub use Rattle.std.proofs.lemmas.Result.{IfErr-at_err, IfErr-weaker, IfOk-weaker, err_from_is_err_and, on_ok_weaker}
pub use Rattle.std.specs.Prelude.{T, slice_get, ◌==◌}
pub use Rattle.std.specs.List.{AllZip, list_any}
pub use Rattle.nb_streams.specs.DeviceFacts.{Keeps-same}
pub use Rattle.std.specs.Io.KnownBytes.{Appends, Consumes, IsAtEnd}
pub use Rattle.nb_capture.specs.declared.line.Line.TheVariants.{Packet as PacketLine, Tick}
pub use Rattle.nb_streams.specs.Devices.{AppendsFront, ShowsUnread, ShowsWriteFault}
pub use Rattle.clap.specs.declared.parser.matches.ArgMatches.{ArgMatches}
pub use Rattle.std.specs.Option.{option_eq}
pub use Rattle.nb_streams.specs.Counted.{Counts}
pub use Rattle.std.proofs.lemmas.List.{append-nil, drop_more, length-append, map-append, take-append-drop, take_more}
pub use Rattle.std.specs.Str.Parse.{ExplainsUnsignedError, HasUnsignedDigitsIfOk, ParsesUnsigned}
pub use Rattle.nb_streams.specs.Lines.{HasLines, IsLine, with_rest}
pub use Rattle.nbt_command.specs.declared.fault.Fault.{Fault}
pub use Rattle.nbt_command.specs.declared.fault.Fault.TheVariants.{Arguments, Full, FullSource, Line, Memory, NoTables, Read, TooManyNames, TwoTablesWanted, Write}
pub use Rattle.nb_datagram.specs.Key.{key_cmp, key_cmp_exact, key_cmp_total}
pub use Rattle.nb_datagram.specs.declared.key.Key.{Key}
pub use Rattle.nb_member.specs.Member.{MemberValue, Stands, new_member}
pub use Rattle.nb_table.specs.Limits.{TableValue}
pub use Rattle.nbt_reassembly.specs.declared.capacity.Capacity.{Capacity}
pub use Rattle.nbt_reassembly.specs.Tables.{AreTables, CompareFails, ComparesTables, FailsOn, IsElsewhere, IsTableFault, IsTableLine, JoinFails, MergeFails, MergesTables, PrintsJoin, TablesFail, contents_of, fault_of_join, input_fails, no_line, not_joined, not_two, one_fails}
pub use Rattle.nb_table.specs.Contents.{Contents}
pub use Rattle.nb_table.specs.Join.{AreTaken, join, joined_all}
pub use Rattle.nbt_reassembly.specs.Differences.{differ_at, differing, lines_of_keys}
pub use Rattle.nbt_reassembly.specs.Code.Marks.{Marks, marked, with_mark}
pub use Rattle.nb_member.specs.ReportFields.{MayLeave, OutcomeFields, ReportSaid, TellsOutcome, dropped, dropped_fields, passed, passed_fields, result_fields, taken}
pub use Rattle.nbt_command.specs.Options.{AreOptions, IsGiven}
pub use Rattle.nbt_command.specs.Streams.{Streams}
pub use Rattle.nbt_reassembly.specs.Capacity.{IsCapacity, IsSourceLimit, most_keys, program_settings}
pub use Rattle.nbt_reassembly.specs.Commands.{ListCommand, PrintsTables, ReplaysEvents, listed_as}
pub use Rattle.nbt_reassembly.specs.Replaying.{AddsEach, AddsName, AreTexts, Begins, IsNamesFault, IsRefusedName, IsUnbegun, more, none}
pub use Rattle.nb_member.specs.declared.outcome.MemberFault.{MemberFault}
pub use Rattle.nbt_command.specs.Printing.{PrintsText, line}
pub use Rattle.nbt_reassembly.specs.SaveFaults.{PayloadStops, SaidStops, StopsSaving, UnsavedLine, output_fails}
pub use Rattle.nbt_reassembly.specs.Saving.{SavesCapture, SavesLine, TakesInput, new_saver, saved_digits, saved_line}
pub use Rattle.nbt_command.specs.Shared.PrintedLemmas.{cut_in_front, prints_as, prints_front, prints_kept, prints_rest, prints_text, prints_uncut}
pub use Rattle.nb_table.specs.Shared.TreeLemmas.{entries_are, insert_is}
