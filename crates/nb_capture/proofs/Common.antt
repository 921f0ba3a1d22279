-- The names that many proofs cite, passed on.
pub use Rattle.std.proofs.Common.{Bool, Err, List, None, Ok, Option, Result, Some, [], ap, append_assoc, arith, drop, false, get_or, inl, inr, length, not, refl, string_bytes, subst, suc, sym, take, true, zero, ℕ, ◌%◌, ◌++◌, ◌+◌, ◌-◌, ◌<◌, ◌==◌, ◌^◌, ◌∙◌, ◌∷◌, ◌≡◌, ◌≢◌, ◌≤◌, ◌⊎◌}
pub use Rattle.std.specs.Io.KnownBytes.{Appends, Consumes, IsAtEnd}
pub use Rattle.std.proofs.lemmas.List.{append-nil, drop-drop, drop_all, length-append, length-drop, length-take-le, take-append-drop, take-take, take_all, take_at, take_rest}
pub use Rattle.nb_streams.specs.Counted.{CountedOf, Counts}
pub use Rattle.nb_streams.specs.Devices.{GrowTo, ShowsUnread, ShowsWriteFault}
pub use Rattle.nb_streams.specs.DeviceFacts.{Appends-kept, Appends-more, Appends-nil, Consumes-kept, Consumes-more, Consumes-nil, cut_from, fails_from, grows_on}
pub use Rattle.nb_capture.specs.LineTaking.{EndsEarly, StopsAt, TakesEach, TakesLine, TakesLines}
pub use Rattle.nb_capture.specs.Code.LineTurns.{LineFails, line_fault_of}
pub use Rattle.nb_capture.specs.LineReading.{Answers, IsOpen, IsTooLong, LastRead, ManyCalls, ReadsLine, Repeats, RoomValue, no_call, nothing_within}
pub use Rattle.nb_capture.specs.Shared.LinesSoFar.{HandedOut, bytes_less, came, cut_both, handed_all, handed_more, kept_are, long_first, none_over, nothing_handed, of_result, shows_unread, was_reading}
pub use Rattle.std.specs.Prelude.{Contains, IfSome, IsTrue, MatchOption, codes, slice_get}
pub use Rattle.std.specs.List.{IsAnyAnswer, flat_map, list_all}
pub use Rattle.std.specs.Char.{digit_value, is_ascii_digit, is_ascii_hexdigit}
pub use Rattle.std.specs.Str.Parse.{AllDigits, ParsesUnsigned, digits_value}
pub use Rattle.std.proofs.lemmas.Bool.{and_parts, cases_Bool, cases_eq, cases_lt, false≢true}
pub use Rattle.std.proofs.lemmas.List.Elements.{Contains-append_cases, Contains-append_left, Contains-append_right, Decides-contains, contains_decides}
pub use Rattle.std.proofs.lemmas.Slice.Eq.{bytes_eq-Decides, strip_prefix_is}
pub use Rattle.nb_capture.specs.declared.line.Line.TheVariants.{Packet, Tick}
pub use Rattle.nb_capture.specs.declared.limits.TheConstants.{MAX_LINE, MAX_MOMENT_DIGITS}
pub use Rattle.nb_capture.specs.Capture.{Blank, HasValue, HasWords, IsMalformed, MomentText, NeedsMemory, PortText, Reads, ReadsBy, SaysNothing, byte_text, comment, datagrams, for_payload, names, packet, sessions, tick}
pub use Rattle.nb_streams.specs.Hexadecimal.{DataText, HexText, ReadsData, digits, empty}
pub use Rattle.std.proofs.lemmas.Bool.Decides.{Decides-eqb, nat_tests}
pub use Rattle.nb_capture.specs.Code.LineSteps.{HandsFirst, IsFeedAt, IsRoom, Suits, line_of_size, standing_so}
pub use Rattle.std.proofs.lemmas.Result.{IfErr-weaker, err_from_is_err_and, on_ok_weaker}
pub use Rattle.nb_streams.specs.Room.{ReadsMore, handed_out, let_go_of, with_bytes}
