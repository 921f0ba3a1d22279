-- The names that many proofs cite, passed on.
pub use Rattle.std.proofs.Common.{Bool, Err, List, None, Ok, Option, Result, Some, [], add-one, ap, ap₂, arith, codes, cond, drop, drop-cons, false, filter, fold, get_or, inl, inr, is_some, length, map, not, option_and_then, refl, rules, string_bytes, subst, suc, sym, take, take_all, true, zero, ℕ, ◌&&◌, ◌++◌, ◌+◌, ◌-◌, ◌<◌, ◌==◌, ◌||◌, ◌↔◌, ◌∙◌, ◌∷◌, ◌≡◌, ◌≢◌, ◌≤◌, ◌⊎◌}
pub use Rattle.std.specs.List.{AllByRecursion, flat_map, list_any}
pub use Rattle.nb_datagram.specs.declared.key.Key.{Key}
pub use Rattle.nb_datagram.specs.declared.packet.ErrorPacket.{ErrorPacket}
pub use Rattle.nb_datagram.specs.declared.packet.Packet.TheVariants.{Direct, Error, Query}
pub use Rattle.nb_datagram.specs.Fragment.{Core, DatagramParts, FragmentParts, core_of, is_first, reach}
pub use Rattle.nb_datagram.specs.Packet.{IsPacket, packet_bytes}
pub use Rattle.nb_table.specs.Contents.{Contents, IsWholeAt, datagram_at, entry_at, entry_in, newly_whole, outline_at, ranges_at, table_of}
pub use Rattle.nb_telling.specs.Telling.{Digits, Ends, Field, Grows, LineEnds, Range, Text, place_fields}
pub use Rattle.nb_telling.specs.Texts.{field_text, text_of}
pub use Rattle.nb_member.specs.declared.outcome.Outcome.{Outcome}
pub use Rattle.nb_member.specs.declared.outcome.Outcome.TheVariants.{Delivered, Kept, Other, Unheard}
pub use Rattle.nb_member.specs.declared.outcome.MemberFault.{MemberFault}
pub use Rattle.nb_member.specs.Deliveries.{deliveries, delivery_in, error_in, error_of, errors, errors_by, made, made_by}
pub use Rattle.nb_member.specs.ListingFields.{further_range, key_fields, key_objects, known_fields, listed_objects, more_fields, outline_fields, places_fields, ranges_fields}
pub use Rattle.nb_member.specs.Report.{ReportOf, ReportOfLine, dropped, error_text, numbered, parts_text, passed, result_text, taken}
pub use Rattle.nb_member.specs.ReportFields.{MayAct, MayLeave, OutcomeFields, ReportSaid, ReportsOutcome, TellsOutcome, dropped_fields, error_fields, outcome_fields, parts_fields, passed_fields, result_fields}
pub use Rattle.std.specs.Prelude.{Contains, IfSome, MatchOption, T, nat_le, unwrap_or}
pub use Rattle.std.specs.Cmp.{eq_by_cmp_equiv, unsigned_Decides}
pub use Rattle.std.proofs.lemmas.Bool.{cases_Bool, cases_lt, false≢true, le-leb, leb-true, or_left, or_right}
pub use Rattle.nb_datagram.specs.Key.{key_cmp, key_cmp_exact, key_cmp_total, same_key, same_key_decides}
pub use Rattle.nb_entries.specs.Entry.{EntryFacts, EntryValue, facts_agree, facts_of, facts_together, join_entry}
pub use Rattle.nb_entries.specs.Maps.{first_of, joined_at, joined_onto}
pub use Rattle.nb_table.specs.Limits.{IsFull, IsFullSource, Limits, TableValue, held_keys, of_source}
pub use Rattle.nb_table.specs.Shared.TableLemmas.{get-join, get-table_of, get-table_of-one, get_kept, held_is, join_one, needs_new, same_table}
pub use Rattle.nb_table.specs.Conflict.{IsSpoilt, keyed, with_key}
pub use Rattle.nb_table.specs.Join.{SameCores, join}
pub use Rattle.nb_member.specs.declared.settings.Settings.{Settings}
pub use Rattle.nb_member.specs.Events.{HasBytes, Say, Saying, Says, another, came, clock, limits_of, misplaced, refused, too_long}
pub use Rattle.nb_member.specs.Live.{HasRoom, NoneFull, Timed, cores, is_full, is_over, is_source_full, live, live_after, live_from, outlives, start_at, table_from}
pub use Rattle.nb_member.specs.Agreement.{Agree, AreGivenTheSame, DropsNone, GiveTheSame, HandOverTheSame, HandsOverOnce, HandsOverTheSenders, HasRoomFor, NoneDropped, StoppedForMemory, TookAll, heard, of_key, valid, whole_of}
pub use Rattle.nb_table.specs.declared.fault.TableFault.{TableFault}
pub use Rattle.nb_table.specs.declared.fault.TableFault.TheVariants.{MisplacedFirst, TooLong}
pub use Rattle.nb_table.specs.Insert.{IsMisplaced, NeedsNoMemory, Passes, Refuses, with_fragment}
pub use Rattle.nb_member.specs.declared.outcome.Event.{Event}
pub use Rattle.nb_member.specs.Hearing.{Hears, HearsAs, HoldsScope, hears, hears_as, holds, holds_scope, refusal, unheard}
pub use Rattle.std.proofs.lemmas.List.Elements.{Contains-append_cases, Contains-append_right, filter-append}
pub use Rattle.nb_names.specs.Name.{NetbiosName, name_eq}
pub use Rattle.std.proofs.lemmas.Result.{IfErr-weaker, err_from_is_err_and, on_ok_weaker}
pub use Rattle.nb_telling.proofs.FoldLemmas.{appended}
pub use Rattle.nb_member.specs.Member.{MemberValue, Moments, Stands, StandsOver, TimedValue, after_clock, after_fragment, begun, contents, lasts, new_member, with_timed}
pub use Rattle.nb_member.specs.Taking.{Answers, AnswersFragment, Does, IsTaken, TakesFragment, outcome_of, start_after}
pub use Rattle.std.specs.Option.{option_to_list}
pub use Rattle.nb_entries.specs.declared.slot.Slot.TheVariants.{Held}
pub use Rattle.nb_entries.specs.Shared.MapsLemmas.{T_left, T_right, at-none, get-joined, lt_not_eq, none_from, one_key}
pub use Rattle.nb_member.specs.Code.Members.{BeginsFull, HaveOneSetOfKeys, IsFullAs, KeepsSetup, MeetsFull, StandOnce, begun_each, limit_of}
pub use Rattle.nb_member.specs.declared.pair.Pair.{Pair}
pub use Rattle.std.proofs.lemmas.List.{drop_all, length-drop, take-append-drop}
pub use Rattle.nb_member.specs.declared.event_taking.RunReport.{RunReport}
pub use Rattle.nb_member.specs.declared.event_taking.RunStop.{RunStop}
pub use Rattle.nb_member.specs.EventTaking.{IsLeft, IsPayload, MeetsLimit, StopsAt, StopsBefore, TakesEvents, refused_count}
pub use Rattle.nb_capture.specs.declared.comment_writing.Comments.{Comments}
pub use Rattle.nb_member.specs.Code.EventTurns.{HandedOut, HasTaken, TakesEvent, noted}
