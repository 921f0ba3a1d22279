-- The names that many proofs cite, passed on.
pub use Rattle.std.proofs.Common.{Bool, Decides, Err, List, None, Ok, Option, Some, [], add-one, ap, append_assoc, ap₂, arith, cond, drop, drop-cons, false, get_or, inl, inr, length, length-append, length-drop, length-take, ltb, ltb-false, ltb-true, map, max, min, refl, rules, slice_get, slice_index_or, slice_set, subst, suc, sym, take, take-append-drop, true, zero, ℕ, ◌&&◌, ◌++◌, ◌+◌, ◌-◌, ◌<◌, ◌==◌, ◌^◌, ◌||◌, ◌↔◌, ◌∙◌, ◌∷◌, ◌≡◌, ◌≢◌, ◌≤◌, ◌⊎◌}
pub use Rattle.std.proofs.lemmas.Bool.{and_from, and_parts, cases_lt, eq-eqb, eqb-true, le-leb, leb-true, lt-leb}
pub use Rattle.std.proofs.lemmas.Bool.Decides.{nat_tests, not_from_Decides, same_from_decides}
pub use Rattle.std.proofs.lemmas.List.{append-nil, drop-drop, drop-map, drop-set-lt, drop_all, ext_get_or, get_or-drop, get_or-map, get_or-take, get_or_default, length-map, length-take-le, map-append, set_at, set_split, take-map, take-take, take_all, take_more_set, take_rest}
pub use Rattle.std.proofs.lemmas.List.Sorted.{IsNonDecreasingBy-from_all_adjacent, IsPartitionPoint-from_clause, IsPartitionedBy-ltb}
pub use Rattle.std.proofs.lemmas.Option.{same_Some, slice_get-get_or, slice_get_past, slice_get_within}
pub use Rattle.std.proofs.lemmas.Result.{IfOk-weaker, err_from_is_err_and, on_err_weaker, on_ok_weaker}
pub use Rattle.std.specs.Cmp.{both_ways, nat_cmp_total, unsigned_Decides}
pub use Rattle.std.specs.List.{AllByRecursion, concat, insert, list_all, remove}
pub use Rattle.std.specs.Ordering.{eq_by_cmp, nat_cmp}
pub use Rattle.std.specs.Prelude.{T, box_value, nat_le, nat_lt}
pub use Rattle.nb_datagram.specs.Fragment.{Core, Covers, DatagramParts, FragmentParts, core_of, reach}
pub use Rattle.nb_datagram.specs.declared.limits.TheConstants.{MAX_LENGTH}
pub use Rattle.nb_entries.specs.Code.CoverFacts.{Holds, is_there, with_bytes}
pub use Rattle.nb_entries.specs.Code.Rows.{Agree, AgreeOne, AreBetween, AreFilled, EndBefore, EndBy, EndFrom, IsFrom, IsPut, Lacks, LastsTo, Meet, NoneEmpty, RowThere, StartAfter, StartTo, after_run, byte_in, grown, held_in, kept_values, last_end, look_in, row_of, run_at, run_of, runs_in, value_of, values_in, values_of}
pub use Rattle.nb_entries.specs.Cover.{AreCoverFacts, BytesBelow, CoverFacts, CoverValue, CoversFit, IsCover, bytes_agree, bytes_lie_below, cover_of, covers_together, join_cover, piece_cover, placed}
pub use Rattle.nb_entries.specs.Entry.{EntryFacts, EntryValue, FactsFit, facts_agree, facts_of, facts_together, join_entry}
pub use Rattle.nb_entries.specs.Maps.{Held, Spoilt, first_of, union}
pub use Rattle.nb_entries.specs.Marks.{GoesOnFrom, Marks, Promises, marks_together, no_marks, piece_marks, same_where}
pub use Rattle.nb_entries.specs.Piece.{PieceParts, piece_of, piece_reach}
pub use Rattle.nb_entries.specs.Runs.{AreApart, AreRangesOf, OneHas, RangesApart, RunValue, StartPast, StartsPast, map_of_runs, places_of, range_of, ranges_of_map, run_end, runs_of_map}
pub use Rattle.nb_entries.specs.SavedReading.{Outcome, PromisesBelow, Then, bad, cut, end_at, gives, goes_on, good, ill, is_0, is_1, is_neither, known, promise_at, row_at, stands, stops, unknown, whole}
pub use Rattle.nb_entries.specs.Shared.CoverLemmas.{agree_of, bytes_below_decides, covers_unite, fit_of, formed_agrees, in_union, same_cover, together_held}
pub use Rattle.nb_entries.specs.Shared.EntryLemmas.{facts_agree_of, facts_fit_of, join_cover_formed, join_entry-assoc, join_entry-comm, join_entry-idem}
pub use Rattle.nb_entries.specs.Shared.MapsLemmas.{all_append, all_entries_found, all_entries_from, get-union, none_from, one_key, sorted_entries}
pub use Rattle.nb_entries.specs.Shared.MarksLemmas.{at_same, either_first, first_alone, first_either, first_of_three, one_value, same_at}
pub use Rattle.nb_entries.specs.Shared.PlacedLemmas.{cover_of_formed, piece_formed, covers_below, find-append, find-placed, taken}
pub use Rattle.nb_entries.specs.Shared.PuttingLemmas.{after, begun, broken, done, stop, turn}
pub use Rattle.nb_entries.specs.Shared.RowLemmas.{covers_formed, map_below, places_in_map, row_long, row_next, row_short, run_below, whole_row}
pub use Rattle.nb_entries.specs.Shared.RunsLemmas.{given_back, one_row, places-runs, runs_apart, runs_back, sorted_placed}
pub use Rattle.nb_entries.specs.Shared.WholeLemmas.{below_found, below_from, below_none, newly_always, newly_never, slice_get-front, whole_below_end}
pub use Rattle.nb_entries.specs.Whole.{IsAwaited, awaited_of, bytes_below, bytes_to, datagram_of, datagram_with, newly}
