-- The names that many proofs cite, passed on.
pub use Rattle.std.proofs.Common.{Bool, Contains, Err, IfErr, IfOk, IsOk, IsTrue, List, None, Ok, OnErr, OnOk, Option, Result, Some, [], ap, append-nil, append_assoc, ap₂, arith, cond, drop, false, filter, get_or, inl, inr, is_none, is_some, length, length-append, map, nat_lt, not, option_and_then, refl, rules, slice_get, subst, suc, sym, take, take_all, true, unwrap_or, zero, zero-add, ℕ, ◌&&◌, ◌++◌, ◌+◌, ◌-◌, ◌<◌, ◌==◌, ◌^◌, ◌↔◌, ◌∙◌, ◌∷◌, ◌≡◌, ◌≢◌, ◌≤◌, ◌⊎◌}
pub use Rattle.std.proofs.lemmas.Bool.{and_from, and_parts, cases_lt, lt-ltb, ltb-false, ltb-true, not-false, not-true, or_left, or_right, true≢false}
pub use Rattle.std.proofs.lemmas.List.{drop_more, length-drop, length-map, map_more, nil_from_length, take-append-drop}
pub use Rattle.std.proofs.lemmas.Option.{MatchOption-at_none, get_or_from_slice_get, none-some, same_Some, slice_get-get_or, slice_get_past, slice_get_read, slice_get_within}
pub use Rattle.std.proofs.lemmas.Result.{IfOk-weaker, err_from_is_err_and, on_err_weaker, on_ok_weaker}
pub use Rattle.std.specs.BTreeMap.Range.{entries_between, range_contains}
pub use Rattle.std.specs.Cmp.{Equal-is, IsTotalOrder, booleans_Decides, both_ways, eq_by_cmp_equiv, tied_itself, unsigned_Decides}
pub use Rattle.std.specs.Cmp.Lexicographic.{nat_list_cmp_total, pointwise, pointwise_decides}
pub use Rattle.std.specs.FinMap.{is_sorted, nat_cmp-IsAntisymmetric, slice_cmp-IsAntisymmetric}
pub use Rattle.std.specs.FinMap.Entries.{below_all, is_sorted-where_key, same_entries}
pub use Rattle.std.specs.Int.{from_be_bytes, to_be_bytes, w16, w32}
pub use Rattle.std.specs.List.{AllByRecursion, cons_option, filter_map, list_all, list_any, starts_with}
pub use Rattle.std.specs.Option.{IfSome, MatchOption}
pub use Rattle.std.specs.Ordering.{eq_by_cmp, is_le, is_lt, nat_cmp, ordering_reverse, ordering_then}
pub use Rattle.std.specs.Prelude.{Decides, T}
pub use Rattle.std.specs.declared.cmp.Ordering.{Ordering}
pub use Rattle.std.specs.declared.cmp.Ordering.TheVariants.{Equal, Greater, Less}
pub use Rattle.std.specs.declared.ops.Bound.TheVariants.{Included, Unbounded}
pub use Rattle.nb_datagram.specs.Fragment.{Core, Covers, DatagramParts, EndsAt, FragmentParts, core_of, cores_of, is_first, reach}
pub use Rattle.nb_datagram.specs.Key.{key_cmp, key_cmp_exact, key_cmp_total, same_key, same_key_decides}
pub use Rattle.nb_datagram.specs.declared.key.Key.{Key}
pub use Rattle.nb_datagram.specs.declared.limits.TheConstants.{MAX_LENGTH}
pub use Rattle.nb_entries.specs.Change.{Change, DataChange, KeyChange, Tells, handed_by}
pub use Rattle.nb_entries.specs.Entry.{AreShort, EntryFacts, EntryValue, FactsFit, IsEntry, IsShort, facts_agree, facts_of, facts_together, is_short, join_entry}
pub use Rattle.nb_entries.specs.Maps.{OnHeld, first_of, joined, joined_at, joined_onto}
pub use Rattle.nb_entries.specs.Saved.{IsNamed, entry_bytes, facts_bytes, runs_bytes}
pub use Rattle.nb_entries.specs.SavedReading.{Field, Judged, bad, cut, entry_at, gives, goes_on, good, is_0, is_1, stops, whole}
pub use Rattle.nb_entries.specs.Shared.MapsLemmas.{T_both, T_left, T_right, all_append, all_entries_found, all_entries_from, at-none, at-some, below_none, get-joined, lt_not_eq, one_key, sorted_entries, tied_self}
pub use Rattle.nb_entries.specs.Whole.{IsWhole, IsWholeCover, datagram_of, entry_outline, newly}
pub use Rattle.nb_entries.specs.declared.saved.SavedForm.{SavedForm}
pub use Rattle.nb_entries.specs.declared.saved.SavedForm.TheVariants.{First, Second}
pub use Rattle.nb_entries.specs.declared.slot.Slot.TheVariants.{Held, Spoilt}
pub use Rattle.nb_table.specs.Code.Each.{Breaks, Passes, handed, handed_at, joined_each, put_back, taken_back, with_each, with_entry}
pub use Rattle.nb_table.specs.Code.SavedTables.{AreFew, AreJudged, AreKept, HasNames, IsJudged, SourcesSoFar}
pub use Rattle.nb_table.specs.Code.SourceCounts.{Adds, AreCounted, Counts, CountsKeys, HasNoZero, Takes, count_of, if_same, ip_cmp}
pub use Rattle.nb_table.specs.Contents.{Contents, IsWholeAt, Says, datagram_at, first_byte, marks_in, newly_whole, table_of}
pub use Rattle.nb_table.specs.Insert.{NeedsNoMemory, Refuses, contradicts, held, spoilt, with_fragment}
pub use Rattle.nb_table.specs.Join.{AreTaken, IsTable, join, joined_all}
pub use Rattle.nb_table.specs.Limits.{FewOfEach, IsFull, IsFullSource, KeepsLimits, Limits, TableValue, every_key, held_keys, of_source, with_contents}
pub use Rattle.nb_table.specs.Merging.{AllShort, Fits, IsRefused, IsUnfitSource, SourcesFit, first_unfit, new_keys, newly_handed}
pub use Rattle.nb_table.specs.Saved.{FitsKeyed, FitsSaved, HasNoPromise, IsAfter, IsRead, IsReadAs, IsSaved, KeyAt, LoadFails, after_magic, entries_at, entries_bytes, full, full_source, ill_formed, key_at, key_bytes, keyed_bytes, magic, no_magic, no_memory, saved, saved_as, saved_first, table_at, too_long}
pub use Rattle.nb_table.specs.Shared.ConflictLemmas.{at_end_conflicts, at_promise_conflicts, conflicts_decides, covers, in_with_key, is_spoilt_decides, past_end_exactly, past_promise_fits, with_key_in}
pub use Rattle.nb_table.specs.Shared.SayingLemmas.{absent_exactly, byte_exactly, end_exactly, first_byte_from, first_byte_there, first_end_from, first_end_there, held_says, only_table, promise_exactly, says_end, spoilt_exactly, table_is}
pub use Rattle.nb_table.specs.Shared.TableLemmas.{breaks_on, breaks_wider, entries_kept, get-join, get-table_of, get_kept, held_is, insert_at, join-assoc, join-comm, join-idem, join_formed, join_one, keys_kept, needs_new, passes_none, passes_on, passes_wider, same_table}
pub use Rattle.nb_table.specs.Shared.TreeLemmas.{changed_is, entries_are, get_is, insert_is, len_is, lent_is, less_is, remove_is, same_list, sorted_is, written_keys}
