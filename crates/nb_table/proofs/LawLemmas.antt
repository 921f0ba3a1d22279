-- The lemmas that are laws as they stand, and the one of tables without a key.
use Rattle.nb_table.proofs.Common.{◌≡◌, Bool, true, false, cond, not, List, Option, None, sym, ◌∙◌, ap, both_ways, Key, same_key, key_cmp_total, same_key_decides, Core, EntryValue, Contents, table_of, at_promise_conflicts, is_spoilt_decides, past_promise_fits, spoilt_exactly, table_is, get-table_of, get-join, get_kept, join-comm, join-assoc, join-idem, join_formed, same_table}
use Rattle.std.specs.FinMap as maps
use Rattle.nb_table.specs.Conflict.{without_key}
use Rattle.nb_table.proofs.Changes.{one_change, one_state}
use Rattle.nb_table.specs.Shared.ContentsLemmas.{retain-table_of, same_cores-same_table, table_of_formed, table_of-append}
use Rattle.nb_table.proofs.Limits.GroupLemmas.{keys_fit_exactly}
use Rattle.nb_table.proofs.SavedBytes.{saved_example, saved_example_first, short_fits}
use Rattle.nb_table.proofs.SavedReading.FoundLemmas.{one_read}
use Rattle.nb_table.proofs.SavedReading.LoadLemmas.{one_table}
use Rattle.nb_table.proofs.SavedReading.LoadedLemmas.{read_back, read_back_first, read_saved, read_entries, read_formed}
use Rattle.nb_table.proofs.Wholeness.{gives_where_all}

-- a table without a key is the table of its other keys
remove_retains : (t : Contents) (k : Key) → maps.remove t k ≡ maps.retain_keys t (λ q. not (same_key k q))
remove_retains t k = same_table _ _ (λ q.
    maps.get-remove key_cmp_total t k q
    ∙ turned (same_key q k) (same_key k q) (maps.get t q) (both_ways _ _ (swapped q k) (swapped k q))
    ∙ sym (get_kept t (λ q. not (same_key k q)) q))
  where
    swapped : (a b : Key) → same_key a b ≡ true → same_key b a ≡ true
    swapped a b h = (same_key_decides b a).1 (sym ((same_key_decides a b).0 h))

    turned : (a b : Bool) (o : Option EntryValue) → a ≡ b → cond a None o ≡ cond (not b) o None
    turned true b o e = ap (λ c. cond (not c) o None) e
    turned false b o e = ap (λ c. cond (not c) o None) e

pub remove-table_of : (L : List Core) (k : Key) → maps.remove (table_of L) k ≡ table_of (without_key k L)
remove-table_of L k = remove_retains (table_of L) k ∙ retain-table_of L (λ q. not (same_key k q))

-- on contents and limits
pub ruleset laws = (is_spoilt_decides, remove-table_of, join-comm, join-assoc, join-idem, at_promise_conflicts, past_promise_fits, one_change, one_state, gives_where_all, retain-table_of, same_cores-same_table, table_of_formed, table_of-append, spoilt_exactly, table_is, get-table_of, get-join, join_formed, keys_fit_exactly)

-- on saved tables
pub ruleset saved_laws = (read_back, read_back_first, read_saved, read_entries, read_formed, one_table, one_read, saved_example, saved_example_first, short_fits)
