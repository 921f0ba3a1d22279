use Rattle.nb_table.proofs.Common.{◌≡◌, List, Key, with_each, EntryValue}
use Rattle.std.specs.FinMap as maps
use Rattle.nb_table.proofs.SavedReading.FoundLemmas.{EntriesSoFar}
use Rattle.nb_table.proofs.saved.entries.load_entries.Given as goal

abbrev pub invariant-loop : goal.invariant-loop
invariant-loop l = record {
  done : List (Key × EntryValue);
  so_far : EntriesSoFar l.form l.input l.count l.at l.counter l.before l.here done;
  kept : l.map ≡ with_each maps.empty done;
}
