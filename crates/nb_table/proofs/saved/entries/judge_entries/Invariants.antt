use Rattle.nb_table.proofs.Common.{◌≡◌, List, map, list_all, Key, EntryValue, is_short, SourcesSoFar}
use Rattle.nb_table.proofs.SavedReading.FoundLemmas.{EntriesSoFar}
use Rattle.nb_table.proofs.saved.entries.judge_entries.Given as goal

abbrev pub invariant-loop : goal.invariant-loop
invariant-loop l = record {
  done : List (Key × EntryValue);
  so_far : EntriesSoFar l.form l.input l.count l.at l.counter l.before l.here done;
  tested : l.is_short ≡ list_all (λ e. is_short l.limit e.1) done;
  counted : SourcesSoFar l.most (map (λ e. e.0) done) l.before l.sources;
}
