use Rattle.nb_table.proofs.Common.{◌≡◌, ◌++◌, ◌∷◌, length, AllByRecursion, MAX_LENGTH, join_entry, IsShort, AllShort, joined_each, handed, with_entry, taken_back}
use Rattle.nb_table.proofs.table.merging.merging_entries.join_each.Given as goal

abbrev pub invariant-loop-next_key : goal.invariant-loop-next_key
invariant-loop-next_key g l = record {
  short : AllShort MAX_LENGTH l.entries;
  other_short : IsShort MAX_LENGTH (g.O.Entry.Other.value l.other);
  others_short : AllByRecursion (λ e. IsShort MAX_LENGTH e.1) (g.O.Others.left l.others);
  joined :
      joined_each join_entry (with_entry l.entries l.key (g.O.Entry.Other.value l.other)) (g.O.Others.left l.others)
      ≡ joined_each join_entry l.fn.entries (g.O.Others.left l.fn.others);
  handed :
      l.datagrams.items ++ handed l.handing l.entries ((l.key, g.O.Entry.Other.value l.other) ∷ g.O.Others.left l.others)
      ≡ handed l.handing l.fn.entries (g.O.Others.left l.fn.others);
  noted :
      taken_back l.entries l.changes.items
      ≡ taken_back l.fn.entries l.fn.changes.items;
}

abbrev pub decreases-loop-next_key : goal.decreases-loop-next_key
decreases-loop-next_key g l = length (g.O.Others.left l.others)
