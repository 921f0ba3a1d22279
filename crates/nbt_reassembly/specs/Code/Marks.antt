-- Keys at which two tables differ, as they are found; no public contract cites this.
use Rattle.std.specs.Prelude.{cond, List, [], ◌∷◌}
use Rattle.std.specs.FinMap as maps
use Rattle.nb_datagram.specs.declared.key.Key.{Key}
use Rattle.nb_datagram.specs.Key.{key_cmp}
use Rattle.nb_table.specs.Contents.{Contents}
use Rattle.nbt_reassembly.specs.Differences.{differ_at}

-- marks of keys
abbrev pub Marks : Type 0
Marks = maps.FinMap key_cmp Unit

-- with_mark t u marks k: the marks, with one of k if the tables t and u differ there
abbrev pub with_mark : Contents → Contents → Marks → Key → Marks
with_mark t u marks k = cond (differ_at t u k) (maps.insert marks k tt) marks

-- the same of several keys, in order
abbrev pub marked : Contents → Contents → Marks → List Key → Marks
marked t u marks [] = marks
marked t u marks (k ∷ ks) = marked t u (with_mark t u marks k) ks
