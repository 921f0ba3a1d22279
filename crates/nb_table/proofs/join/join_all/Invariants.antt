use Rattle.nb_table.proofs.Common.{◌≡◌, take, map, joined_all}
use Rattle.nb_table.proofs.Joins.{are_taken}
use Rattle.nb_table.proofs.join.join_all.Given as goal

abbrev pub invariant-loop-index : goal.invariant-loop-index
invariant-loop-index g l = record {
  joined : g.J.Join.content l.first ≡ joined_all g.J.Join.joined (g.J.Join.content l.fn.first) (map g.J.Join.content (take l.index l.others));
  beside : g.J.Join.beside l.first ≡ g.J.Join.beside l.fn.first;
  taken : are_taken g.J.Join.joined (g.J.Join.Takes (g.J.Join.beside l.fn.first)) (g.J.Join.content l.fn.first) (map g.J.Join.content (take l.index l.others));
}
