use Rattle.nb_table.proofs.Common.{◌≡◌, ◌-◌, filter, map, length, of_source}
use Rattle.nb_table.proofs.Limits.SourceLemmas.{Left}
use Rattle.nb_table.proofs.entries.room_by_keys.Given as goal

abbrev pub invariant-loop-key : goal.invariant-loop-key
invariant-loop-key l =
    (l.room - length (filter (of_source l.ip) (map (λ e. e.0) l.key-iterator)) ≡ l.most - length (filter (of_source l.ip) (map (λ e. e.0) l.map.entries)))
    × Left l.ip l.key-iterator
