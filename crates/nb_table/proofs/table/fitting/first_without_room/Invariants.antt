use Rattle.nb_table.proofs.Common.{◌≡◌, filter, map, slice_get, is_none}
use Rattle.std.specs.FinMap as maps
use Rattle.nb_table.proofs.table.fitting.first_without_room.Given as goal

abbrev pub invariant-loop-key : goal.invariant-loop-key
invariant-loop-key l =
    slice_get (filter (λ k. is_none (maps.get l.entries k)) (maps.keys l.others)) l.room
    ≡ slice_get (filter (λ k. is_none (maps.get l.entries k)) (map (λ e. e.0) l.key-iterator)) l.left
