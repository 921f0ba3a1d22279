use Rattle.nb_table.proofs.Common.{◌≡◌, ◌-◌, ◌&&◌, filter, map, slice_get, is_none, unwrap_or, held_keys, of_source, first_unfit}
use Rattle.std.specs.FinMap as maps
use Rattle.nb_table.proofs.Limits.SourceLemmas.{Left}
use Rattle.nb_table.proofs.table.fitting.unfit_of.Given as goal

abbrev pub invariant-loop-key : goal.invariant-loop-key
invariant-loop-key l =
    (slice_get (filter (λ k. of_source l.ip k && is_none (maps.get l.entries k)) (map (λ e. e.0) l.key-iterator))
    (unwrap_or l.known (l.most - held_keys (of_source l.ip) l.entries))
    ≡ first_unfit l.most (of_source l.ip) l.entries l.others)
    × Left l.ip l.key-iterator
