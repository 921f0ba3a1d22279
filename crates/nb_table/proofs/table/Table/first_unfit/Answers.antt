use Rattle.nb_table.proofs.Common.{◌≡◌, sym, ◌∙◌, ap, filter, slice_get, is_none, ◌-◌, TableValue, every_key, held_keys}
use Rattle.std.specs.FinMap as maps
use Rattle.nb_table.proofs.Limits.GroupLemmas.{held_every}
use Rattle.nb_table.proofs.table.Table.first_unfit.Goals as goal

pub returns : goal.returns
returns c =
    let s = c.self.inside.entries in
    let t = c.other.inside.entries in
    let room : c.self.inside.keys - c.len.result ≡ c.self.inside.keys - held_keys every_key s =
    ap (λ k. c.self.inside.keys - k) (c.len.ensures.count ∙ ap (λ (t : TableValue). maps.len t.contents) (sym c.self.view_is) ∙ sym (held_every s)) in
    rw (← c.self.view_is, ← c.other.view_is) (c.first_without_room.ensures.value ∙ ap (slice_get (filter (λ q. is_none (maps.get s q)) (maps.keys t))) room)
