use Rattle.nb_entries.proofs.Common.{◌≡◌, ap₂, refl, ◌∙◌, rules, list_all, same_where, piece_cover, placed, bytes_agree}
use Rattle.std.specs.FinMap as maps
use Rattle.nb_entries.proofs.Covers.{bytes_agree_is}
use Rattle.nb_entries.proofs.cover.CoverFacts.agrees_with.Goals as goal

pub returns-then-is_below-2 : goal.returns-then-is_below-2
returns-then-is_below-2 c =
    let m = c.self.inside.bytes in
    let f = c.args.piece.now in
    let same : c.agree-then-is_below-2.result ≡ bytes_agree c.args.self.now.bytes (piece_cover f).bytes = rw (← c.self.view_is) (c.agree-then-is_below-2.ensures
    ∙ ap₂ (λ i xs. list_all (λ e. same_where (maps.get m e.0) e.1) (placed i xs)) c.start-start.ensures c.bytes.ensures
    ∙ bytes_agree_is m (maps.get m) f (λ q. refl)) in
    search (rules, same)
