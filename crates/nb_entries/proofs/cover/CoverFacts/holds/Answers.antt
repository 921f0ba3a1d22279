use Rattle.nb_entries.proofs.Common.{◌≡◌, true, false, ap, ap₂, sym, ◌∙◌, not_from_Decides, list_all, marks_together, placed, is_there}
use Rattle.std.specs.FinMap as maps
use Rattle.nb_entries.proofs.Covers.{held_from_all, all_from_held}
use Rattle.nb_entries.proofs.cover.CoverFacts.holds.Goals as goal

pub returns-then-not-are : goal.returns-then-not-are
returns-then-not-are c =
    let known = c.together-known.ensures ∙ ap (marks_together c.self.inside.marks) c.of.ensures in
    let other = not_from_Decides c.are.result c.are.ensures c.if-not-are.true in
    rw (← c.self.view_is) (λ t. (let clash : false ≡ true = t in absurd (cc clash)), λ h. absurd (other (known ∙ h.marks)))

pub returns : goal.returns
returns c =
    let own = c.self.inside in
    let f = c.args.piece.now in
    let at = c.hold.ensures ∙ ap₂ (λ i xs. list_all (λ e. is_there (maps.get own.bytes e.0) e.1) (placed i xs)) c.start-start.ensures c.bytes.ensures in
    let known = c.together-known.ensures ∙ ap (marks_together own.marks) c.of.ensures in
    rw (← c.self.view_is) (
      λ h. record { bytes = held_from_all (maps.get own.bytes) f (sym at ∙ h); marks = sym known ∙ c.are.ensures.0 c.if-not-are.false },
      λ h. at ∙ all_from_held (maps.get own.bytes) f h.bytes,
    )
