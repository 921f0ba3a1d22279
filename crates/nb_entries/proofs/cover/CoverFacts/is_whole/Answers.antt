use Rattle.nb_entries.proofs.Common.{refl, CoverFacts, whole_below_end}
use Rattle.std.specs.FinMap as maps
use Rattle.nb_entries.proofs.cover.CoverFacts.is_whole.Goals as goal

pub returns-in-Some : goal.returns-in-Some
returns-in-Some c =
    let known : CoverFacts = record { bytes = c.self.inside.bytes; marks = c.self.inside.marks } in
    let both = whole_below_end known (maps.get c.self.inside.bytes) (λ q. refl) c.in-Some.end c.in-Some.is in
    rw (← c.self.view_is) (λ h. both.0 (c.cover_below.ensures.0 h), λ w. c.cover_below.ensures.1 (both.1 w))
