use Rattle.nb_entries.proofs.Common.{◌≡◌, rules, same_from_decides}
use Rattle.nb_entries.specs.Equal.{same_bytes}
use Rattle.nb_entries.specs.Shared.EqualLemmas.{bytes_decide}
use Rattle.nb_entries.proofs.cover.CoverFactsPartialEq.eq.Goals as goal

pub returns-then-eq : goal.returns-then-eq
returns-then-eq c =
    let same : c.are.result ≡ same_bytes c.args.self.now.bytes c.args.other.now.bytes = rw (← c.self.view_is, ← c.other.view_is) (same_from_decides c.are.result _ c.are.ensures (bytes_decide _ _)) in
    search (rules, same)
