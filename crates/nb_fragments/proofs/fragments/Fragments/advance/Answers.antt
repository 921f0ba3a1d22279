use Rattle.std.proofs.Common.{refl, sym, subst, ◌∙◌}
use Rattle.nb_fragments.specs.Live.{live_at}
use Rattle.nb_fragments.specs.Code.Kept.{Waits}
use Rattle.nb_fragments.proofs.LiveLemmas.{waits_still}
use Rattle.nb_fragments.proofs.fragments.Fragments.advance.Goals as goal

pub returns-else-is_over-clause-live : goal.returns-else-is_over-clause-live
returns-else-is_over-clause-live c = λ live h. waits_still c.args.self.now _ _ live h (sym c.is_over.ensures ∙ c.if-is_over.false) refl refl refl

pub returns-then-is_over-clause-live : goal.returns-then-is_over-clause-live
returns-then-is_over-clause-live c = λ live h.
    subst (λ n. Waits c.drop_over.new.self (live_at n live)) (sym c.drop_over.ensures.clock)
    (c.drop_over.ensures.live live (record { known = h.known; early = h.early; few = h.few; charge = h.charge; room = h.room }))
