use Rattle.nb_entries.proofs.Common.{◌∙◌, ap, map, sym, subst, MAX_LENGTH, range_of, EndBy, values_of, runs_back}
use Rattle.nb_entries.proofs.Runs.{runs_end_of}
use Rattle.nb_entries.proofs.cover.runs.Runs.ranges.Goals as goal

pub of-requires-2 : goal.of-requires-2
of-requires-2 c =
    subst (EndBy MAX_LENGTH) (runs_back _ c.self.invariant.1 ∙ sym (ap values_of c.of.ensures)) (runs_end_of _ (rw c.self.view_is c.requires))

pub returns : goal.returns
returns c = rw (← c.self.view_is) (c.of-2.ensures ∙ ap (map range_of) (ap values_of c.of.ensures ∙ sym (runs_back _ c.self.invariant.1)))
