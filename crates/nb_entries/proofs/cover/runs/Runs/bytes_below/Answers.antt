use Rattle.nb_entries.proofs.Common.{ap, sym, ◌∙◌, Some, below_none}
use Rattle.nb_entries.proofs.KeptRuns.RunMapLemmas.{below_is}
use Rattle.nb_entries.proofs.cover.runs.Runs.bytes_below.Goals as goal

pub returns-in_ok-copy-in-Some : goal.returns-in_ok-copy-in-Some
returns-in_ok-copy-in-Some c =
    let found = below_is _ c.args.end _ c.in-Some.ensures in
    record { value = ap Some c.in_ok-copy-in-Some.ensures ∙ sym found; no_memory_needed = λ none. absurd (cc (found, none)) }

pub returns-in_err-copy-in-Some-clause-no_memory_needed : goal.returns-in_err-copy-in-Some-clause-no_memory_needed
returns-in_err-copy-in-Some-clause-no_memory_needed c = λ none. absurd (cc (below_is _ c.args.end _ c.in-Some.ensures, none))

pub returns-in-None-clause-value : goal.returns-in-None-clause-value
returns-in-None-clause-value c = let lacks = c.in-None.ensures in sym (below_none _ c.args.end lacks.place lacks.most lacks.none)
