use Rattle.std.proofs.Common.{drop, string_bytes}
use Rattle.nbt_look.proofs.RunningLemmas.{IsTold}
use Rattle.nbt_look.proofs.program.push_faults.Given as goal

abbrev pub invariant-loop-at : goal.invariant-loop-at
invariant-loop-at g l = IsTold l.titles l.sources (string_bytes l.fn.text) (string_bytes l.text) (drop l.at l.titles) (drop l.at l.sources)
