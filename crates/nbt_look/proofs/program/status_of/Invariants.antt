use Rattle.std.proofs.Common.{◌≡◌, drop, fold}
use Rattle.nbt_look.specs.Running.{worse}
use Rattle.nbt_look.proofs.program.status_of.Given as goal

abbrev pub invariant-loop-source : goal.invariant-loop-source
invariant-loop-source g l = fold worse l.status (drop l.source-index l.sources) ≡ fold worse 0 l.sources
