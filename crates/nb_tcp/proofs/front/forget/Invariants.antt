use Rattle.std.proofs.Common.{◌≡◌, ◌≤◌, ◌<◌, ◌⊎◌, ℕ}
use Rattle.nb_tcp.specs.Runs.{in_runs, charge_of}
use Rattle.nb_tcp.proofs.front.forget.Given as goal

abbrev pub invariant-runs : goal.invariant-runs
invariant-runs l = record {
  from : l.known ≤ l.from;
  by : l.from ≤ l.by;
  same : (i : ℕ) → l.from ≤ i → in_runs l.runs i ≡ in_runs l.fn.runs i;
  charge : charge_of l.runs ≤ charge_of l.fn.runs;
  more : (l.from ≡ l.known) ⊎ (l.tail < charge_of l.fn.runs);
}

abbrev pub decreases-runs : goal.decreases-runs
decreases-runs l = charge_of l.runs
