use Rattle.std.proofs.Common.{arith, ap, ◌∙◌, ℕ, List}
use Rattle.nb_tcp.specs.Runs.{in_runs}
use Rattle.nb_tcp.proofs.RunsLemmas.{IsPut, put_is}
use Rattle.nb_tcp.proofs.runs.Runs.insert.Goals as goal

pub invariant_of-self-2 : goal.invariant_of-self-2
invariant_of-self-2 c =
    let p : IsPut 0 c.self.inside.map.entries c.args.at c.args.bytes.now c.insert.new.self.entries =
    put_is _ _ _ _ c.in_ok-run.run' c.self.invariant.0 c.requires.some c.requires.last
    (λ i a b. ap (λ (r : List (ℕ × List ℕ)). in_runs r i) c.self.view_is
    ∙ c.requires.free i a b) c.in_ok-run.ensures c.in_ok-insert.ensures.entries in
    (p.runs_are, omega (arith, p.charge, c.self.invariant.1))

pub returns-clause-ok : goal.returns-clause-ok
returns-clause-ok c =
    let p : IsPut 0 c.self.inside.map.entries c.args.at c.args.bytes.now c.insert.new.self.entries =
    put_is _ _ _ _ c.in_ok-run.run' c.self.invariant.0 c.requires.some c.requires.last
    (λ i a b. ap (λ (r : List (ℕ × List ℕ)). in_runs r i) c.self.view_is
    ∙ c.requires.free i a b) c.in_ok-run.ensures c.in_ok-insert.ensures.entries in
    rw (← c.self.view_is) p.puts

pub returns-clause-charge : goal.returns-clause-charge
returns-clause-charge c =
    let p : IsPut 0 c.self.inside.map.entries c.args.at c.args.bytes.now c.insert.new.self.entries =
    put_is _ _ _ _ c.in_ok-run.run' c.self.invariant.0 c.requires.some c.requires.last
    (λ i a b. ap (λ (r : List (ℕ × List ℕ)). in_runs r i) c.self.view_is
    ∙ c.requires.free i a b) c.in_ok-run.ensures c.in_ok-insert.ensures.entries in
    rw (← c.self.view_is) p.charge
