use Rattle.nb_entries.proofs.Common.{length, map, refl, sym, ap, ◌∙◌, concat, runs_of_map, value_of, values_of, runs_back, begun, turn, stop}
use Rattle.std.specs.Int.{w16, to_be_bytes}
use Rattle.nb_entries.specs.Saved.{run_bytes, runs_bytes}
use Rattle.nb_entries.proofs.cover.runs.Runs.put_to.Goals as goal

pub returns-in_err-put_two_bytes : goal.returns-in_err-put_two_bytes
returns-in_err-put_two_bytes g c =
    let runs = runs_of_map c.args.self.now in
    let laws = g.met.S.ByteSink.laws in
    stop laws (to_be_bytes w16 (length runs)) (concat (map run_bytes runs)) (begun laws c.args.sink.now (runs_bytes runs)) (ap (to_be_bytes w16) c.count.ensures)
    c.in_err-put_two_bytes.ensures _ c.from_residual.result c.from_residual.ensures.1

pub loop-run-init : goal.loop-run-init
loop-run-init g c =
    let runs = runs_of_map c.args.self.now in
    let laws = g.met.S.ByteSink.laws in
    rw (ap values_of (c.into_iter-run-iterator.ensures.into_iter_gives ∙ c.of-run-items.ensures) ∙ sym (runs_back _ c.self.invariant.1) ∙ ap runs_of_map c.self.view_is)
    (turn laws (to_be_bytes w16 (length runs)) (concat (map run_bytes runs)) (begun laws c.args.sink.now (runs_bytes runs)) (ap (to_be_bytes w16) c.count.ensures) c.in_ok-put_two_bytes.ensures)

pub returns-in_err-put_run : goal.returns-in_err-put_run
returns-in_err-put_run g c =
    stop g.met.S.ByteSink.laws (run_bytes (value_of c.in-Some.run'.now)) _ (rw c.in-Some.ensures.steps at c.loop-run.invariant) refl
    c.in_err-put_run.ensures _ c.from_residual-in_err-put_run.result c.from_residual-in_err-put_run.ensures.1

pub loop-run-preserved : goal.loop-run-preserved
loop-run-preserved g c =
    turn g.met.S.ByteSink.laws (run_bytes (value_of c.in-Some.run'.now)) _ (rw c.in-Some.ensures.steps at c.loop-run.invariant) refl c.in_ok-put_run.ensures
