use Rattle.nbt_reassembly.proofs.Common.{Err, err_from_is_err_and, Keeps-same, output_fails, prints_front, prints_kept, saved_line}
use Rattle.nbt_reassembly.specs.SaveFaults.{line_fails, no_capacity}
use Rattle.nbt_reassembly.proofs.SavingTurns.{saves_capture, stops_before}
use Rattle.nbt_reassembly.proofs.save.run_save.Goals as goal

pub returns : goal.returns
returns g c = record {
  printed = saves_capture _ _ _ _ _ c.in_ok-capacity.capacity _ c.in_ok-saver.saver.member _ c.in_ok-capacity.ensures.given c.input_limit_of.ensures c.in_ok-saver.ensures.took
      c.table.ensures.value c.in_ok-print_saved.ensures.prints;
  err = tt;
  write = tt;
  fault = tt;
  why = tt;
}

pub returns-in_err-print_saved : goal.returns-in_err-print_saved
returns-in_err-print_saved g c =
    let p = err_from_is_err_and c.from_residual-in_err-print_saved.result c.from_residual-in_err-print_saved.ensures.1 in
    let prints = c.in_err-print_saved.ensures.prints in
    rw (p.1, p.2) (record {
      printed = tt;
      err = prints_kept (saved_line c.table.result.now.contents) _ _ (Err _) prints;
      write = λ write. saves_capture _ _ _ _ _ c.in_ok-capacity.capacity _ c.in_ok-saver.saver.member _ c.in_ok-capacity.ensures.given c.input_limit_of.ensures c.in_ok-saver.ensures.took
          c.table.ensures.value (prints_front _ _ _ (Err _) prints write);
      fault = output_fails c.in_err-print_saved.ensures.fault;
      why = c.in_err-print_saved.ensures.why;
    })

pub returns-in_err-capacity : goal.returns-in_err-capacity
returns-in_err-capacity g c =
    let p = err_from_is_err_and c.from_residual.result c.from_residual.ensures.1 in
    let is = c.in_err-capacity.ensures.fault in
    rw (p.1, p.2) (record {
      printed = tt;
      err = λ other. Keeps-same _;
      write = λ write. absurd (cc (is, write));
      fault = no_capacity c.in_err-capacity.ensures.none is;
      why = λ write. absurd (cc (is, write));
    })

pub returns-in_err-saver : goal.returns-in_err-saver
returns-in_err-saver g c =
    let p = err_from_is_err_and c.from_residual-in_err-saver.result c.from_residual-in_err-saver.ensures.1 in
    let stops = c.in_err-saver.ensures.stops in
    rw (p.1, p.2) (record {
      printed = tt;
      err = λ other. Keeps-same _;
      write = λ write. absurd (stops_before _ _ _ _ _ _ _ stops write);
      fault = line_fails c.in_ok-capacity.capacity c.input_limit_of.result c.in_ok-capacity.ensures.given c.input_limit_of.ensures stops;
      why = λ write. absurd (stops_before _ _ _ _ _ _ _ stops write);
    })
