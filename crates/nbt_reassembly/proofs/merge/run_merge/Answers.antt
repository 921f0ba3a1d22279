use Rattle.nbt_reassembly.proofs.Common.{err_from_is_err_and, Keeps-same, IsCapacity, saved_line, prints_uncut}
use Rattle.nbt_reassembly.proofs.JoinedLemmas.{join_prints}
use Rattle.nbt_reassembly.proofs.merge.run_merge.Goals as goal

pub returns : goal.returns
returns g c =
    let done = c.print_saved.ensures in record {
      prints = join_prints (IsCapacity c.args.matches.now) saved_line _ _ _ _ _ c.print_saved.result c.in_ok-table.ensures.joined done.prints;
      cut = prints_uncut _ _ _ _ c.print_saved.result done.prints;
      why = done.why;
    }

pub returns-in_err-table : goal.returns-in_err-table
returns-in_err-table g c =
    let why = c.in_err-table.ensures in
    let p = err_from_is_err_and c.from_residual.result c.from_residual.ensures.1 in
    rw (p.1, p.2) (record {
      prints = (why.fault, λ other. Keeps-same _, λ write. absurd (why.no_write write));
      cut = why.cut;
      why = λ write. absurd (why.no_write write);
    })
