use Rattle.nbt_reassembly.proofs.Common.{err_from_is_err_and, Keeps-same, listed_as, IsCapacity, prints_uncut}
use Rattle.nbt_reassembly.proofs.JoinedLemmas.{join_prints}
use Rattle.nbt_reassembly.proofs.ListedLemmas.{listed}
use Rattle.nbt_reassembly.proofs.list.run_list.Goals as goal

pub returns : goal.returns
returns g c =
    let printed = c.print_keys.ensures.printed in
    listed c.args.matches.now c.is_given-json.result _ c.print_keys.result c.is_given-json.ensures (record {
      prints = join_prints (IsCapacity c.args.matches.now) (listed_as c.is_given-json.result) _ _ _ _ _ c.print_keys.result
          c.in_ok-table.ensures.joined printed;
      cut = prints_uncut _ _ _ _ c.print_keys.result printed;
      why = c.print_keys.ensures.why;
    })

pub returns-in_err-table : goal.returns-in_err-table
returns-in_err-table g c =
    let why = c.in_err-table.ensures in
    let p = err_from_is_err_and c.from_residual.result c.from_residual.ensures.1 in
    rw (p.1, p.2) (record {
      text = λ asked. record {
        prints = (why.fault, λ other. Keeps-same _, λ write. absurd (why.no_write write));
        cut = why.cut;
        why = λ write. absurd (why.no_write write);
      };
      json = λ asked. record {
        prints = (why.fault, λ other. Keeps-same _, λ write. absurd (why.no_write write));
        cut = why.cut;
        why = λ write. absurd (why.no_write write);
      };
      why = λ write. absurd (why.no_write write);
    })
