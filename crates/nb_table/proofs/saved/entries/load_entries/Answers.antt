use Rattle.nb_table.proofs.Common.{[], ◌∷◌, ◌++◌, ◌∙◌, inr, arith, err_from_is_err_and, key_cmp_total, key_cmp_exact}
use Rattle.nb_table.proofs.Joins.{each_is, each_put}
use Rattle.nb_table.proofs.SavedReading.LoadedLemmas.{entries_ascend}
use Rattle.nb_table.proofs.SavedReading.FoundLemmas.{entries_turn, key_stopped, entry_stopped, entries_ended}
use Rattle.nb_table.proofs.saved.entries.load_entries.Goals as goal

pub returns-in_err-key-clause-fault : goal.returns-in_err-key-clause-fault
returns-in_err-key-clause-fault c =
    let p = err_from_is_err_and c.from_residual.result c.from_residual.ensures.1 in
    rw (p.1, p.2) (inr (key_stopped c.args.form _ _ _ _ _ _ _ _ c.loop.invariant.so_far (omega arith) c.in_err-key.ensures))

pub returns-in_err-entry-clause-fault : goal.returns-in_err-entry-clause-fault
returns-in_err-entry-clause-fault c =
    let p = err_from_is_err_and c.from_residual-in_err-entry.result c.from_residual-in_err-entry.ensures.1 in
    rw (p.1, p.2) (inr (entry_stopped c.args.form _ _ _ _ _ _ _ _ _ _ c.loop.invariant.so_far (omega arith) c.in_ok-key.ensures c.in_err-entry.ensures))

pub returns-clause-kept : goal.returns-clause-kept
returns-clause-kept c =
    let read = entries_ended c.args.form _ _ _ _ _ _ _ c.loop.invariant.so_far (omega arith) in
    record {
      entries = c.loop.invariant.done;
      next = c.loop.here;
      read = read;
      same = c.loop.invariant.kept ∙ each_is key_cmp_total key_cmp_exact c.loop.invariant.done (entries_ascend _ _ _ _ _ _ _ read).sorted;
    }

pub loop-preserved : goal.loop-preserved
loop-preserved c =
    let done = c.loop.invariant.done in
    let key = c.in_ok-key.key in
    let entry = c.in_ok-entry.entry in
    record {
      done = done ++ (key, entry) ∷ [];
      so_far = entries_turn c.args.form _ _ _ _ _ _ _ _ _ _ _ c.loop.invariant.so_far c.in_ok-key.ensures c.in_ok-entry.ensures;
      kept = each_put c.loop.map _ done key entry _ c.loop.invariant.kept c.in_ok-insert_new.ensures.inserted c.in_ok-load.ensures;
    }
