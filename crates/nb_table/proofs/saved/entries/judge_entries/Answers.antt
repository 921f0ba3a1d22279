use Rattle.nb_table.proofs.Common.{refl, List, map, Some, [], ◌∷◌, ◌++◌, sym, ap, subst, ◌∙◌, ◌&&◌, arith, err_from_is_err_and, Key, is_short, SourcesSoFar}
use Rattle.nb_table.proofs.SavedReading.FoundLemmas.{key_found, entries_turn, key_stopped, entry_stopped, entries_begun, entries_ended, tested_more, keys_more}
use Rattle.nb_table.proofs.saved.entries.judge_entries.Goals as goal

pub returns-in_err-key-clause-fault : goal.returns-in_err-key-clause-fault
returns-in_err-key-clause-fault c =
    let p = err_from_is_err_and c.from_residual.result c.from_residual.ensures.1 in
    rw (p.1, p.2) (key_stopped c.args.form _ _ _ _ _ _ _ _ c.loop.invariant.so_far (omega arith) c.in_err-key.ensures)

pub returns-in_err-entry-clause-fault : goal.returns-in_err-entry-clause-fault
returns-in_err-entry-clause-fault c =
    let p = err_from_is_err_and c.from_residual-in_err-entry.result c.from_residual-in_err-entry.ensures.1 in
    rw (p.1, p.2) (entry_stopped c.args.form _ _ _ _ _ _ _ _ _ _ c.loop.invariant.so_far (omega arith) c.in_ok-key.ensures c.in_err-entry.ensures)

pub returns-clause-found : goal.returns-clause-found
returns-clause-found c = record {
  entries = c.loop.invariant.done;
  read = entries_ended c.args.form _ _ _ _ _ _ _ c.loop.invariant.so_far (omega arith);
  tested = c.loop.invariant.tested;
  counted = c.loop.invariant.counted.few;
}

pub loop-init : goal.loop-init
loop-init c = record {
  done = [];
  so_far = entries_begun c.args.form c.args.input.now c.args.count c.args.at;
  tested = refl;
  counted = c.none-sources.ensures c.args.most;
}

pub loop-preserved : goal.loop-preserved
loop-preserved c = record {
  done = c.loop.invariant.done ++ (c.in_ok-key.key, c.in_ok-entry.entry) ∷ [];
  so_far = entries_turn c.args.form _ _ _ _ _ _ _ _ _ _ _ c.loop.invariant.so_far c.in_ok-key.ensures c.in_ok-entry.ensures;
  tested = c.still_short-is_short.ensures
      ∙ ap (λ b. b && is_short c.args.limit c.in_ok-entry.entry) c.loop.invariant.tested
      ∙ sym (tested_more c.args.limit c.loop.invariant.done c.in_ok-key.key c.in_ok-entry.entry);
  counted = subst (λ (ks : List Key). SourcesSoFar c.args.most ks (Some c.in_ok-key.key) c.with-sources.result) (sym (keys_more c.loop.invariant.done c.in_ok-key.key c.in_ok-entry.entry))
      (c.with-sources.ensures (map (λ e. e.0) c.loop.invariant.done) c.loop.invariant.counted (key_found c.args.input.now c.loop.before c.loop.here c.in_ok-key.after c.in_ok-key.key c.in_ok-key.ensures).1);
}
