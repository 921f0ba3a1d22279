use Rattle.nb_entries.proofs.Common.{rules, ◌≡◌, ◌+◌, ◌++◌, ◌∷◌, [], length, take, drop, ap, sym, ◌∙◌, arith, on_ok_weaker, on_err_weaker, append-nil, map-append, take_all, value_of, values_of, run_at, runs_in}
use Rattle.std.specs.Vec.{vec_len}
use Rattle.nb_entries.proofs.KeptRuns.RunPutLemmas.{put_alone}
use Rattle.nb_entries.proofs.KeptRuns.RunMapLemmas.{apart_between, agrees_between, put_between}
use Rattle.nb_entries.proofs.KeptRuns.RowsLemmas.{row_cut, set_rows}
use Rattle.nb_entries.proofs.cover.runs.inserting.insert_in_rows.Goals as goal

pub returns-then-at-len-clause-ok : goal.returns-then-at-len-clause-ok
returns-then-at-len-clause-ok c =
    let xs = runs_in c.args.rows.now.items in
    let f = run_at c.args.start c.args.bytes.now in
    let rows = c.roomy_row.new.rows in
    let run = c.in_ok-copy.field-0 in
    let same = c.in_ok-at.ensures.same in
    let size : vec_len rows ≡ length rows.items = search rules in
    let all = take_all c.in_ok-at.at rows.items (omega (arith, size, c.len.ensures, c.if-at-len.true)) in
    on_ok_weaker c.push_run.result (λ e. put_between xs _ xs [] (run ∷ []) [] f (sym (append-nil xs)) (e ∙ ap (λ ys. ys ++ run ∷ []) same) c.requires.apart
    (rw (all, same) at c.in_ok-at.ensures.before) tt (put_alone f (value_of run) c.requires.put c.in_ok-copy.ensures)) c.push_run.ensures.ok

pub insert_in_row-requires-clause-apart : goal.insert_in_row-requires-clause-apart
insert_in_row-requires-clause-apart c =
    apart_between _ _ c.index_mut.result.now.items _
    (row_cut _ c.join_rows.new.rows.items c.in_ok-at.at _ (c.in_ok-join_rows.ensures.same ∙ c.in_ok-at.ensures.same) c.in_ok-join_rows.ensures.within c.index_mut.ensures.value) c.requires.apart

pub insert_in_row-requires-clause-agree : goal.insert_in_row-requires-clause-agree
insert_in_row-requires-clause-agree c =
    agrees_between _ _ c.index_mut.result.now.items _ _
    (row_cut _ c.join_rows.new.rows.items c.in_ok-at.at _ (c.in_ok-join_rows.ensures.same ∙ c.in_ok-at.ensures.same) c.in_ok-join_rows.ensures.within c.index_mut.ensures.value) c.requires.apart c.requires.agree

pub returns-clause-ok : goal.returns-clause-ok
returns-clause-ok c =
    let xs = runs_in c.args.rows.now.items in
    let rows = c.join_rows.new.rows.items in
    let within = c.in_ok-join_rows.ensures.within in
    let cut = row_cut xs rows c.in_ok-at.at c.index_mut.result.now (c.in_ok-join_rows.ensures.same ∙ c.in_ok-at.ensures.same) within c.index_mut.ensures.value in
    on_ok_weaker c.insert_in_row.result (put_between xs _ _ _ c.insert_in_row.new.runs.items _ (run_at c.args.start c.args.bytes.now) cut (set_rows rows c.in_ok-at.at c.insert_in_row.new.runs within) c.requires.apart
    (rw c.in_ok-join_rows.ensures.front c.in_ok-at.ensures.before) (rw (c.in_ok-join_rows.ensures.back, ← c.deref.ensures.value) c.rows_to-past.ensures.after)) c.insert_in_row.ensures.ok

pub returns-clause-err : goal.returns-clause-err
returns-clause-err c =
    let xs = runs_in c.args.rows.now.items in
    let rows = c.join_rows.new.rows.items in
    let at = c.in_ok-at.at in
    let within = c.in_ok-join_rows.ensures.within in
    let cut = row_cut xs rows at c.index_mut.result.now (c.in_ok-join_rows.ensures.same ∙ c.in_ok-at.ensures.same) within c.index_mut.ensures.value in
    on_err_weaker c.insert_in_row.result (λ (e : values_of c.insert_in_row.new.runs.items ≡ values_of c.index_mut.result.now.items).
    rw (set_rows rows at c.insert_in_row.new.runs within, cut) (simp map-append (ap (λ us. values_of (runs_in (take at rows)) ++ (us ++ values_of (runs_in (drop (at + 1) rows)))) e))) c.insert_in_row.ensures.err
