use Rattle.nb_entries.proofs.Common.{Some, slice_get, ◌-◌, ◌≡◌, length, ltb, ap, sym, subst, ◌∙◌}
use Rattle.nb_entries.proofs.KeptRuns.RowsLemmas.{last_is}
use Rattle.nb_entries.proofs.cover.runs.inserting.ends_before.Goals as goal

pub returns-in-Some : goal.returns-in-Some
returns-in-Some c =
    ap (λ n. ltb n c.args.place) (c.end.ensures ∙ sym (last_is c.args.row.now.items c.in-Some.run'.now (sym (subst (λ xs. Some c.in-Some.run'.now ≡ slice_get xs (length xs - 1)) c.deref.ensures.value c.in-Some.ensures.value))))
