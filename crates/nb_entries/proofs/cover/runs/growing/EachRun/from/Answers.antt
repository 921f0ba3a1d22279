use Rattle.nb_entries.proofs.Common.{ℕ, List, ◌∷◌, [], sym, arith, append-nil, take_all, take_rest, value_of, EndBefore, values_in, NoneEmpty, IsFrom, RunValue, AreApart, length-drop}
use Rattle.nb_entries.proofs.KeptRuns.RunRowLemmas.{apart_front}
use Rattle.nb_entries.proofs.KeptRuns.RowsLemmas.{from_row, row_apart_at}
use Rattle.nb_entries.proofs.cover.runs.growing.EachRun.from.Goals as goal

none_from : (all : List RunValue) (n : ℕ) → EndBefore n all → IsFrom all n []
none_from all n h = record { front = all; cut = sym (append-nil all); before = h; after = tt }

pub returns-in-One : goal.returns-in-One
returns-in-One c = rw (c.in-One.is, c.none.ensures) (none_from (value_of c.in-One.run' ∷ []) c.args.place (omega arith, tt))

pub first_from-requires : goal.first_from-requires
first_from-requires c =
    let apart : AreApart (values_in c.as_slice-rows.result.now) = rw c.as_slice-rows.ensures.value (rw c.in-Many.is at c.requires.apart) in
    rw c.deref-in-Some.ensures.value (apart_front _ _ (row_apart_at c.as_slice-rows.result.now _ _ _ c.in-Some.ensures.cases.0 apart))

pub returns-in-Some : goal.returns-in-Some
returns-in-Some c =
    let some : NoneEmpty c.as_slice-rows.result.now = rw c.as_slice-rows.ensures.value (rw c.in-Many.is at c.requires.some) in
    let apart : AreApart (values_in c.as_slice-rows.result.now) = rw c.as_slice-rows.ensures.value (rw c.in-Many.is at c.requires.apart) in
    rw (c.in-Many.is, ← c.as_slice-rows.ensures.value, c.deref.ensures.value)
    (from_row c.as_slice-rows.result.now _ _ _ _ _ c.in-Some.ensures.cases.0 some apart c.row_to.ensures.before c.row_to.ensures.reaches
    (rw c.deref-in-Some.ensures.value at c.first_from.ensures.before) (rw c.deref-in-Some.ensures.value at c.first_from.ensures.after))

pub returns-in-None : goal.returns-in-None
returns-in-None c =
    let rows = c.as_slice-rows.result.now in
    let none = rw take_rest at c.in-None.ensures.cases in
    rw (c.in-Many.is, ← c.as_slice-rows.ensures.value, c.none-in-None.ensures)
    (none_from (values_in rows) c.args.place (rw (take_all c.row_to.result rows (omega (arith, none, length-drop c.row_to.result rows))) at c.row_to.ensures.before))
