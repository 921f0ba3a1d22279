use Rattle.nbt_reassembly.proofs.Common.{◌≡◌, ◌+◌, length, rules, err_from_is_err_and, IsCapacity, MergeFails, input_fails}
use Rattle.nbt_reassembly.specs.Tables.{no_capacity}
use Rattle.nbt_reassembly.proofs.JoinedLemmas.{elsewhere, first_taken, merge_of_join, merge_of_line, merge_of_none, merges_tables}
use Rattle.nbt_reassembly.proofs.tables.joined_input.Goals as goal

pub returns-in_err-tables-clause-fault : goal.returns-in_err-tables-clause-fault
returns-in_err-tables-clause-fault g c =
    let text = c.in_ok-text.ensures in
    let p = err_from_is_err_and c.from_residual-in_err-tables.result c.from_residual-in_err-tables.ensures.1 in
    rw (p.1, p.2) (input_fails (merge_of_line _ _ _ _ _ c.in_ok-capacity.capacity _ c.as_slice.ensures.value text.read text.ended text.within c.in_ok-capacity.ensures.given c.in_err-tables.ensures.fault))

pub returns-in_err-capacity-clause-fault : goal.returns-in_err-capacity-clause-fault
returns-in_err-capacity-clause-fault g c =
    let p = err_from_is_err_and c.from_residual.result c.from_residual.ensures.1 in
    rw (p.1, p.2) (no_capacity c.in_err-capacity.ensures.none c.in_err-capacity.ensures.fault)

pub returns-in_err-text-clause-fault : goal.returns-in_err-text-clause-fault
returns-in_err-text-clause-fault g c =
    let p = err_from_is_err_and c.from_residual-in_err-text.result c.from_residual-in_err-text.ensures.1 in
    rw (p.1, p.2) (input_fails (elsewhere (MergeFails (IsCapacity c.args.matches.now)) _ _ _ c.in_err-text.ensures.elsewhere))

pub returns-then-is_empty-clause-fault : goal.returns-then-is_empty-clause-fault
returns-then-is_empty-clause-fault g c =
    let text = c.in_ok-text.ensures in
    let none : length c.in_ok-tables.tables.items ≡ 0 = search rules in
    input_fails (merge_of_none _ _ _ _ _ _ _ c.as_slice.ensures.value text.read text.ended text.within c.in_ok-tables.ensures.found none)

pub returns-in_err-join_tables-clause-fault : goal.returns-in_err-join_tables-clause-fault
returns-in_err-join_tables-clause-fault g c =
    let text = c.in_ok-text.ensures in
    let size : length c.in_ok-tables.tables.items ≡ length c.remove-first.new.self.items + 1 = search rules in
    let are = first_taken _ _ _ size c.remove-first.ensures.value c.remove-first.ensures.by_index.2 in
    let fails = c.in_err-join_tables.ensures.fault in
    let p = err_from_is_err_and c.from_residual-in_err-join_tables.result c.from_residual-in_err-join_tables.ensures.1 in
    rw (p.1, p.2) (input_fails (merge_of_join _ _ _ _ _ c.in_ok-capacity.capacity _ c.remove-first.result c.remove-first.new.self.items _ c.as_slice.ensures.value text.read text.ended text.within c.in_ok-capacity.ensures.given
    c.in_ok-tables.ensures.found are fails))

pub returns-clause-joined : goal.returns-clause-joined
returns-clause-joined g c =
    let text = c.in_ok-text.ensures in
    let size : length c.in_ok-tables.tables.items ≡ length c.remove-first.new.self.items + 1 = search rules in
    let are = first_taken _ _ _ size c.remove-first.ensures.value c.remove-first.ensures.by_index.2 in
    let first = c.remove-first.result in
    let taken = c.in_ok-join_tables.ensures.taken in
    let joined = c.in_ok-join_tables.ensures.joined in
    merges_tables _ _ _ _ _ c.in_ok-capacity.capacity _ first c.remove-first.new.self.items _ c.as_slice.ensures.value text.read text.ended text.within c.in_ok-capacity.ensures.given
    c.in_ok-tables.ensures.found are taken joined
