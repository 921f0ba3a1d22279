use Rattle.nb_table.proofs.Common.{◌∙◌, sym, ap, IfOk-weaker, on_ok_weaker, on_err_weaker, MAX_LENGTH, joined_onto, join_entry, key_cmp_total, key_cmp_exact}
use Rattle.std.specs.FinMap as maps
use Rattle.nb_table.proofs.Joins.{put_same}
use Rattle.nb_table.proofs.Changes.{short_join}
use Rattle.nb_table.proofs.Limits.MergingLemmas.{handed_held}
use Rattle.nb_table.proofs.table.merging.merging_entries.join_in_place.Goals as goal

pub join_in_place-requires-clause-own : goal.join_in_place-requires-clause-own
join_in_place-requires-clause-own g c = c.requires.own c.args.key c.in-Some.entry.now (sym c.in-Some.ensures.value)

pub join_in_place-requires-clause-joined : goal.join_in_place-requires-clause-joined
join_in_place-requires-clause-joined g c =
    let at = sym c.in-Some.ensures.value in
    rw c.as_entry.ensures (short_join MAX_LENGTH c.in-Some.entry.now (g.O.Other.value c.args.other) (c.requires.own c.args.key c.in-Some.entry.now at) c.requires.other)

pub returns-in-Some-clause-joined : goal.returns-in-Some-clause-joined
returns-in-Some-clause-joined g c =
    let at = sym c.in-Some.ensures.value in
    let lent = rw c.in-Some.is at c.get_mut.follows.holds c.join_in_place.new.self in
    on_ok_weaker c.join_in_place.result (λ joined.
    lent
    ∙ ap (maps.insert c.args.entries.now c.args.key) (joined ∙ ap (λ o. joined_onto join_entry o (g.O.Other.value c.args.other)) (sym at))) (rw c.as_entry.ensures at c.join_in_place.ensures.joined)

pub returns-in-Some-clause-datagram : goal.returns-in-Some-clause-datagram
returns-in-Some-clause-datagram g c =
    let at = sym c.in-Some.ensures.value in
    IfOk-weaker c.join_in_place.result _ _
    (λ made is. handed_held c.args.handing c.args.entries.now c.args.key (g.O.Other.value c.args.other) c.in-Some.entry.now made at is)
    (rw c.as_entry.ensures at c.join_in_place.ensures.datagram)

pub returns-in-Some-clause-err : goal.returns-in-Some-clause-err
returns-in-Some-clause-err g c =
    let lent = rw c.in-Some.is at c.get_mut.follows.holds c.join_in_place.new.self in
    on_err_weaker c.join_in_place.result
    (λ same. put_same key_cmp_total key_cmp_exact c.args.entries.now (c.get_mut.follows.lender c.join_in_place.new.self) c.args.key c.in-Some.entry.now c.join_in_place.new.self c.in-Some.ensures.value same lent)
    c.join_in_place.ensures.err

pub returns-in_ok-insert_new-in-None-clause-joined : goal.returns-in_ok-insert_new-in-None-clause-joined
returns-in_ok-insert_new-in-None-clause-joined g c =
    let put = rw c.get_mut.follows.holds-at-none at c.in_ok-insert_new-in-None.ensures.inserted in
    put ∙ ap (maps.insert c.args.entries.now c.args.key) (rw c.get_mut.follows.holds-at-none at c.in_ok-joined-in-None.ensures.entry)
