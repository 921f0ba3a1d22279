use Rattle.nb_table.proofs.Common.{◌∙◌, sym, ap, ap₂, subst, option_and_then, MAX_LENGTH, joined_onto, join_entry, IsShort, datagram_of, newly, handed_by}
use Rattle.nb_table.proofs.Changes.{short_onto}
use Rattle.nb_table.proofs.table.merging.merging_entries.joined_at.Goals as goal

pub handed-requires : goal.handed-requires
handed-requires g c =
    let v = g.O.Other.value c.args.other in
    let is = c.in_ok-joined.ensures ∙ ap (λ o. joined_onto join_entry o v) c.get-held.ensures in
    subst (IsShort MAX_LENGTH) (sym is) (short_onto MAX_LENGTH _ v (c.requires.own c.args.key) c.requires.other)

pub returns-clause-entry : goal.returns-clause-entry
returns-clause-entry g c = c.in_ok-joined.ensures ∙ ap (λ o. joined_onto join_entry o (g.O.Other.value c.args.other)) c.get-held.ensures

pub returns-clause-datagram : goal.returns-clause-datagram
returns-clause-datagram g c =
    let k = c.args.key in
    let is = c.in_ok-joined.ensures ∙ ap (λ o. joined_onto join_entry o (g.O.Other.value c.args.other)) c.get-held.ensures in
    c.in_ok-datagram.ensures
    ∙ ap₂ (λ o j. handed_by c.args.handing (newly (option_and_then (datagram_of k) o) (datagram_of k j))) c.get-held.ensures is
