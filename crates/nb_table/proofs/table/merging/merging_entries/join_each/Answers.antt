use Rattle.nb_table.proofs.Common.{◌++◌, ◌∷◌, refl, sym, ◌∙◌, ap, subst, AllByRecursion, MAX_LENGTH, join_entry, IsShort, joined_each, handed, with_entry, taken_back}
use Rattle.nb_table.proofs.Changes.{on_any_err}
use Rattle.nb_table.proofs.Limits.MergingLemmas.{one_more_short, handed_turn}
use Rattle.nb_table.proofs.table.merging.merging_entries.join_each.Goals as goal

pub returns-in_default-clause-joined : goal.returns-in_default-clause-joined
returns-in_default-clause-joined g c = ap (joined_each join_entry c.args.entries.now) (sym c.in_default.ensures)

pub returns-in_default-clause-handed : goal.returns-in_default-clause-handed
returns-in_default-clause-handed g c = c.new-datagrams.ensures.items ∙ ap (handed c.args.handing c.args.entries.now) (sym c.in_default.ensures)

pub loop-next_key-init : goal.loop-next_key-init
loop-next_key-init g c =
    let m = c.args.entries.now in
    let short = subst (AllByRecursion (λ e. IsShort MAX_LENGTH e.1)) c.in-Some.ensures c.requires.other in
    record {
      short = c.requires.own;
      other_short = short.0;
      others_short = short.1;
      joined = sym (ap (joined_each join_entry m) c.in-Some.ensures);
      handed =
          ap (λ ds. ds ++ handed c.args.handing m ((c.in-Some.key, g.O.Entry.Other.value c.in-Some.other) ∷ g.O.Others.left c.next_entry.new.self)) c.new-datagrams.ensures.items
          ∙ sym (ap (handed c.args.handing m) c.in-Some.ensures);
      noted = refl;
    }

pub join_noted-requires-clause-own : goal.join_noted-requires-clause-own
join_noted-requires-clause-own g c = c.loop-next_key.invariant.short

pub join_noted-requires-clause-other : goal.join_noted-requires-clause-other
join_noted-requires-clause-other g c = c.loop-next_key.invariant.other_short

pub loop-next_key-preserved : goal.loop-next_key-preserved
loop-next_key-preserved g c =
    let inv = c.loop-next_key.invariant in
    let m = c.loop-next_key.entries in
    let k = c.loop-next_key.key in
    let e = g.O.Entry.Other.value c.loop-next_key.other in
    let new = c.join_noted.new.entries in
    let joined = c.in_ok-join_noted.ensures.joined in
    let short = subst (AllByRecursion (λ e. IsShort MAX_LENGTH e.1)) c.in-Some-next_entry.ensures inv.others_short in
    record {
      short = one_more_short MAX_LENGTH m new k e inv.short inv.other_short joined;
      other_short = short.0;
      others_short = short.1;
      joined =
          ap (λ q. joined_each join_entry q ((c.in-Some-next_entry.next_key, g.O.Entry.Other.value c.in-Some-next_entry.next) ∷ g.O.Others.left c.next_entry-in-loop-next_key.new.self)) joined
          ∙ sym (ap (joined_each join_entry (with_entry m k e)) c.in-Some-next_entry.ensures)
          ∙ inv.joined;
      handed =
          sym (ap (λ es. c.join_noted.new.datagrams.items ++ handed c.args.handing new es) c.in-Some-next_entry.ensures)
          ∙ handed_turn c.args.handing m new c.loop-next_key.datagrams.items c.join_noted.new.datagrams.items k e (g.O.Others.left c.loop-next_key.others) joined c.in_ok-join_noted.ensures.handed
          ∙ inv.handed;
      noted = c.join_noted.ensures.noted ∙ inv.noted;
    }

pub returns-in_err-join_noted-clause-noted : goal.returns-in_err-join_noted-clause-noted
returns-in_err-join_noted-clause-noted g c = on_any_err c.from_residual.result _ (c.join_noted.ensures.noted ∙ c.loop-next_key.invariant.noted)

pub returns-in_err-join_last-clause-noted : goal.returns-in_err-join_last-clause-noted
returns-in_err-join_last-clause-noted g c =
    on_any_err c.from_residual-in_err-join_last.result _
    (ap (λ t. taken_back t c.loop-next_key.changes.items) c.in_err-join_last.ensures.err ∙ c.loop-next_key.invariant.noted)

pub returns-clause-joined : goal.returns-clause-joined
returns-clause-joined g c =
    let m = with_entry c.loop-next_key.entries c.loop-next_key.key (g.O.Entry.Other.value c.loop-next_key.other) in
    c.in_ok-join_last.ensures.joined ∙ sym (ap (joined_each join_entry m) c.in_default-next_entry.ensures) ∙ c.loop-next_key.invariant.joined

pub returns-clause-handed : goal.returns-clause-handed
returns-clause-handed g c =
    let l = c.loop-next_key in
    c.in_ok-join_last.ensures.handed
    ∙ sym (ap (λ es. l.datagrams.items ++ handed c.args.handing l.entries ((l.key, g.O.Entry.Other.value l.other) ∷ es)) c.in_default-next_entry.ensures)
    ∙ l.invariant.handed
