use Rattle.nb_table.proofs.Common.{◌≤◌, ◌∙◌, sym, ap, subst, arith, rules, Err, MatchOption-at_none, core_of, MAX_LENGTH, Contents, TableValue, KeepsLimits, DataChange, Refuses, join_one, IfErr}
use Rattle.nb_table.specs.Change.{IsChange}
use Rattle.nb_table.specs.Insert.{Takes}
use Rattle.nb_table.proofs.Changes.{short_more, memory_alone, spared, insert_keeps, change_at}
use Rattle.nb_table.proofs.table.Table.insert_with.Goals.{After-from_residual}
use Rattle.nb_table.proofs.table.Table.insert_with.Goals as goal

pub insert_fragment-requires-clause-fragment : goal.insert_fragment-requires-clause-fragment
insert_fragment-requires-clause-fragment c =
    let most : c.self.inside.longest ≤ MAX_LENGTH = search rules in
    let takes = MatchOption-at_none (Takes c.args.self.now c.args.fragment.now) (Refuses c.args.self.now c.args.fragment.now) c.in_default.is c.refusal_of_lent.ensures.refusal in
    let short = takes.passes.short in
    let limit = ap (λ (t : TableValue). t.limits.longest) c.self.view_is in
    omega (arith, short, most, limit)

pub insert_fragment-requires-clause-entry : goal.insert_fragment-requires-clause-entry
insert_fragment-requires-clause-entry c e g =
    let most : c.self.inside.longest ≤ MAX_LENGTH = search rules in
    short_more c.self.inside.longest MAX_LENGTH e most (c.self.invariant.short c.args.fragment.now.key e g)

-- ---- refused

pub returns-in-Some-clause-without_memory : goal.returns-in-Some-clause-without_memory
returns-in-Some-clause-without_memory c passes spares =
    spared {X = DataChange} (Err c.in-Some.fault) c.args.self.now c.args.fragment.now c.in-Some.ensures.refusal passes spares

refuses : (c : After-from_residual) → IfErr c.from_residual.result (Refuses c.args.self.now c.args.fragment.now)
refuses c =
    let t = c.args.self.now in
    let takes = MatchOption-at_none (Takes t c.args.fragment.now) (Refuses t c.args.fragment.now) c.in_default.is c.refusal_of_lent.ensures.refusal in
    memory_alone c.from_residual.result (Refuses t c.args.fragment.now) c.from_residual.ensures.1
    (takes.passes, (takes.room, rw (← c.self.view_is) c.in_err-change.ensures.needed, takes.source_room))

pub returns-in_err-change-clause-refused : goal.returns-in_err-change-clause-refused
returns-in_err-change-clause-refused c = refuses c

pub returns-in_err-change-clause-without_memory : goal.returns-in_err-change-clause-without_memory
returns-in_err-change-clause-without_memory c passes spares =
    spared c.from_residual.result c.args.self.now c.args.fragment.now (refuses c) passes spares

-- ---- taken in

pub invariant_of-self-2 : goal.invariant_of-self-2
invariant_of-self-2 c =
    let old : TableValue = record { contents = c.self.inside.entries; limits = record { keys = c.self.inside.keys; per_source = c.self.inside.per_source; longest = c.self.inside.longest } } in
    let f = c.args.fragment.now in
    let takes : Takes old f = rw c.self.view_is (MatchOption-at_none (Takes c.args.self.now f) (Refuses c.args.self.now f) c.in_default.is c.refusal_of_lent.ensures.refusal) in
    subst (λ t. KeepsLimits (record { contents = t; limits = old.limits })) (sym c.in_ok-change.ensures.joined)
    (insert_keeps old (core_of f) c.self.invariant takes.passes.short takes.source_room takes.room)

pub returns-clause-joined : goal.returns-clause-joined
returns-clause-joined c =
    let limits = c.self.inside in
    let contents = c.in_ok-change.ensures.joined ∙ sym (join_one c.self.inside.entries (core_of c.args.fragment.now)) in
    rw (← c.self.view_is) (λ i. record { contents = contents i; limits = record { keys = limits.keys; per_source = limits.per_source; longest = limits.longest } })

pub returns-clause-change : goal.returns-clause-change
returns-clause-change c =
    let t : Contents = c.self.inside.entries in
    let k = c.args.fragment.now.key in
    let told = c.in_ok-change.ensures.change in
    let at = change_at t k _ told.0 told.1 in
    rw (← c.self.view_is) (told.0, subst (λ v. IsChange t v k told.0) (sym c.in_ok-change.ensures.joined) at, told.2)
