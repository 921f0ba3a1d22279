use Rattle.nb_member.proofs.Common.{sym, ap, ◌∙◌, err_from_is_err_and, Key, core_of, TableValue, Moments, begun}
use Rattle.std.specs.FinMap as maps
use Rattle.nb_member.proofs.MemberLemmas.Timers.{begun_already, known_key, new_key, one_set_after, new_needs_memory, table_restored}
use Rattle.nb_member.proofs.timed_table.TimedTable.insert.Goals as goal

pub returns-in_err-change-clause-refused : goal.returns-in_err-change-clause-refused
returns-in_err-change-clause-refused c =
    let p = err_from_is_err_and c.from_residual.result c.from_residual.ensures.1 in
    rw (p.1, p.2) (rw (← c.self.view_is) c.in_err-change.ensures.refused)

pub invariant_of-self-then-len-keys : goal.invariant_of-self-then-len-keys
invariant_of-self-then-len-keys c =
    let f = c.args.fragment.now in
    let t = c.self.inside.table in
    let known = known_key t c.insert_with.new.self f c.len-keys.result c.len.result c.len-keys.ensures.count c.len.ensures.count c.in_ok-change.ensures.joined c.if-len-keys.true in
    let already = begun_already c.self.inside.starts f.key c.args.moment (c.self.invariant f.key ∙ known) in
    λ k.
    sym (ap (λ (m : Moments). maps.contains_key m k) already)
    ∙ (one_set_after t.contents c.self.inside.starts (core_of f) c.args.moment c.self.invariant k
    ∙ sym (ap (λ (u : TableValue). maps.contains_key u.contents k) c.in_ok-change.ensures.joined))

pub returns-then-len-keys-clause-joined : goal.returns-then-len-keys-clause-joined
returns-then-len-keys-clause-joined c =
    let f = c.args.fragment.now in
    let known = known_key c.self.inside.table c.insert_with.new.self f c.len-keys.result c.len.result c.len-keys.ensures.count c.len.ensures.count c.in_ok-change.ensures.joined c.if-len-keys.true in
    let already = begun_already c.self.inside.starts f.key c.args.moment (c.self.invariant f.key ∙ known) in
    rw (← c.self.view_is) (λ i. record { table = c.in_ok-change.ensures.joined i; moments = sym already i })

pub begin_or_drop-requires : goal.begin_or_drop-requires
begin_or_drop-requires c =
    let f = c.args.fragment.now in
    let new = new_key c.self.inside.table c.insert_with.new.self f c.len-keys.result c.len.result c.len-keys.ensures.count c.len.ensures.count c.in_ok-change.ensures.joined c.if-len-keys.false in
    ap (λ (j : Key). maps.contains_key c.self.inside.starts j) c.key.ensures ∙ (c.self.invariant f.key ∙ new)

pub invariant_of-self-in_err-begin_or_drop : goal.invariant_of-self-in_err-begin_or_drop
invariant_of-self-in_err-begin_or_drop c =
    let f = c.args.fragment.now in
    let known = c.in_err-begin_or_drop.ensures in
    let new = new_key c.self.inside.table c.insert_with.new.self f c.len-keys.result c.len.result c.len-keys.ensures.count c.len.ensures.count c.in_ok-change.ensures.joined c.if-len-keys.false in
    let table = table_restored c.self.inside.table c.insert_with.new.self c.begin_or_drop.new.table f c.key.result c.key.ensures c.in_ok-change.ensures.joined known.dropped new in
    λ k.
    ap (λ (m : Moments). maps.contains_key m k) known.still
    ∙ (c.self.invariant k ∙ sym (ap (λ (t : TableValue). maps.contains_key t.contents k) table))

pub returns-in_err-begin_or_drop-clause-refused : goal.returns-in_err-begin_or_drop-clause-refused
returns-in_err-begin_or_drop-clause-refused c =
    let f = c.args.fragment.now in
    let new = new_key c.self.inside.table c.insert_with.new.self f c.len-keys.result c.len.result c.len-keys.ensures.count c.len.ensures.count c.in_ok-change.ensures.joined c.if-len-keys.false in
    let p = err_from_is_err_and c.from_residual-in_err-begin_or_drop.result c.from_residual-in_err-begin_or_drop.ensures.1 in
    rw (p.1, p.2) (rw (← c.self.view_is) (let needs = new_needs_memory c.self.inside.table f c.in_ok-change.ensures.taken new in (needs.0, (needs.1, needs.2, needs.3))))

pub returns-in_err-begin_or_drop-clause-kept : goal.returns-in_err-begin_or_drop-clause-kept
returns-in_err-begin_or_drop-clause-kept c =
    let f = c.args.fragment.now in
    let known = c.in_err-begin_or_drop.ensures in
    let new = new_key c.self.inside.table c.insert_with.new.self f c.len-keys.result c.len.result c.len-keys.ensures.count c.len.ensures.count c.in_ok-change.ensures.joined c.if-len-keys.false in
    let table = table_restored c.self.inside.table c.insert_with.new.self c.begin_or_drop.new.table f c.key.result c.key.ensures c.in_ok-change.ensures.joined known.dropped new in
    let p = err_from_is_err_and c.from_residual-in_err-begin_or_drop.result c.from_residual-in_err-begin_or_drop.ensures.1 in
    rw p.1 (rw (← c.self.view_is) (λ i. record { table = table i; moments = known.still i }))

pub invariant_of-self-2 : goal.invariant_of-self-2
invariant_of-self-2 c =
    let known = c.in_ok-begin_or_drop.ensures in
    let started = known.begun ∙ ap (λ (j : Key). begun c.self.inside.starts j c.args.moment) c.key.ensures in
    let table = known.kept ∙ c.in_ok-change.ensures.joined in
    λ k.
    ap (λ (m : Moments). maps.contains_key m k) started
    ∙ (one_set_after c.self.inside.table.contents c.self.inside.starts (core_of c.args.fragment.now) c.args.moment c.self.invariant k
    ∙ sym (ap (λ (t : TableValue). maps.contains_key t.contents k) table))
