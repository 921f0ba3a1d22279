use Rattle.nb_table.proofs.Common.{◌≡◌, ◌∙◌, is_some, true, sym, ap, subst, arith, key_cmp, key_cmp_total, key_cmp_exact, Contents, AreCounted, get_is, insert_is, len_is, remove_is}
use Rattle.std.specs.FinMap as maps
use Rattle.nb_table.specs.Shared.TreeLemmas.{taken_back}
use Rattle.nb_table.proofs.Limits.CountLemmas.{kept_held, kept_more, none_at, room_for_one}
use Rattle.nb_table.proofs.entries.Entries.insert.Goals as goal

-- ---- a held key

pub invariant_of-self-then-is_some : goal.invariant_of-self-then-is_some
invariant_of-self-then-is_some c =
    let m = c.self.inside.map in
    let s : Contents = maps.from_entries {R = key_cmp} m.entries in
    let held : is_some (maps.get s c.args.key) ≡ true = ap is_some (get_is key_cmp_total m c.args.key ∙ sym c.in_ok-before.ensures.old) ∙ sym c.is_some.ensures ∙ c.if-is_some.true in
    subst (AreCounted c.self.inside.counts) (sym (insert_is key_cmp_total key_cmp_exact m c.insert.new.self c.args.key c.args.entry c.in_ok-before.ensures.updates))
    (kept_held c.self.inside.counts s c.args.key c.args.entry held c.self.invariant)

pub returns-then-is_some-clause-before : goal.returns-then-is_some-clause-before
returns-then-is_some-clause-before c = rw (← c.self.view_is) (c.in_ok-before.ensures.old ∙ sym (get_is key_cmp_total c.self.inside.map c.args.key))

pub returns-then-is_some-clause-inserted : goal.returns-then-is_some-clause-inserted
returns-then-is_some-clause-inserted c = rw (← c.self.view_is) (insert_is key_cmp_total key_cmp_exact c.self.inside.map c.insert.new.self c.args.key c.args.entry c.in_ok-before.ensures.updates)

-- ---- a new key

pub count_more-requires : goal.count_more-requires
count_more-requires c =
    let m = c.self.inside.map in
    let s : Contents = maps.from_entries {R = key_cmp} m.entries in
    let size = len_is key_cmp_total key_cmp_exact m c.len-len.ensures.ordered in
    room_for_one c.self.inside.counts s c.args.key.ip (omega (arith, size, c.len-len.ensures.len, c.len-len.ensures.small)) c.self.invariant

pub invariant_of-self-in-Ok : goal.invariant_of-self-in-Ok
invariant_of-self-in-Ok c =
    let m = c.self.inside.map in
    let s : Contents = maps.from_entries {R = key_cmp} m.entries in
    let new = none_at (maps.get s c.args.key) (ap is_some (get_is key_cmp_total m c.args.key ∙ sym c.in_ok-before.ensures.old) ∙ sym c.is_some.ensures ∙ c.if-is_some.false) in
    subst (AreCounted c.count_more.new.counts) (sym (insert_is key_cmp_total key_cmp_exact m c.insert.new.self c.args.key c.args.entry c.in_ok-before.ensures.updates))
    (kept_more c.self.inside.counts c.count_more.new.counts s c.args.key c.args.entry new c.in-Ok.ensures.counted c.self.invariant)

pub invariant_of-self-in-Err : goal.invariant_of-self-in-Err
invariant_of-self-in-Err c =
    let m = c.self.inside.map in
    let s : Contents = maps.from_entries {R = key_cmp} m.entries in
    let new = none_at (maps.get s c.args.key) (ap is_some (get_is key_cmp_total m c.args.key ∙ sym c.in_ok-before.ensures.old) ∙ sym c.is_some.ensures ∙ c.if-is_some.false) in
    let back =
    remove_is key_cmp_total key_cmp_exact c.insert.new.self c.remove.new.self c.args.key c.remove.ensures.updates
    ∙ ap (λ t. maps.remove t c.args.key) (insert_is key_cmp_total key_cmp_exact m c.insert.new.self c.args.key c.args.entry c.in_ok-before.ensures.updates)
    ∙ taken_back key_cmp_total key_cmp_exact s c.args.key c.args.entry new in
    subst (λ o. AreCounted o (maps.from_entries {R = key_cmp} c.remove.new.self.entries)) (sym c.in-Err.ensures.kept) (subst (AreCounted c.self.inside.counts) (sym back) c.self.invariant)

pub returns-in-Ok-clause-before : goal.returns-in-Ok-clause-before
returns-in-Ok-clause-before c =
    let m = c.self.inside.map in
    let s : Contents = maps.from_entries {R = key_cmp} m.entries in
    rw (← c.self.view_is) (sym (none_at (maps.get s c.args.key) (ap is_some (get_is key_cmp_total m c.args.key ∙ sym c.in_ok-before.ensures.old) ∙ sym c.is_some.ensures ∙ c.if-is_some.false)))

pub returns-in-Ok-clause-inserted : goal.returns-in-Ok-clause-inserted
returns-in-Ok-clause-inserted c = rw (← c.self.view_is) (insert_is key_cmp_total key_cmp_exact c.self.inside.map c.insert.new.self c.args.key c.args.entry c.in_ok-before.ensures.updates)

pub returns-clause-kept : goal.returns-clause-kept
returns-clause-kept c =
    let m = c.self.inside.map in
    let s : Contents = maps.from_entries {R = key_cmp} m.entries in
    let new = none_at (maps.get s c.args.key) (ap is_some (get_is key_cmp_total m c.args.key ∙ sym c.in_ok-before.ensures.old) ∙ sym c.is_some.ensures ∙ c.if-is_some.false) in
    rw (← c.self.view_is)
    (remove_is key_cmp_total key_cmp_exact c.insert.new.self c.remove.new.self c.args.key c.remove.ensures.updates
    ∙ ap (λ t. maps.remove t c.args.key) (insert_is key_cmp_total key_cmp_exact m c.insert.new.self c.args.key c.args.entry c.in_ok-before.ensures.updates)
    ∙ taken_back key_cmp_total key_cmp_exact s c.args.key c.args.entry new)
