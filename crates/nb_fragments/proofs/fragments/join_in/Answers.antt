use Rattle.std.proofs.Common.{◌≡◌, ◌<◌, ◌∙◌, ap, arith, rules, subst, sym, Ok, None}
use Rattle.std.proofs.lemmas.Grind.{common_steps}
use Rattle.std.specs.BTreeMap.{BTreeMap, btree_map_len, get}
use Rattle.nb_entries.specs.Cover.{CoverValue}
use Rattle.nb_entries.specs.CoverChange.{with_piece}
use Rattle.nb_fragments.specs.declared.limits.TheConstants.{KEYS}
use Rattle.nb_fragments.specs.Code.Kept.{Joins, charge_of}
use Rattle.nb_fragments.specs.Keys.{key_cmp}
use Rattle.nb_fragments.specs.Taking.{IsTaken}
use Rattle.nb_fragments.specs.declared.key.Key.{Key}
use Rattle.nb_fragments.specs.declared.waiting.Waiting.{Waiting}
use Rattle.nb_fragments.proofs.JoinLemmas.{charge_held, charge_kept, charge_new, few_more, is_joined, joined_held, joined_new, kept_held}
use Rattle.nb_fragments.proofs.fragments.join_in.Goals as goal

pub returns-in-Some-clause-ok : goal.returns-in-Some-clause-ok
returns-in-Some-clause-ok c =
    let through = c.get_mut.follows.holds c.join.new.self in
    joined_held c.args.waiting.now _ c.args.now c.args.key c.args.piece.now c.in-Some.kept.now c.join.new.self c.join.result (sym c.in-Some.ensures.value)
    (through.3 (search rules)).0 through.2 c.join.ensures.start c.join.ensures.joined c.join.ensures.taken

pub returns-in-Some-clause-err : goal.returns-in-Some-clause-err
returns-in-Some-clause-err c =
    let through = c.get_mut.follows.holds c.join.new.self in
    kept_held c.args.waiting.now (c.get_mut.follows.lender c.join.new.self) c.args.key c.in-Some.kept.now c.join.new.self c.join.result (sym c.in-Some.ensures.value) (through.3 (search rules)).0 c.join.ensures.kept

pub returns-in-Some-clause-charge : goal.returns-in-Some-clause-charge
returns-in-Some-clause-charge c =
    charge_held c.args.waiting.now (c.get_mut.follows.lender c.join.new.self) c.args.key c.in-Some.kept.now c.join.new.self _ _ _ c.join.result (sym c.in-Some.ensures.value)
    (c.get_mut.follows.holds c.join.new.self).0 c.join.ensures.charge

pub returns-in-Some-clause-less : goal.returns-in-Some-clause-less
returns-in-Some-clause-less c =
    charge_kept c.args.waiting.now (c.get_mut.follows.lender c.join.new.self) c.args.key c.in-Some.kept.now c.join.new.self c.join.result (sym c.in-Some.ensures.value)
    (c.get_mut.follows.holds c.join.new.self).0 c.join.ensures.kept

pub returns-in-Some-clause-full : goal.returns-in-Some-clause-full
returns-in-Some-clause-full c = is_joined c.in-Some.kept.now.cover c.join.new.self.cover c.join.result c.join.ensures.taken

pub returns-clause-ok : goal.returns-clause-ok
returns-clause-ok c =
    let piece = c.args.piece.now in
    let v = c.join-2.new.self in
    let taken = c.in_ok-taken.taken in
    let there = c.get_mut.follows.lender-at-none in
    let none : get key_cmp there c.args.key ≡ None = grind (arith, common_steps, c.get_mut.follows.holds-at-none, c.in-None.ensures.value) in
    let less : btree_map_len there < KEYS = omega (arith, c.if-len-ge-KEYS.false, c.len.ensures.len) in
    subst (λ (m : BTreeMap Key Waiting). Joins m c.insert.new.self c.args.now c.args.key piece taken) c.get_mut.follows.holds-at-none
    (joined_new there c.insert.new.self c.args.now c.args.key piece v taken none
    c.in_ok-insert.ensures.updates.0
    (few_more c.in_ok-insert.field-0 _ _ c.in_ok-insert.ensures.len less)
    (c.join-2.ensures.start ∙ c.new-first.ensures.start)
    (c.in_ok-taken.ensures.joined ∙ ap (λ (a : CoverValue). with_piece a piece) c.new-first.ensures.cover)
    (subst (λ (a : CoverValue). IsTaken a v.cover taken) c.new-first.ensures.cover c.in_ok-taken.ensures.taken))

pub returns-clause-charge : goal.returns-clause-charge
returns-clause-charge c = λ fits.
    let put = charge_new c.get_mut.follows.lender-at-none c.insert.new.self c.args.key c.join-2.new.self c.insert.ensures.was_ordered c.in_ok-insert.ensures.entries in
    let same = ap charge_of c.get_mut.follows.holds-at-none in
    let grown = c.in_ok-taken.ensures.charge fits in
    omega (arith, put, same, grown, c.new-first.ensures.bytes)

pub returns-clause-full : goal.returns-clause-full
returns-clause-full c = is_joined c.new-first.result.cover c.join-2.new.self.cover (Ok c.in_ok-taken.taken) c.in_ok-taken.ensures.taken
