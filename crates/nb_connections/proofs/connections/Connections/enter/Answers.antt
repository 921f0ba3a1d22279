use Rattle.std.proofs.Common.{◌≡◌, ◌≤◌, ◌+◌, ◌-◌, ◌^◌, min, List, ℕ, cond, refl, sym, ap, subst, ◌∙◌, arith, rules, [], Some, None}
use Rattle.std.proofs.lemmas.Grind.{common_steps}
use Rattle.std.specs.BTreeMap.{btree_map_len, get, is_at}
use Rattle.nb_session.specs.Cutting.{ArePackets}
use Rattle.nb_connections.specs.declared.limits.TheConstants.{MAX_DIRECTIONS, MAX_KEPT}
use Rattle.nb_connections.specs.declared.taken.Reason.TheVariants.{NoStart, TooMany}
use Rattle.nb_connections.specs.Ends.{ends_cmp, same_ends}
use Rattle.nb_connections.specs.Reading.{part_of}
use Rattle.nb_connections.specs.Channels.{kept_of}
use Rattle.nb_connections.specs.Directions.{kept_by, kept_in, room_for}
use Rattle.nb_connections.proofs.DirectionsLemmas.{at, bounded_in, bounded_new, enters_left, enters_read, kept_set, left_unsaid, reads_held, reads_new}
use Rattle.nb_connections.proofs.connections.Connections.enter.Goals as goal

pub returns-in-Some-clause-enters : goal.returns-in-Some-clause-enters
returns-in-Some-clause-enters c =
    let old = c.args.self.now in
    let was = c.in-Some.channel.now in
    let new = c.take-taken.new.self in
    let others = c.saturating_sub-others.result in
    let there : at old c.args.ends ≡ Some was = sym c.in-Some.ensures.value in
    let left = c.saturating_sub-others.ensures ∙ ap (λ (n : ℕ). old.kept - n) c.kept-before.ensures in
    enters_read old _ new c.args.ends c.args.opens (part_of c.args.piece.now) c.take-taken.new.ready.items c.take-taken.result
    (λ e. ((c.get_mut.follows.holds new).3 (search rules)).0 e)
    (λ bounded.
    let apart = kept_set (λ q. is_at (ends_cmp c.args.ends) q) old.channels.entries was new there in
    let b = bounded_in old.kept (kept_of was) (kept_of new) apart.rest others c.saturating_sub-room.result c.saturating_add-self-in-Some.result
    (bounded.0 ∙ apart.before) bounded.1 left c.saturating_sub-room.ensures (λ fit. c.take-taken.ensures.kept (omega (arith, c.begin-lost.ensures.kept, fit)))
    (c.saturating_add-self-in-Some.ensures ∙ ap (λ (n : ℕ). min (others + n) (2 ^ 64 - 1)) c.kept.ensures) in
    (b.0 ∙ sym (ap kept_in (c.get_mut.follows.holds new).0 ∙ apart.after), b.1))
    (reads_held was new c.args.ends c.args.opens (part_of c.args.piece.now) c.take-taken.new.ready.items (kept_of c.begin-lost.new.self) c.saturating_sub-room.result (room_for old c.args.ends) c.take-taken.result
    (at old c.args.ends) there c.begin-lost.ensures.kept (c.saturating_sub-room.ensures ∙ ap (λ (n : ℕ). MAX_KEPT - n) (left ∙ ap (λ (n : ℕ). old.kept - n) (ap kept_by (sym there))))
    (λ direction grown. c.take-taken.ensures.follows _ (c.begin-lost.ensures.begun direction grown)))

pub returns-then-not-may_begin-clause-enters : goal.returns-then-not-may_begin-clause-enters
returns-then-not-may_begin-clause-enters c =
    let none : get ends_cmp c.args.self.now.channels c.args.ends ≡ None = grind (arith, common_steps, c.get_mut.follows.holds-at-none, c.in-None.ensures.value) in
    enters_left c.args.self.now _ c.args.ends _ c.args.opens (part_of c.args.piece.now) _ _ (ap (λ m. m.entries) c.get_mut.follows.holds-at-none) refl c.clear.ensures.items (NoStart, (none, search rules), c.left_out.ensures)

pub returns-then-len-ge-MAX_DIRECTIONS-clause-enters : goal.returns-then-len-ge-MAX_DIRECTIONS-clause-enters
returns-then-len-ge-MAX_DIRECTIONS-clause-enters c =
    let none : get ends_cmp c.args.self.now.channels c.args.ends ≡ None = grind (arith, common_steps, c.get_mut.follows.holds-at-none, c.in-None.ensures.value) in
    let many : MAX_DIRECTIONS ≤ btree_map_len c.args.self.now.channels = omega (arith, c.if-len-ge-MAX_DIRECTIONS.true, c.len.ensures.len, ap btree_map_len c.get_mut.follows.holds-at-none) in
    enters_left c.args.self.now _ c.args.ends _ c.args.opens (part_of c.args.piece.now) _ _ (ap (λ m. m.entries) c.get_mut.follows.holds-at-none) refl c.clear.ensures.items (TooMany, (none, many), c.left_out-then-len-ge-MAX_DIRECTIONS.ensures)

pub returns-in_err-admit-clause-enters : goal.returns-in_err-admit-clause-enters
returns-in_err-admit-clause-enters c =
    enters_left c.args.self.now c.admit.new.self c.args.ends _ c.args.opens (part_of c.args.piece.now) _ _
    (c.in_err-admit.ensures.err.1 ∙ ap (λ m. m.entries) c.get_mut.follows.holds-at-none) c.in_err-admit.ensures.counts.0 c.in_err-admit.ensures.err.0
    (left_unsaid _ c.args.self.now c.args.ends _ c.args.opens c.args.piece.now.bytes.now c.from_residual.result c.from_residual.ensures.1)

pub returns-clause-enters : goal.returns-clause-enters
returns-clause-enters c =
    let old = c.args.self.now in
    let new = c.take-taken-2.new.self in
    let none : get ends_cmp old.channels c.args.ends ≡ None = grind (arith, common_steps, c.get_mut.follows.holds-at-none, c.in-None.ensures.value) in
    let empty = ap kept_by none in
    enters_read old _ new c.args.ends c.args.opens (part_of c.args.piece.now) c.admit.new.ready.items c.take-taken-2.result
    (λ e. c.in_ok-admit.ensures.ok e ∙ ap (λ x. cond (same_ends c.args.ends e) (Some new) x) (ap (λ m. get ends_cmp m e) c.get_mut.follows.holds-at-none))
    (λ bounded.
    let b = bounded_new old.kept c.admit.new.self.kept (kept_of c.new-channel.result) (kept_of new) c.saturating_sub-room-2.result c.saturating_add-self-2.result
    c.in_ok-admit.ensures.counts.0 bounded.1 c.saturating_sub-room-2.ensures c.new-channel.ensures.kept c.take-taken-2.ensures.kept
    (c.saturating_add-self-2.ensures ∙ ap (λ (n : ℕ). min (c.admit.new.self.kept + n) (2 ^ 64 - 1)) c.kept-kept.ensures) in
    let none-there : get ends_cmp c.get_mut.follows.lender-at-none c.args.ends ≡ None = grind (arith, common_steps, c.get_mut.follows.holds-at-none, c.in-None.ensures.value) in
    (b.0 ∙ ap (λ (n : ℕ). n + kept_of new) (bounded.0 ∙ ap (λ m. kept_in m.entries) (sym c.get_mut.follows.holds-at-none)) ∙ sym (c.in_ok-admit.ensures.sum none-there), b.1))
    (reads_new new c.args.ends c.args.opens (part_of c.args.piece.now) c.admit.new.ready.items (kept_of c.new-channel.result) c.saturating_sub-room-2.result (room_for old c.args.ends) c.take-taken-2.result
    (at old c.args.ends) none c.new-channel.ensures.kept (omega (arith, c.saturating_sub-room-2.ensures, empty))
    (let got = c.take-taken-2.ensures.follows (c.args.piece.now.number, []) c.new-channel.ensures.grown in
    (got.0, subst (λ (l : List ℕ). ArePackets got.0.packets l) (sym c.in_ok-admit.ensures.ready) got.1, got.2, got.3)))
