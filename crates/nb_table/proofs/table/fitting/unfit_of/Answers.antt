use Rattle.nb_table.proofs.Common.{◌≡◌, ◌-◌, ◌∙◌, ◌∷◌, ◌&&◌, Bool, true, false, not, Option, Some, None, refl, sym, ap, ap₂, subst, filter, map, slice_get, is_none, is_some, unwrap_or, entries_between, Included, Unbounded, Key, key_cmp, EntryValue, held_keys, of_source, not-true, not-false}
use Rattle.std.specs.FinMap as maps
use Rattle.nb_table.proofs.Limits.SourceLemmas.{Left, onward, onward_new, left_begun, left_next, none_unfit, one_out, one_in, first_in}
use Rattle.nb_table.proofs.table.fitting.unfit_of.Goals as goal

pub loop-key-init : goal.loop-key-init
loop-key-init c =
    let ip = c.args.ip in
    let es = maps.entries c.args.others.now in
    let s = c.args.entries.now in
    let p = λ (k : Key). of_source ip k && is_none (maps.get s k) in
    let is : c.into_iter-key-iterator.result ≡ onward ip es = c.into_iter-key-iterator.ensures.into_iter_gives ∙ c.range_from-key-items.ensures ∙ ap (λ k. entries_between key_cmp (Included k) Unbounded es) c.first_of.ensures in (
      ap₂ (slice_get {X = Key}) (ap (λ fs. filter p (map (λ e. e.0) fs)) is ∙ onward_new ip (λ k. is_none (maps.get s k)) es) refl,
      subst (Left ip) (sym is) (left_begun ip es (maps.entries_sorted c.args.others.now)),
    )

pub returns-then-ne : goal.returns-then-ne
returns-then-ne c =
    let ip = c.args.ip in
    let s = c.args.entries.now in
    let room = unwrap_or c.loop-key.known (c.args.most - held_keys (of_source ip) s) in
    let p = λ (k : Key). of_source ip k && is_none (maps.get s k) in
    let is = c.in-Some.ensures.steps in
    let e : Key × EntryValue = (c.in-Some.key.now, c.in-Some._entry.now) in
    let left = subst (Left ip) is c.loop-key.invariant.1 in
    sym (none_unfit ip (λ k. is_none (maps.get s k)) e c.next.new.self room left (not-true _ (sym c.ne.ensures ∙ c.if-ne.true)))
    ∙ sym (ap (λ fs. slice_get (filter p (map (λ f. f.0) fs)) room) is)
    ∙ c.loop-key.invariant.0

-- whether the tree has a key is whether the table lacks it
lacked : (o : Option EntryValue) (b : Bool) → is_some o ≡ b → is_none o ≡ not b
lacked None false h = refl
lacked None true h = absurd (cc h)
lacked (Some x) false h = absurd (cc h)
lacked (Some x) true h = refl

pub loop-key-preserved-then-contains_key : goal.loop-key-preserved-then-contains_key
loop-key-preserved-then-contains_key c =
    let ip = c.args.ip in
    let s = c.args.entries.now in
    let room = unwrap_or c.loop-key.known (c.args.most - held_keys (of_source ip) s) in
    let p = λ (k : Key). of_source ip k && is_none (maps.get s k) in
    let k = c.in-Some.key.now in
    let is = c.in-Some.ensures.steps in
    let e : Key × EntryValue = (k, c.in-Some._entry.now) in
    let left = subst (Left ip) is c.loop-key.invariant.1 in
    let held : is_none (maps.get s k) ≡ false = lacked (maps.get s k) true (sym c.contains_key.ensures ∙ c.if-contains_key.true) in
    let out : p k ≡ false = ap (λ b. of_source ip k && b) held ∙ ap (λ b. b && false) (not-false _ (sym c.ne.ensures ∙ c.if-ne.false)) in (
      sym (ap (λ fs. slice_get (filter p (map (λ f. f.0) fs)) room) is ∙ one_out p e c.next.new.self room out) ∙ c.loop-key.invariant.0,
      left_next ip e c.next.new.self left,
    )

pub returns-then-room-eq0 : goal.returns-then-room-eq0
returns-then-room-eq0 c =
    let s = c.args.entries.now in
    let p = λ (k : Key). of_source c.args.ip k && is_none (maps.get s k) in
    let k = c.in-Some.key.now in
    let e : Key × EntryValue = (k, c.in-Some._entry.now) in
    let new : is_none (maps.get s k) ≡ true = lacked (maps.get s k) false (sym c.contains_key.ensures ∙ c.if-contains_key.false) in
    let passes : p k ≡ true = ap₂ ◌&&◌ (not-false _ (sym c.ne.ensures ∙ c.if-ne.false)) new in
    sym (first_in p e c.next.new.self passes)
    ∙ sym (ap (λ fs. slice_get (filter p (map (λ f. f.0) fs)) 0) c.in-Some.ensures.steps)
    ∙ ap (slice_get (filter p (map (λ f. f.0) c.loop-key.key-iterator))) (sym (sym c.known_room-room.ensures ∙ c.if-room-eq0.true))
    ∙ c.loop-key.invariant.0

pub loop-key-preserved : goal.loop-key-preserved
loop-key-preserved c =
    let ip = c.args.ip in
    let s = c.args.entries.now in
    let room = unwrap_or c.loop-key.known (c.args.most - held_keys (of_source ip) s) in
    let p = λ (k : Key). of_source ip k && is_none (maps.get s k) in
    let k = c.in-Some.key.now in
    let is = c.in-Some.ensures.steps in
    let e : Key × EntryValue = (k, c.in-Some._entry.now) in
    let left = subst (Left ip) is c.loop-key.invariant.1 in
    let new : is_none (maps.get s k) ≡ true = lacked (maps.get s k) false (sym c.contains_key.ensures ∙ c.if-contains_key.false) in
    let passes : p k ≡ true = ap₂ ◌&&◌ (not-false _ (sym c.ne.ensures ∙ c.if-ne.false)) new in (
      sym (ap (λ fs. slice_get (filter p (map (λ f. f.0) fs)) room) is
          ∙ ap (slice_get (filter p (map (λ f. f.0) (e ∷ c.next.new.self)))) (sym c.known_room-room.ensures)
          ∙ one_in p e c.next.new.self c.known_room-room.result passes c.if-room-eq0.false) ∙ c.loop-key.invariant.0,
      left_next ip e c.next.new.self left,
    )
