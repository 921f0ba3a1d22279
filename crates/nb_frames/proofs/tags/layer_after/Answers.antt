use Rattle.std.proofs.Common.{◌≡◌, ◌%◌, true, false, length, arith, ap, sym, ◌∙◌, ℕ}
use Rattle.nb_frames.specs.Fields.{word_at}
use Rattle.nb_frames.specs.Tags.{is_tag, follows}
use Rattle.nb_frames.proofs.TagsLemmas.{cut_there, type_there, tag_there, tag_passed, vlan_passed, whole_tag, no_tag, cut_tag, all_vlans, last_vlans}
use Rattle.nb_frames.proofs.tags.layer_after.Goals as goal

pub tags-preserved : goal.tags-preserved
tags-preserved c =
    let tag : is_tag (word_at c.args.frame.now c.tags.place.at) ≡ true = cc in
    let p = c.in_tag-place.ensures in
    record {
      vlans = rw (p.0, p.1) (vlan_passed _ _ _ _ _ _ _ _ (omega arith) (whole_tag _ _ _ c.if-frame-place.false tag) (ap (λ (n : ℕ). n % 0x1000) c.word.ensures)
          c.tags.invariant.vlans c.push.ensures.items);
      network = rw (p.0, p.1) (sym (tag_passed _ _ _ _ c.if-most-eq0.false c.tags-test.true tag) ∙ c.tags.invariant.network);
      room = omega arith;
      before = omega arith;
      bounded = omega arith;
    }

pub returns-then-not-is_tag-clause-vlans : goal.returns-then-not-is_tag-clause-vlans
returns-then-not-is_tag-clause-vlans c =
    let none : is_tag (word_at c.args.frame.now c.tags.place.at) ≡ false = cc in
    all_vlans _ _ _ _ _ _ (no_tag _ _ _ none) c.tags.invariant.vlans

pub returns-then-not-is_tag-clause-network : goal.returns-then-not-is_tag-clause-network
returns-then-not-is_tag-clause-network c =
    let none : is_tag (word_at c.args.frame.now c.tags.place.at) ≡ false = cc in
    c.follows-network.ensures ∙ ap (λ (k : ℕ). follows c.args.frame.now k c.tags.place.next) c.word-kind.ensures
    ∙ sym (type_there _ c.tags.most _ _ c.tags-test.true none) ∙ c.tags.invariant.network

pub returns-then-most-eq0-clause-vlans : goal.returns-then-most-eq0-clause-vlans
returns-then-most-eq0-clause-vlans c = last_vlans _ _ _ _ _ _ (omega (arith, c.if-most-eq0.true)) c.tags.invariant.vlans

pub returns-then-most-eq0-clause-network : goal.returns-then-most-eq0-clause-network
returns-then-most-eq0-clause-network c =
    let tag : is_tag (word_at c.args.frame.now c.tags.place.at) ≡ true = cc in
    sym (tag_there _ _ _ c.tags-test.true tag) ∙ (rw c.if-most-eq0.true at c.tags.invariant.network)

pub returns-then-frame-place-clause-vlans : goal.returns-then-frame-place-clause-vlans
returns-then-frame-place-clause-vlans c = all_vlans _ _ _ _ _ _ (cut_tag _ _ _ c.if-frame-place.true) c.tags.invariant.vlans

pub returns-then-frame-place-clause-network : goal.returns-then-frame-place-clause-network
returns-then-frame-place-clause-network c =
    let tag : is_tag (word_at c.args.frame.now c.tags.place.at) ≡ true = cc in
    sym (tag_passed _ _ _ _ c.if-most-eq0.false c.tags-test.true tag ∙ cut_there _ _ _ _ (omega (arith, c.if-frame-place.true))) ∙ c.tags.invariant.network

pub returns-clause-vlans : goal.returns-clause-vlans
returns-clause-vlans c = all_vlans _ _ _ _ _ _ (cut_tag (length c.args.frame.now) c.tags.place.next _ (omega (arith, c.tags-test.false))) c.tags.invariant.vlans

pub returns-clause-network : goal.returns-clause-network
returns-clause-network c = sym (cut_there _ c.tags.most _ _ c.tags-test.false) ∙ c.tags.invariant.network
