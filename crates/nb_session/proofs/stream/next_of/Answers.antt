use Rattle.std.proofs.Common.{◌≡◌, ℕ, ◌+◌, ◌-◌, List, ◌++◌, take, drop, ap, sym, subst, ◌∙◌, arith}
use Rattle.std.proofs.lemmas.List.{take-append-drop, drop-drop}
use Rattle.nb_session.specs.Packet.{IsPacket}
use Rattle.nb_session.proofs.ParsingLemmas.{taken_whole}
use Rattle.nb_session.proofs.stream.next_of.Goals as goal

pub of-requires : goal.of-requires
of-requires c =
    let few : c.args.start.now + c.in-Whole.used - c.args.start.now ≡ c.in-Whole.used = omega arith in
    let held : List ℕ = drop c.args.start.now c.args.bytes.now in
    (c.in-Whole.field-0, subst (λ (n : ℕ). IsPacket c.in-Whole.field-0 (take n held)) (sym few) (taken_whole c.args.bytes.now c.args.start.now c.in-Whole.used c.in-Whole.field-0 c.in-Whole.ensures.stands))

pub returns-in-Whole-clause-takes : goal.returns-in-Whole-clause-takes
returns-in-Whole-clause-takes c =
    let few : c.args.start.now + c.in-Whole.used - c.args.start.now ≡ c.in-Whole.used = omega arith in
    let start : ℕ = c.args.start.now in
    let used : ℕ = c.in-Whole.used in
    let held : List ℕ = drop start c.args.bytes.now in
    let front : c.of.result.bytes.now ≡ take used held = c.of.ensures ∙ ap (λ (n : ℕ). take n held) few in
    let behind : drop used held ≡ drop (start + used) c.args.bytes.now = drop-drop used start c.args.bytes.now in (
      λ i. record { held = held; failed = c.in_default.is i },
      (c.in-Whole.field-0, subst (IsPacket c.in-Whole.field-0) (sym front) (taken_whole c.args.bytes.now c.args.start.now c.in-Whole.used c.in-Whole.field-0 c.in-Whole.ensures.stands)),
      sym (take-append-drop used held) ∙ ap (λ (r : List ℕ). r ++ drop used held) (sym front) ∙ ap (λ (r : List ℕ). c.of.result.bytes.now ++ r) behind,
      λ i. record { held = drop (start + used) c.args.bytes.now; failed = c.in_default.is i },
    )
