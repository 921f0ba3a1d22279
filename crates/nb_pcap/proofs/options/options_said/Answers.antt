use Rattle.std.proofs.Common.{◌≡◌, ℕ, ◌+◌, ◌-◌, List, take, drop, ap, arith, sym, subst}
use Rattle.nb_pcap.specs.Options.{said_value}
use Rattle.nb_pcap.proofs.OptionsLemmas.{IsWalking, all_said, said_to_end, walked, rest_from}
use Rattle.nb_pcap.proofs.options.options_said.Goals as goal

pub returns : goal.returns
returns c = all_said c.args.order c.args.bytes.now c.options.left.now _ c.options.invariant (omega arith)

pub returns-then-code-eq0 : goal.returns-then-code-eq0
returns-then-code-eq0 c = said_to_end c.args.order c.args.bytes.now c.options.left.now _ c.options.invariant (omega arith) (grind (arith, c.number_16-code.ensures))

pub options-preserved : goal.options-preserved
options-preserved c =
    let size : ℕ = c.number_16-size.result in
    let back : 4 + size - 4 ≡ size = omega arith in
    subst (λ (b : List ℕ). IsWalking c.args.order c.args.bytes.now b (said_value c.noted-said.result)) (sym (rest_from _ c.min.result c.options.left.now (omega (arith, c.min.ensures))))
    (walked c.args.order c.args.bytes.now c.options.left.now _ _ _ _ _ _ c.options.invariant
    (record {
      long = omega arith;
      code_is = c.number_16-code.ensures;
      goes_on = c.if-code-eq0.false;
      size_is = c.number_16-size.ensures;
      within = omega arith;
      value_is = ap (λ (n : ℕ). take n (drop 4 c.options.left.now)) back;
      next_is = c.padded-next.ensures;
      noted = c.noted-said.ensures;
    }))
